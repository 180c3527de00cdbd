use Rattle.std.proofs.Common.{ℕ, ◌+◌, map, string_bytes, arith}
use Rattle.std.proofs.lemmas.List.FromFn.{map-range_with_len_more}
use Rattle.loop_lang.specs.declared.word.Buf.TheVariants.{Input}
use Rattle.c_print.specs.Word.{buffer_name}
use Rattle.run_text.proofs.NamedLaws.{named-more}
use Rattle.c_execution.specs.Names.{input_names}
use Rattle.c_execution.proofs.names.put_inputs.Goals as goal

pub loop-input-preserved : goal.loop-input-preserved
loop-input-preserved c =
    let i = c.loop-input.input in
    named-more c.loop-input.names.items c.push.new.self.items (map string_bytes c.args.names.now.items) (input_names i) (input_names (i + 1))
    c.in_ok-buffer_name.field-0 (buffer_name (Input i)) c.loop-input.invariant c.in_ok-push.ensures.items c.in_ok-buffer_name.ensures
    (map-range_with_len_more (λ (k : ℕ). buffer_name (Input k)) 0 i i (omega arith))
