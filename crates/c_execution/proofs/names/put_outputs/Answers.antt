use Rattle.std.proofs.Common.{ℕ, ◌+◌, map, string_bytes, arith}
use Rattle.std.proofs.lemmas.List.FromFn.{map-range_with_len_more}
use Rattle.loop_lang.specs.declared.word.Buf.TheVariants.{Output}
use Rattle.c_print.specs.Word.{buffer_name}
use Rattle.run_text.proofs.NamedLaws.{named-more}
use Rattle.c_execution.specs.Names.{output_names}
use Rattle.c_execution.proofs.names.put_outputs.Goals as goal

pub loop-output-preserved : goal.loop-output-preserved
loop-output-preserved c =
    let i = c.loop-output.output in
    named-more c.loop-output.names.items c.push.new.self.items (map string_bytes c.args.names.now.items) (output_names i) (output_names (i + 1))
    c.in_ok-buffer_name.field-0 (buffer_name (Output i)) c.loop-output.invariant c.in_ok-push.ensures.items c.in_ok-buffer_name.ensures
    (map-range_with_len_more (λ (k : ℕ). buffer_name (Output k)) 0 i i (omega arith))
