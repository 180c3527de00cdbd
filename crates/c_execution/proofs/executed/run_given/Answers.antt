use Rattle.std.proofs.Common.{◌∙◌, Global, ℕ, length, ap, sym, arith}
use Rattle.std.specs.declared.string.String.{String}
use Rattle.std.proofs.lemmas.List.FromFn.{length-map-range_with_len}
use Rattle.loop_lang.specs.declared.word.Buf.TheVariants.{Output}
use Rattle.c_print.specs.Word.{buffer_name}
use Rattle.run_text.proofs.NamedLaws.{as-many}
use Rattle.c_execution.specs.Executed.{broken_from_1}
use Rattle.c_execution.specs.Names.{output_names}
use Rattle.c_execution.proofs.SizeLaws.{sizes-fit}
use Rattle.c_execution.proofs.executed.run_given.Goals as goal

pub broken_size-broken-requires : goal.broken_size-broken-requires
broken_size-broken-requires c = omega (arith, ap (length {A = ℕ}) c.as_slice.ensures, c.requires.sizes)

pub run_checked-requires-clause-sizes : goal.run_checked-requires-clause-sizes
run_checked-requires-clause-sizes c = λ none.
    sizes-fit 1 c.args.given.now.sizes (sym (c.broken_size-broken.ensures ∙ ap broken_from_1 c.as_slice.ensures) ∙ none)

pub run_checked-requires-clause-names : goal.run_checked-requires-clause-names
run_checked-requires-clause-names c =
    let outputs = c.args.prog.now.outputs in
    let many = as-many c.in-Ok.names.items (output_names outputs) c.in-Ok.ensures in
    let few = length-map-range_with_len (λ (k : ℕ). buffer_name (Output k)) 0 outputs in
    omega (arith, many, few, ap (length {A = String Global}) c.deref.ensures.value)
