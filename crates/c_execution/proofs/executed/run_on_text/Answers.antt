use Rattle.std.proofs.Common.{◌≡◌, ◌∙◌, Global, ℕ, Err}
use Rattle.std.proofs.lemmas.List.FromFn.{length-map-range_with_len}
use Rattle.loop_lang.specs.declared.word.Buf.TheVariants.{Input}
use Rattle.c_print.specs.Index.{size_name}
use Rattle.c_print.specs.Word.{buffer_name}
use Rattle.run_text.proofs.GivenLengths.{given-inputs, given-sizes}
use Rattle.run_text.proofs.GivenRunLaws.{answer-bad, answer-given, cause-given, told-run}
use Rattle.run_text.specs.declared.fault.RunFault.TheVariants as f
use Rattle.c_execution.specs.Executed.{broken_from_1, executed, names_of}
use Rattle.c_execution.specs.Names.{input_names, size_names}
use Rattle.c_execution.proofs.executed.run_on_text.Goals as goal

pub run_given-told-requires-clause-sizes : goal.run_given-told-requires-clause-sizes
run_given-told-requires-clause-sizes c =
    let p = c.args.prog.now in
    given-sizes (size_names p.sizes) (input_names p.inputs) c.args.text.now c.in-Ok.given c.in-Ok.ensures.found ∙ length-map-range_with_len size_name 0 p.sizes

pub run_given-told-requires-clause-inputs : goal.run_given-told-requires-clause-inputs
run_given-told-requires-clause-inputs c =
    let p = c.args.prog.now in
    given-inputs (size_names p.sizes) (input_names p.inputs) c.args.text.now c.in-Ok.given c.in-Ok.ensures.found
    ∙ length-map-range_with_len (λ (k : ℕ). buffer_name (Input k)) 0 p.inputs

pub returns-in-Ok-clause-answer : goal.returns-in-Ok-clause-answer
returns-in-Ok-clause-answer c =
    let p = c.args.prog.now in
    answer-given Global (names_of p) broken_from_1 p c.args.text.now c.in-Ok.given c.run_given-told.result c.in-Ok.ensures.exact c.run_given-told.ensures.answer

pub returns-in-Ok-clause-run : goal.returns-in-Ok-clause-run
returns-in-Ok-clause-run c =
    let p = c.args.prog.now in
    told-run Global (names_of p) broken_from_1 p c.args.text.now c.in-Ok.given c.run_given-told.result c.in-Ok.ensures.found c.run_given-told.ensures.run

pub returns-in-Ok-clause-refused : goal.returns-in-Ok-clause-refused
returns-in-Ok-clause-refused c =
    let p = c.args.prog.now in
    cause-given Global (names_of p) broken_from_1 p c.args.text.now c.in-Ok.given c.in-Ok.ensures.found c.run_given-told.result c.run_given-told.ensures.answer

pub returns-in-Err-BadData-clause-answer : goal.returns-in-Err-BadData-clause-answer
returns-in-Err-BadData-clause-answer c =
    let p = c.args.prog.now in
    let h : executed p c.args.text.now ≡ Err (f.BadData c.in-Err-BadData.at) =
    answer-bad Global (names_of p) broken_from_1 p c.args.text.now c.in-Err-BadData.at (rw c.in-Err-BadData.field-0-is at c.in-Err-BadData.ensures.exact) in
    cc (h, c.in-Err-BadData.at-is)
