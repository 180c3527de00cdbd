use Rattle.std.proofs.Common.{◌≡◌, ◌∙◌, Global, ℕ, None, Result, Ok, Err, IfOk, sym}
use Rattle.std.specs.declared.vec.Vec.{Vec}
use Rattle.std.proofs.lemmas.List.{length-map}
use Rattle.text_tokens.specs.Kinds.{Text}
use Rattle.term_tree.specs.Modules.{Allowed}
use Rattle.term_tree.specs.declared.term.InputDecl.{InputDecl}
use Rattle.term_tree.specs.declared.term.Module.{Module}
use Rattle.term_tree.specs.declared.term.SizeDecl.{SizeDecl}
use Rattle.admission.specs.Admission.{broken}
use Rattle.source_grammar.specs.Source.{input_names, output_names, size_names}
use Rattle.loop_lang.specs.declared.stmt.Prog.{Prog}
use Rattle.loop_run.specs.declared.given.Given.{Given}
use Rattle.run_text.specs.Told.{IsRunText}
use Rattle.run_text.specs.declared.fault.RunFault.{RunFault}
use Rattle.run_text.specs.declared.fault.RunFault.TheVariants as f
use Rattle.run_text.proofs.GivenLengths.{given-inputs, given-sizes}
use Rattle.run_text.proofs.GivenRunLaws.{answer-bad, answer-given, cause-given}
use Rattle.version_run.specs.VersionRun.{IsDenoted, names_of, version_run}
use Rattle.version_run.proofs.DenotedLaws.{denoted}
use Rattle.version_run.proofs.version.run_version.Goals as goal

told-denoted : (m : Module) (p : Prog) (z : Text) (g : Given) (r : Result (Vec ℕ Global) RunFault) → ((text : Text) → Allowed m g.sizes
    → IsRunText p g (output_names m.outputs) text → IsDenoted m p z text)
    → IfOk r (λ text. (broken m g.sizes ≡ None) × IsRunText p g (output_names m.outputs) text.items) → IfOk r (λ _. Allowed m g.sizes)
    → IfOk r (λ told. IsDenoted m p z told.items)
told-denoted m p z g (Ok text) makes run allowed = makes text.items allowed run.1
told-denoted m p z g (Err k) makes run allowed = tt

pub run_given-told-requires-clause-sizes : goal.run_given-told-requires-clause-sizes
run_given-told-requires-clause-sizes c =
    let m = c.args.module.now in
    given-sizes (size_names m.sizes) (input_names m.inputs) c.args.text.now c.in-Ok.given c.in-Ok.ensures.found ∙ length-map m.sizes (λ (d : SizeDecl). d.name)

pub run_given-told-requires-clause-inputs : goal.run_given-told-requires-clause-inputs
run_given-told-requires-clause-inputs c =
    let m = c.args.module.now in
    given-inputs (size_names m.sizes) (input_names m.inputs) c.args.text.now c.in-Ok.given c.in-Ok.ensures.found
    ∙ length-map m.inputs (λ (d : InputDecl). d.name) ∙ sym c.requires.inputs

pub returns-in-Ok-clause-answer : goal.returns-in-Ok-clause-answer
returns-in-Ok-clause-answer c =
    let m = c.args.module.now in
    answer-given Global (names_of m) (broken m) c.args.prog.now c.args.text.now c.in-Ok.given c.run_given-told.result c.in-Ok.ensures.exact
    c.run_given-told.ensures.answer

pub returns-in-Ok-clause-denoted : goal.returns-in-Ok-clause-denoted
returns-in-Ok-clause-denoted c =
    let m = c.args.module.now in
    let p = c.args.prog.now in
    told-denoted m p c.args.text.now c.in-Ok.given c.run_given-told.result
    (λ text allowed run. denoted m p c.args.text.now c.in-Ok.given text c.requires.lengths c.requires.correct c.requires.inputs c.in-Ok.ensures.found allowed run)
    c.run_given-told.ensures.run c.run_given-told.ensures.allowed

pub returns-in-Ok-clause-refused : goal.returns-in-Ok-clause-refused
returns-in-Ok-clause-refused c =
    let m = c.args.module.now in
    cause-given Global (names_of m) (broken m) c.args.prog.now c.args.text.now c.in-Ok.given c.in-Ok.ensures.found c.run_given-told.result
    c.run_given-told.ensures.answer

pub returns-in-Err-BadData-clause-answer : goal.returns-in-Err-BadData-clause-answer
returns-in-Err-BadData-clause-answer c =
    let m = c.args.module.now in
    let h : version_run m c.args.prog.now c.args.text.now ≡ Err (f.BadData c.in-Err-BadData.at) =
    answer-bad Global (names_of m) (broken m) c.args.prog.now c.args.text.now c.in-Err-BadData.at
    (rw c.in-Err-BadData.field-0-is at c.in-Err-BadData.ensures.exact) in
    cc (h, c.in-Err-BadData.at-is)
