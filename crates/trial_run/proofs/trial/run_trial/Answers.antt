use Rattle.std.proofs.Common.{◌≡◌, ◌∙◌, Global, Err, sym}
use Rattle.std.proofs.lemmas.List.{length-map}
use Rattle.term_tree.specs.declared.term.InputDecl.{InputDecl}
use Rattle.term_tree.specs.declared.term.SizeDecl.{SizeDecl}
use Rattle.source_grammar.specs.Source.{input_names, size_names}
use Rattle.run_text.specs.declared.fault.RunFault.TheVariants as f
use Rattle.run_text.proofs.GivenLengths.{given-inputs, given-sizes}
use Rattle.trial_text.specs.TrialText.{trial_given}
use Rattle.trial_run.specs.TrialRun.{trial_run}
use Rattle.trial_run.proofs.TrialLaws.{answer-read, answer-unread, denoted-line}
use Rattle.trial_run.proofs.trial.run_trial.Goals as goal

pub run_checked-line-requires-clause-sizes : goal.run_checked-line-requires-clause-sizes
run_checked-line-requires-clause-sizes c =
    let m = c.args.module.now in
    given-sizes (size_names m.sizes) (input_names m.inputs) trial_given c.in-Ok.given c.in-Ok.ensures.found ∙ length-map m.sizes (λ (d : SizeDecl). d.name)

pub run_checked-line-requires-clause-inputs : goal.run_checked-line-requires-clause-inputs
run_checked-line-requires-clause-inputs c =
    let m = c.args.module.now in
    given-inputs (size_names m.sizes) (input_names m.inputs) trial_given c.in-Ok.given c.in-Ok.ensures.found
    ∙ length-map m.inputs (λ (d : InputDecl). d.name) ∙ sym c.requires.inputs

pub returns-in-Ok-clause-answer : goal.returns-in-Ok-clause-answer
returns-in-Ok-clause-answer c =
    answer-read c.args.steps c.args.module.now c.args.prog.now Global c.in-Ok.given c.run_checked-line.result c.in-Ok.ensures.exact
    c.run_checked-line.ensures.answer

pub returns-in-Ok-clause-denoted : goal.returns-in-Ok-clause-denoted
returns-in-Ok-clause-denoted c =
    denoted-line c.args.steps c.args.module.now c.args.prog.now Global c.in-Ok.given c.run_checked-line.result c.requires.lengths c.requires.correct
    c.requires.inputs c.in-Ok.ensures.exact c.in-Ok.ensures.found c.run_checked-line.ensures.allowed c.run_checked-line.ensures.run

pub returns-in-Err-BadData-clause-answer : goal.returns-in-Err-BadData-clause-answer
returns-in-Err-BadData-clause-answer c =
    let h : trial_run c.args.steps c.args.module.now c.args.prog.now ≡ Err (f.BadData c.in-Err-BadData.at) =
    answer-unread c.args.steps c.args.module.now c.args.prog.now Global c.in-Err-BadData.at
    (rw c.in-Err-BadData.field-0-is at c.in-Err-BadData.ensures.exact) in
    cc (h, c.in-Err-BadData.at-is)
