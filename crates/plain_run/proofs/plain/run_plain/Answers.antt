use Rattle.std.proofs.Common.{◌≡◌, ◌∙◌, Global, Err}
use Rattle.std.proofs.lemmas.List.{length-map}
use Rattle.term_tree.specs.declared.term.InputDecl.{InputDecl}
use Rattle.term_tree.specs.declared.term.SizeDecl.{SizeDecl}
use Rattle.source_grammar.specs.Source.{input_names, size_names}
use Rattle.run_text.proofs.GivenLengths.{given-inputs, given-sizes}
use Rattle.plain_run.specs.PlainRun.{plain_run}
use Rattle.plain_run.specs.declared.fault.PlainFault.TheVariants as f
use Rattle.plain_run.proofs.PlainLaws.{answer-read, answer-unread, cause-told, denoted-told}
use Rattle.plain_run.proofs.WordLaws.{given-words}
use Rattle.plain_run.proofs.plain.run_plain.Goals as goal

pub on_given-told-requires-clause-same : goal.on_given-told-requires-clause-same
on_given-told-requires-clause-same c =
    let m = c.args.module.now in
    given-sizes (size_names m.sizes) (input_names m.inputs) c.args.text.now c.in-Ok.given c.in-Ok.ensures.found ∙ length-map m.sizes (λ (d : SizeDecl). d.name)

pub on_given-told-requires-clause-inputs : goal.on_given-told-requires-clause-inputs
on_given-told-requires-clause-inputs c =
    let m = c.args.module.now in
    given-inputs (size_names m.sizes) (input_names m.inputs) c.args.text.now c.in-Ok.given c.in-Ok.ensures.found
    ∙ length-map m.inputs (λ (d : InputDecl). d.name)

pub on_given-told-requires-clause-words : goal.on_given-told-requires-clause-words
on_given-told-requires-clause-words c =
    let m = c.args.module.now in
    given-words (size_names m.sizes) (input_names m.inputs) c.args.text.now c.in-Ok.given c.in-Ok.ensures.found

pub returns-in-Ok-clause-answer : goal.returns-in-Ok-clause-answer
returns-in-Ok-clause-answer c =
    answer-read Global c.args.module.now c.args.text.now c.in-Ok.given c.on_given-told.result c.in-Ok.ensures.exact c.on_given-told.ensures.answer

pub returns-in-Ok-clause-denoted : goal.returns-in-Ok-clause-denoted
returns-in-Ok-clause-denoted c =
    let m = c.args.module.now in
    denoted-told m c.args.text.now c.in-Ok.given c.in-Ok.ensures.found Global c.on_given-told.result
    (given-inputs (size_names m.sizes) (input_names m.inputs) c.args.text.now c.in-Ok.given c.in-Ok.ensures.found
    ∙ length-map m.inputs (λ (d : InputDecl). d.name))
    (given-words (size_names m.sizes) (input_names m.inputs) c.args.text.now c.in-Ok.given c.in-Ok.ensures.found)
    c.on_given-told.ensures.answer c.on_given-told.ensures.allowed

pub returns-in-Ok-clause-refused : goal.returns-in-Ok-clause-refused
returns-in-Ok-clause-refused c =
    let m = c.args.module.now in
    cause-told m c.args.text.now c.in-Ok.given c.in-Ok.ensures.found Global c.on_given-told.result c.on_given-told.ensures.answer

pub returns-in-Err-BadData-clause-answer : goal.returns-in-Err-BadData-clause-answer
returns-in-Err-BadData-clause-answer c =
    let h : plain_run c.args.module.now c.args.text.now ≡ Err (f.BadData c.in-Err-BadData.at) =
    answer-unread Global c.args.module.now c.args.text.now c.in-Err-BadData.at
    (rw c.in-Err-BadData.field-0-is at c.in-Err-BadData.ensures.exact) in
    cc (h, c.in-Err-BadData.at-is)
