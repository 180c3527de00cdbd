use Rattle.std.proofs.Common.{Global, arith}
use Rattle.std.specs.Prelude.{option_copied}
use Rattle.atl_driver.specs.Asked.{asked_for}
use Rattle.atl_driver.proofs.CompileLaws.{answers_read, answers_unread, compiled_read, refused_read, refused_unread, text_of_one}
use Rattle.atl_driver.proofs.HasOutputs.{source-some}
use Rattle.atl_driver.proofs.compile.emit_bytes.Goals as goal

pub module_text-requires-clause-scoped : goal.module_text-requires-clause-scoped
module_text-requires-clause-scoped c = c.in-Ok.ensures.scoped

pub module_text-requires-clause-some : goal.module_text-requires-clause-some
module_text-requires-clause-some c = source-some c.args.source.now c.in-Ok.origin c.in-Ok.ensures.found

pub module_text-requires-clause-few : goal.module_text-requires-clause-few
module_text-requires-clause-few c = c.in-Ok.ensures.found.few

pub module_text-requires-clause-shallow : goal.module_text-requires-clause-shallow
module_text-requires-clause-shallow c = c.in-Ok.ensures.found.shallow

pub module_text-requires-clause-sizes : goal.module_text-requires-clause-sizes
module_text-requires-clause-sizes c = omega (arith, c.requires.source, c.in-Ok.ensures.few)

pub module_text-requires-clause-inputs : goal.module_text-requires-clause-inputs
module_text-requires-clause-inputs c = omega (arith, c.requires.source, c.in-Ok.ensures.few)

pub module_text-requires-clause-outputs : goal.module_text-requires-clause-outputs
module_text-requires-clause-outputs c = omega (arith, c.requires.source, c.in-Ok.ensures.few)

pub module_text-requires-clause-example : goal.module_text-requires-clause-example
module_text-requires-clause-example c = c.in-Ok.ensures.example

pub module_text-requires-clause-printable : goal.module_text-requires-clause-printable
module_text-requires-clause-printable c = c.what_is_read_is_printable.ensures c.args.source.now c.in-Ok.origin c.in-Ok.ensures.found c.requires.source

pub module_text-requires-clause-script : goal.module_text-requires-clause-script
module_text-requires-clause-script c = c.requires.script

pub module_text-requires-clause-given : goal.module_text-requires-clause-given
module_text-requires-clause-given c = c.requires.given

pub returns-in-Ok-clause-answers : goal.returns-in-Ok-clause-answers
returns-in-Ok-clause-answers c =
    answers_read (asked_for c.args.emit) c.args.source.now (option_copied c.args.script) c.in-Ok.origin c.module_text.result c.in-Ok.ensures.exact
    c.module_text.ensures.answers

pub returns-in-Ok-clause-correct : goal.returns-in-Ok-clause-correct
returns-in-Ok-clause-correct c =
    compiled_read (asked_for c.args.emit) c.args.source.now (option_copied c.args.script) c.in-Ok.origin c.module_text.result
    (text_of_one c.args.source.now c.in-Ok.origin c.in-Ok.ensures.found c.in-Ok.ensures.only)
    c.module_text.ensures.under

pub returns-in-Ok-clause-refused : goal.returns-in-Ok-clause-refused
returns-in-Ok-clause-refused c =
    refused_read (asked_for c.args.emit) c.args.source.now (option_copied c.args.script) c.in-Ok.origin c.module_text.result
    (text_of_one c.args.source.now c.in-Ok.origin c.in-Ok.ensures.found c.in-Ok.ensures.only)
    c.module_text.ensures.refused

pub returns-in-Err-clause-answers : goal.returns-in-Err-clause-answers
returns-in-Err-clause-answers c =
    answers_unread Global (asked_for c.args.emit) c.args.source.now (option_copied c.args.script) c.in-Err.fault c.unread.result c.in-Err.ensures.exact
    c.unread.ensures

pub returns-in-Err-clause-refused : goal.returns-in-Err-clause-refused
returns-in-Err-clause-refused c =
    refused_unread Global (asked_for c.args.emit) c.args.source.now (option_copied c.args.script) c.in-Err.fault c.unread.result c.in-Err.ensures.refused
    c.in-Err.ensures.first c.in-Err.ensures.only c.unread.ensures
