use Rattle.std.proofs.Common.{Global, map, string_bytes}
use Rattle.program_run.specs.Ran.{ran}
use Rattle.run_text.proofs.ToldLaws.{text-run, told-err, told-ok}
use Rattle.run_text.proofs.told.run_told.Goals as goal

pub returns-in-Ok-clause-answer : goal.returns-in-Ok-clause-answer
returns-in-Ok-clause-answer c = told-ok Global (map string_bytes c.args.names.now) c.in-Ok.ran _ c.text_of-text.result c.in-Ok.ensures.answer c.text_of-text.ensures

pub returns-in-Ok-clause-run : goal.returns-in-Ok-clause-run
returns-in-Ok-clause-run c =
    text-run Global (map string_bytes c.args.names.now) c.args.prog.now c.args.given.now c.in-Ok.ran c.text_of-text.result c.in-Ok.ensures.run c.text_of-text.ensures

pub returns-in-Err-clause-answer : goal.returns-in-Err-clause-answer
returns-in-Err-clause-answer c =
    told-err Global (map string_bytes c.args.names.now) c.in-Err.refusal (ran c.args.prog.now c.args.given.now) c.fault_of.result c.fault_of.ensures c.in-Err.ensures.answer
