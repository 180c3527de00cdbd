use Rattle.std.proofs.Common.{Global, ap}
use Rattle.ended_runs.proofs.EndLaws.{runs-end}
use Rattle.atl_driver.specs.Asked.{errand_of, given_to}
use Rattle.atl_driver.specs.Compile.{errand_run, ran_as}
use Rattle.atl_driver.proofs.RunLaws.{answers_unran, refused_unran}
use Rattle.atl_driver.proofs.last_run.program_text.Goals as goal

pub returns-in-Ok-clause-answers : goal.returns-in-Ok-clause-answers
returns-in-Ok-clause-answers c = ap ran_as c.in-Ok.ensures.answer

pub returns-in-Err-clause-answers : goal.returns-in-Err-clause-answers
returns-in-Err-clause-answers c =
    answers_unran Global (errand_run (errand_of c.args.task) c.args.module.now c.args.program.now) c.in-Err.fault c.unran.result c.in-Err.ensures.answer
    c.unran.ensures

pub returns-in-Err-clause-refused : goal.returns-in-Err-clause-refused
returns-in-Err-clause-refused c =
    refused_unran Global c.args.module.now c.args.program.now (given_to (errand_of c.args.task)) c.in-Err.fault c.unran.result
    (runs-end c.args.module.now c.args.program.now c.requires.formed c.requires.inputs c.requires.lengths c.requires.correct
    (given_to (errand_of c.args.task))) c.in-Err.ensures.refused c.unran.ensures
