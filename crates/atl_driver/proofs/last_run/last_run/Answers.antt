use Rattle.std.proofs.Common.{Global}
use Rattle.lowering_laws.specs.Lowered.{loops_of}
use Rattle.atl_driver.specs.Asked.{errand_of, given_to}
use Rattle.atl_driver.specs.Compile.{loops_run}
use Rattle.atl_driver.specs.Correct.{IsUnran}
use Rattle.atl_driver.proofs.RunLaws.{last_accepted, last_answers, last_refused, last_told, unlowerable_left, unlowerable_unran}
use Rattle.atl_driver.proofs.last_run.last_run.Goals as goal

pub returns-in-Ok-clause-answers : goal.returns-in-Ok-clause-answers
returns-in-Ok-clause-answers c =
    last_answers c.in-Ok.last c.args.module.now c.args.finals.now c.args.marks.now (errand_of c.args.task) c.run_of-text.result c.in-Ok.ensures.held
    c.in-Ok.ensures.answers c.run_of-text.ensures.answers

pub returns-in-Ok-clause-accepted : goal.returns-in-Ok-clause-accepted
returns-in-Ok-clause-accepted c = last_accepted c.run_of-text.result _ c.in-Ok.ensures.answers

pub returns-in-Ok-clause-told : goal.returns-in-Ok-clause-told
returns-in-Ok-clause-told c =
    last_told c.in-Ok.last c.args.module.now c.args.finals.now c.args.marks.now (errand_of c.args.task) c.run_of-text.result c.in-Ok.ensures.held
    c.run_of-text.ensures.told

pub returns-in-Ok-clause-refused : goal.returns-in-Ok-clause-refused
returns-in-Ok-clause-refused c = λ fault is accepted.
    last_refused c.in-Ok.last c.args.module.now c.args.finals.now c.args.marks.now (errand_of c.args.task) c.run_of-text.result c.in-Ok.ensures.held
    c.run_of-text.ensures.refused fault is

pub returns-in-Err-clause-answers : goal.returns-in-Err-clause-answers
returns-in-Err-clause-answers c =
    unlowerable_left Global _ (loops_run (errand_of c.args.task) c.args.marks.now c.args.module.now) c.in-Err.fault c.unlowerable.result
    c.in-Err.ensures.answers c.unlowerable.ensures

pub returns-in-Err-clause-refused : goal.returns-in-Err-clause-refused
returns-in-Err-clause-refused c = λ fault is accepted.
    unlowerable_unran Global (IsUnran c.args.module.now (loops_of c.args.module.now c.args.marks.now) (given_to (errand_of c.args.task)) fault) _
    c.in-Err.fault c.unlowerable.result c.in-Err.ensures.answers c.unlowerable.ensures fault is accepted
