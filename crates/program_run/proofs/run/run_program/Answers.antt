use Rattle.program_run.proofs.RunLaws.{answer-made, answer-unmade, run-made}
use Rattle.program_run.proofs.run.run_program.Goals as goal

pub returns-in-Ok-clause-answer : goal.returns-in-Ok-clause-answer
returns-in-Ok-clause-answer c = answer-made c.args.prog.now c.args.given.now c.in-Ok.buffers c.run_on.result c.in-Ok.ensures.answer c.run_on.ensures

pub returns-in-Ok-clause-run : goal.returns-in-Ok-clause-run
returns-in-Ok-clause-run c =
    run-made c.args.prog.now c.args.given.now c.in-Ok.buffers c.run_on.result c.in-Ok.ensures.answer c.in-Ok.ensures.memory c.run_on.ensures

pub returns-in-Err-clause-answer : goal.returns-in-Err-clause-answer
returns-in-Err-clause-answer c = answer-unmade c.args.prog.now c.args.given.now c.in-Err.refusal c.in-Err.ensures.answer
