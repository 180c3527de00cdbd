use Rattle.std.proofs.Common.{ap}
use Rattle.atl_driver.specs.Asked.{errand_of}
use Rattle.atl_driver.proofs.RunLaws.{errand_answers, errand_refused, errand_told}
use Rattle.atl_driver.proofs.last_run.program_run.Goals as goal

pub returns-in-OnText-clause-answer : goal.returns-in-OnText-clause-answer
returns-in-OnText-clause-answer c =
    errand_answers _ _ c.args.module.now c.args.program.now c.run_version.result (ap errand_of c.in-OnText.is) c.run_version.ensures.answer

pub returns-in-OnText-clause-told : goal.returns-in-OnText-clause-told
returns-in-OnText-clause-told c =
    errand_told _ _ c.args.module.now c.args.program.now c.run_version.result (ap errand_of c.in-OnText.is) c.run_version.ensures.denoted

pub returns-in-OnText-clause-refused : goal.returns-in-OnText-clause-refused
returns-in-OnText-clause-refused c =
    errand_refused _ _ c.args.module.now c.args.program.now c.run_version.result (ap errand_of c.in-OnText.is) c.run_version.ensures.refused

pub returns-in-OfTrial-clause-answer : goal.returns-in-OfTrial-clause-answer
returns-in-OfTrial-clause-answer c =
    errand_answers _ _ c.args.module.now c.args.program.now c.run_trial.result (ap errand_of c.in-OfTrial.is) c.run_trial.ensures.answer

pub returns-in-OfTrial-clause-told : goal.returns-in-OfTrial-clause-told
returns-in-OfTrial-clause-told c =
    errand_told _ _ c.args.module.now c.args.program.now c.run_trial.result (ap errand_of c.in-OfTrial.is) c.run_trial.ensures.denoted

pub returns-in-OfTrial-clause-refused : goal.returns-in-OfTrial-clause-refused
returns-in-OfTrial-clause-refused c =
    errand_refused _ _ c.args.module.now c.args.program.now c.run_trial.result (ap errand_of c.in-OfTrial.is) c.run_trial.ensures.refused
