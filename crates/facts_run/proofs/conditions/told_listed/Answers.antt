use Rattle.facts_run.proofs.ListedLaws.{step_listed, step_nowhere}
use Rattle.schedule_run.proofs.VersionLaws.{may_focus}
use Rattle.facts_run.proofs.conditions.told_listed.Goals as goal

pub focus-requires-clause-limited : goal.focus-requires-clause-limited
focus-requires-clause-limited c = may_focus c.args.module.now c.requires

pub returns-in-Ok : goal.returns-in-Ok
returns-in-Ok c = step_listed c.args.module.now c.args.step.now c.in-Ok.place c.in-Ok.ensures.focus c.in-Ok.ensures.proper

pub returns-in-Err-NoSuchPath : goal.returns-in-Err-NoSuchPath
returns-in-Err-NoSuchPath c = step_nowhere c.args.module.now c.args.step.now
    (rw c.in-Err-NoSuchPath.field-0-is at c.in-Err-NoSuchPath.ensures.focus)
