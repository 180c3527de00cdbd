use Rattle.schedule_run.proofs.VersionLaws.{may_focus}
use Rattle.schedule_run.proofs.conditions.owed.Goals as goal

pub focus-requires-clause-limited : goal.focus-requires-clause-limited
focus-requires-clause-limited c = may_focus c.args.module.now c.requires
