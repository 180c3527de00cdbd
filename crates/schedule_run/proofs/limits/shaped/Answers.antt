use Rattle.std.proofs.Common.{subst, sym}
use Rattle.schedule_run.specs.Verdict.{Tells, shaped}
use Rattle.schedule_run.proofs.LimitLaws.{limit_told, none_broken}
use Rattle.schedule_run.proofs.limits.shaped.Goals as goal

pub returns-in-Ok-clause-answers : goal.returns-in-Ok-clause-answers
returns-in-Ok-clause-answers c = none_broken c.args.version.now c.in-Ok.ensures.shaped

pub returns-clause-answers : goal.returns-clause-answers
returns-clause-answers c =
    subst (Tells (shaped c.args.version.now)) (sym c.limit_of.ensures) (limit_told c.args.version.now c.in-Err.fault (c.in-Err.ensures {u = tt}).goals)
