use Rattle.std.proofs.Common.{subst, sym}
use Rattle.reindexer.specs.Limited.{Limited}
use Rattle.region_plan.specs.Correct.{IsPlan}
use Rattle.region_plan.specs.declared.planned.Planned.{Planned}
use Rattle.region_plan.proofs.ModuleLaws.{answer_right}
use Rattle.region_plan.proofs.modules.plan.Goals as goal

pub returns-in-Ok-clause-right : goal.returns-in-Ok-clause-right
returns-in-Ok-clause-right c =
    answer_right c.args.module.now c.printed.result c.requires
    (subst (λ (d : Limited Planned). IsPlan d c.printed.result) (sym c.in-Ok.ensures) c.printed.ensures)
