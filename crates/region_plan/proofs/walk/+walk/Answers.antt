use Rattle.std.proofs.Common.{subst}
use Rattle.affine_index.specs.Sum.{sum_of}
use Rattle.reindexer.specs.Limited.{Answers, Limited}
use Rattle.shape_rules.specs.Scopes.{given}
use Rattle.region_plan.specs.declared.planned.Planned.{Planned}
use Rattle.region_plan.proofs.WalkLaws.{falls, let_less, one_less, two_less, let_planned, let_shaped, one_planned, one_shaped, two_planned, two_shaped}
use Rattle.region_plan.proofs.walk.+walk.Goals as goal

pub walk-let_in-requires : goal.walk-let_in-requires
walk-let_in-requires t c = (
  falls c.decreases (let_less c.args.term.now c.in-Let.a c.in-Let.b c.get.result.now c.get-in-Let.result.now c.get.ensures c.get-in-Let.ensures c.in-Let.is),
  (
    let_shaped c.args.shapes.now c.args.term.now c.in-Let.a c.in-Let.b c.get.result.now c.get-in-Let.result.now c.get.ensures c.get-in-Let.ensures
        c.in-Let.is c.requires.shaped,
    c.requires.free,
  ),
)

pub walk-two_parts-requires : goal.walk-two_parts-requires
walk-two_parts-requires t c =
    let p = two_shaped c.args.shapes.now c.args.term.now c.in-Add.a c.in-Add.b c.get-in-Add.result.now c.get-in-Add-2.result.now c.get-in-Add.ensures
    c.get-in-Add-2.ensures c.in-Add.is c.requires.shaped in (
      falls c.decreases (two_less c.args.term.now c.in-Add.a c.in-Add.b c.get-in-Add.result.now c.get-in-Add-2.result.now c.get-in-Add.ensures
          c.get-in-Add-2.ensures c.in-Add.is),
      (p.0, (p.1, c.requires.free)),
    )

pub walk-walk-requires : goal.walk-walk-requires
walk-walk-requires t c = (
  falls c.decreases (one_less c.args.term.now c.in-Index.e c.get-in-Index.result.now c.get-in-Index.ensures c.in-Index.is),
  (
    one_shaped c.args.shapes.now c.args.term.now c.in-Index.e c.get-in-Index.result.now c.get-in-Index.ensures c.in-Index.is c.requires.shaped,
    c.requires.free,
  ),
)

pub walk-returns-in-Let-clause-plan : goal.walk-returns-in-Let-clause-plan
walk-returns-in-Let-clause-plan t c =
    subst (λ (due : Limited Planned). Answers due c.let_in.result)
    (let_planned c.args.term.now c.in-Let.a c.in-Let.b c.get.result.now c.get-in-Let.result.now (given c.args.shapes.now)
    (sum_of c.args.base.now c.args.above.now) c.get.ensures c.get-in-Let.ensures c.in-Let.is)
    c.let_in.ensures.plan

pub walk-returns-in-Add-clause-plan : goal.walk-returns-in-Add-clause-plan
walk-returns-in-Add-clause-plan t c =
    subst (λ (due : Limited Planned). Answers due c.two_parts.result)
    (two_planned c.args.term.now c.in-Add.a c.in-Add.b c.get-in-Add.result.now c.get-in-Add-2.result.now (given c.args.shapes.now)
    (sum_of c.args.base.now c.args.above.now) c.get-in-Add.ensures c.get-in-Add-2.ensures c.in-Add.is)
    c.two_parts.ensures.plan

pub walk-returns-in-Index-clause-plan : goal.walk-returns-in-Index-clause-plan
walk-returns-in-Index-clause-plan t c =
    subst (λ (due : Limited Planned). Answers due c.walk.result)
    (one_planned c.args.term.now c.in-Index.e c.get-in-Index.result.now (given c.args.shapes.now) (sum_of c.args.base.now c.args.above.now)
    c.get-in-Index.ensures c.in-Index.is)
    c.walk.ensures.plan
