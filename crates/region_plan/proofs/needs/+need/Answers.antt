use Rattle.std.proofs.Common.{subst}
use Rattle.reindexer.specs.Limited.{Answers, Limited}
use Rattle.shape_rules.specs.Scopes.{given}
use Rattle.region_plan.specs.declared.length.Length.{Length}
use Rattle.region_plan.proofs.WalkLaws.{falls, let_less, one_less, two_less, let_needed, let_shaped, one_needed, one_shaped, two_needed, two_shaped}
use Rattle.region_plan.proofs.needs.+need.Goals as goal

pub need-let_need-requires : goal.need-let_need-requires
need-let_need-requires t c = (
  falls c.decreases (let_less c.args.term.now c.in-Let.a c.in-Let.b c.get.result.now c.get-in-Let.result.now c.get.ensures c.get-in-Let.ensures c.in-Let.is),
  (
    let_shaped c.args.shapes.now c.args.term.now c.in-Let.a c.in-Let.b c.get.result.now c.get-in-Let.result.now c.get.ensures c.get-in-Let.ensures
        c.in-Let.is c.requires.shaped,
    c.requires.free,
  ),
)

pub need-two_needs-requires : goal.need-two_needs-requires
need-two_needs-requires t c =
    let p = two_shaped c.args.shapes.now c.args.term.now c.in-Add.a c.in-Add.b c.get-in-Add.result.now c.get-in-Add-2.result.now c.get-in-Add.ensures
    c.get-in-Add-2.ensures c.in-Add.is c.requires.shaped in (
      falls c.decreases (two_less c.args.term.now c.in-Add.a c.in-Add.b c.get-in-Add.result.now c.get-in-Add-2.result.now c.get-in-Add.ensures
          c.get-in-Add-2.ensures c.in-Add.is),
      (p.0, (p.1, c.requires.free)),
    )

pub need-need-requires : goal.need-need-requires
need-need-requires t c = (
  falls c.decreases (one_less c.args.term.now c.in-Index.e c.get-in-Index.result.now c.get-in-Index.ensures c.in-Index.is),
  (
    one_shaped c.args.shapes.now c.args.term.now c.in-Index.e c.get-in-Index.result.now c.get-in-Index.ensures c.in-Index.is c.requires.shaped,
    c.requires.free,
  ),
)

pub need-returns-in-Let-clause-need : goal.need-returns-in-Let-clause-need
need-returns-in-Let-clause-need t c =
    subst (λ (due : Limited Length). Answers due c.let_need.result)
    (let_needed c.args.term.now c.in-Let.a c.in-Let.b c.get.result.now c.get-in-Let.result.now (given c.args.shapes.now) c.get.ensures c.get-in-Let.ensures
    c.in-Let.is)
    c.let_need.ensures.need

pub need-returns-in-Add-clause-need : goal.need-returns-in-Add-clause-need
need-returns-in-Add-clause-need t c =
    subst (λ (due : Limited Length). Answers due c.two_needs.result)
    (two_needed c.args.term.now c.in-Add.a c.in-Add.b c.get-in-Add.result.now c.get-in-Add-2.result.now (given c.args.shapes.now) c.get-in-Add.ensures
    c.get-in-Add-2.ensures c.in-Add.is)
    c.two_needs.ensures.need

pub need-returns-in-Index-clause-need : goal.need-returns-in-Index-clause-need
need-returns-in-Index-clause-need t c =
    subst (λ (due : Limited Length). Answers due c.need.result)
    (one_needed c.args.term.now c.in-Index.e c.get-in-Index.result.now (given c.args.shapes.now) c.get-in-Index.ensures c.in-Index.is)
    c.need.ensures.need
