use Rattle.std.proofs.Common.{inl, inr}
use Rattle.region_plan.proofs.WalkLaws.{one_shaped}
use Rattle.final_rules.proofs.steps.child_spot.Goals as goal

pub joined-requires-clause-shaped : goal.joined-requires-clause-shaped
joined-requires-clause-shaped c =
    one_shaped c.args.shapes.now c.args.term.now c.in-Flatten.part c.get.result.now c.get.ensures
    (inr (inr (inr (inr (inl c.in-Flatten.is))))) c.requires.shaped
