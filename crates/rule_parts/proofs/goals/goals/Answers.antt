use Rattle.std.proofs.Common.{refl, ◌∙◌}
use Rattle.fact_list.proofs.Appending.{append-next}
use Rattle.rule_parts.specs.Conds.{goals_of, goals_of_cmp}
use Rattle.rule_parts.proofs.goals.goals.Goals as goal

pub loop-cmp-preserved : goal.loop-cmp-preserved
loop-cmp-preserved c =
    append-next (goals_of c.args.facts.now) (goals_of_cmp c.args.facts.now) (λ x xs. refl) c.args.cmps.now c.loop-cmp.cmp-index c.cmp-item.result
    c.loop-cmp.all c.push_goals.new.all c.loop-cmp-test.true c.cmp-item.is (c.in_ok-push_goals.ensures {u = tt}) ∙ c.loop-cmp.invariant
