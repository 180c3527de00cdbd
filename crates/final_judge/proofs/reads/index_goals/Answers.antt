use Rattle.std.proofs.Common.{◌≡◌, List, OnOk, subst}
use Rattle.final_rules.specs.declared.goal.Goal.{Goal}
use Rattle.final_judge.proofs.ClaimLaws.{two-pushed}
use Rattle.final_judge.proofs.reads.index_goals.Goals as goal

pub returns : goal.returns
returns c =
    subst (λ (gs : List Goal). OnOk c.push_goal-2.result (c.push_goal-2.new.goals ≡ gs))
    (two-pushed c.args.facts.now c.args.extent.now c.args.index.now c.in_ok-least.least c.in_ok-most.most c.args.goals.now c.push_goal.new.goals
    c.in_ok-least.ensures c.told.ensures c.in_ok-most.ensures c.in_ok-push_goal.ensures)
    c.push_goal-2.ensures
