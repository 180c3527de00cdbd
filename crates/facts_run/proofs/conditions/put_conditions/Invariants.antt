use Rattle.std.proofs.Common.{◌≡◌, ◌++◌, drop}
use Rattle.facts_run.specs.Claims.{condition_claims}
use Rattle.facts_text.specs.Block.{blocks}
use Rattle.facts_run.proofs.conditions.put_conditions.Given as goal

abbrev pub invariant-loop-at : goal.invariant-loop-at
invariant-loop-at l = l.text ++ blocks l.sizes (condition_claims l.step l.lines l.at (drop l.at l.conditions)) ≡ l.initial.text
    ++ blocks l.sizes (condition_claims l.step l.lines 0 l.conditions)
