use Rattle.std.proofs.Common.{◌≡◌, ◌+◌, ◌≤◌, drop}
use Rattle.fact_list.specs.Facts.{binders}
use Rattle.rule_parts.proofs.goals.vars_at.Given as goal

abbrev pub invariant-loop-fact : goal.invariant-loop-fact
invariant-loop-fact l = (l.count + binders (drop l.fact-index l.path) ≡ binders l.path) × (l.count ≤ l.fact-index)
