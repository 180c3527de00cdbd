use Rattle.std.proofs.Common.{◌≡◌, ◌++◌, drop}
use Rattle.rule_parts.specs.Conds.{goals_of}
use Rattle.rule_parts.proofs.goals.goals.Given as goal

abbrev pub invariant-loop-cmp : goal.invariant-loop-cmp
invariant-loop-cmp l = l.all ++ goals_of l.facts (drop l.cmp-index l.cmps) ≡ goals_of l.facts l.cmps
