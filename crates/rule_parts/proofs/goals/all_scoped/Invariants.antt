use Rattle.std.proofs.Common.{◌≡◌, drop}
use Rattle.affine_index.specs.Condition.{all_scoped}
use Rattle.rule_parts.proofs.goals.all_scoped.Given as goal

abbrev pub invariant-loop-cmp : goal.invariant-loop-cmp
invariant-loop-cmp l = all_scoped l.sizes l.vars (drop l.cmp-index l.cmps) ≡ all_scoped l.sizes l.vars l.cmps
