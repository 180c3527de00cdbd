use Rattle.std.proofs.Common.{◌≡◌, drop}
use Rattle.binders.specs.Uses.{any_cmp, uses}
use Rattle.binders.proofs.occurrence.cond_uses.Given as goal

abbrev pub invariant-loop-cmp : goal.invariant-loop-cmp
invariant-loop-cmp l = any_cmp (uses l.var) (drop l.cmp-index l.cmp-items) ≡ any_cmp (uses l.var) l.cmp-items
