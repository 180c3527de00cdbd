use Rattle.std.proofs.Common.{◌≡◌, take}
use Rattle.term_tree.proofs.copying.copy_cond.Given as goal

abbrev pub invariant-loop-cmp : goal.invariant-loop-cmp
invariant-loop-cmp l = l.all ≡ take l.cmp-index l.cmp-items
