use Rattle.std.proofs.Common.{◌≡◌, drop}
use Rattle.affine_index.specs.Normal.{is_normal}
use Rattle.term_tree.specs.Limits.{each_cmp}
use Rattle.term_tree.proofs.normality.cond_told.Given as goal

abbrev pub invariant-loop-cmp : goal.invariant-loop-cmp
invariant-loop-cmp l = each_cmp is_normal (drop l.cmp-index l.cmp-items) ≡ each_cmp is_normal l.cmp-items
