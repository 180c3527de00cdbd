use Rattle.std.proofs.Common.{◌≡◌, take}
use Rattle.affine_index.proofs.multiple.copy_terms.Given as goal

abbrev pub invariant-loop-at : goal.invariant-loop-at
invariant-loop-at l = l.copies ≡ take l.at l.terms
