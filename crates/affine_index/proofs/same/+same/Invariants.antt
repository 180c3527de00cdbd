use Rattle.std.proofs.Common.{◌≡◌, take}
use Rattle.affine_index.proofs.same.+same.Given as goal

abbrev pub invariant-same_atoms-loop-i : goal.invariant-same_atoms-loop-i
invariant-same_atoms-loop-i l = take l.i l.a ≡ take l.i l.b

abbrev pub invariant-same_terms-loop-i : goal.invariant-same_terms-loop-i
invariant-same_terms-loop-i l = take l.i l.a ≡ take l.i l.b
