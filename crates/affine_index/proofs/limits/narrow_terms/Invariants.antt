use Rattle.std.proofs.Common.{◌≡◌, ◌++◌, length, IsTrue}
use Rattle.affine_index.specs.Normal.{terms_fit}
use Rattle.affine_index.proofs.limits.narrow_terms.Given as goal

abbrev pub invariant-loop-item : goal.invariant-loop-item
invariant-loop-item l = record {
  fits : IsTrue (terms_fit l.rest);
  whole : l.items ++ l.rest ≡ l.fn.terms;
}

abbrev pub decreases-loop-item : goal.decreases-loop-item
decreases-loop-item l = length l.rest
