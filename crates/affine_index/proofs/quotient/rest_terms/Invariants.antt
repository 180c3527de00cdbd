use Rattle.std.proofs.Common.{◌≡◌, ◌++◌, length}
use Rattle.affine_index.specs.Quotient.{rest_terms}
use Rattle.affine_index.proofs.quotient.rest_terms.Given as goal

abbrev pub invariant-loop-item : goal.invariant-loop-item
invariant-loop-item l = l.items ++ rest_terms l.divisor l.rest ≡ rest_terms l.divisor l.fn.terms

abbrev pub decreases-loop-item : goal.decreases-loop-item
decreases-loop-item l = length l.rest
