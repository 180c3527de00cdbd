use Rattle.std.proofs.Common.{◌≡◌, ◌++◌, drop}
use Rattle.affine_index.specs.Quotient.{whole_terms}
use Rattle.affine_index.proofs.quotient.whole_terms.Given as goal

abbrev pub invariant-loop-at : goal.invariant-loop-at
invariant-loop-at l = l.items ++ whole_terms l.divisor (drop l.at l.terms) ≡ whole_terms l.divisor l.terms
