use Rattle.std.proofs.Common.{◌≡◌, drop}
use Rattle.rules_loop.specs.Tilings.{divides_terms}
use Rattle.rules_loop.proofs.fusing.divides_terms.Given as goal

abbrev pub invariant-loop-term : goal.invariant-loop-term
invariant-loop-term l = divides_terms l.k (drop l.term-index l.terms) ≡ divides_terms l.k l.terms
