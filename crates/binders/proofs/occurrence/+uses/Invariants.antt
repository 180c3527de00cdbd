use Rattle.std.proofs.Common.{◌≡◌, ◌==◌, drop, map}
use Rattle.affine_index.specs.Normal.{any_true}
use Rattle.binders.specs.Uses.{atom_has, terms_have}
use Rattle.binders.proofs.occurrence.+uses.Given as goal

abbrev pub invariant-factors_use-loop-factor : goal.invariant-factors_use-loop-factor
invariant-factors_use-loop-factor l =
    any_true (map (atom_has (λ w. w == l.var)) (drop l.factor-index l.factors)) ≡ any_true (map (atom_has (λ w. w == l.var)) l.factors)

abbrev pub invariant-terms_use-loop-term : goal.invariant-terms_use-loop-term
invariant-terms_use-loop-term l = terms_have (λ w. w == l.var) (drop l.term-index l.terms) ≡ terms_have (λ w. w == l.var) l.terms
