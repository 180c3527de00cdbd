-- When terms as code makes them are well scoped.
use Rattle.std.proofs.Common.{◌≡◌, ℕ, ◌+◌, ap, ◌&&◌}
use Rattle.affine_index.specs.Limited.{items_scoped}
use Rattle.affine_index.specs.declared.aff.Aff.{Aff}
use Rattle.term_tree.specs.Scope.{term_scoped}
use Rattle.term_tree.specs.declared.term.Term.{Term}
use Rattle.term_tree.specs.declared.term.Term.TheVariants.{Add, Concat, Gen, Index, Let}
use Rattle.term_tree.proofs.Forms.{Add-is, Concat-is, Gen-is, Index-is, Let-is}

module _ (s v t : ℕ) where
  pub scope-Gen : (n : Aff) (e : Term) → term_scoped s (Gen n e) v t ≡ (items_scoped s 0 n && term_scoped s e (v + 1) t)
  scope-Gen n e = ap (λ f. term_scoped s f v t) (Gen-is n e)

  pub scope-Index : (e : Term) (x : Aff) → term_scoped s (Index e x) v t ≡ (term_scoped s e v t && items_scoped s v x)
  scope-Index e x = ap (λ f. term_scoped s f v t) (Index-is e x)

  pub scope-Let : (a b : Term) → term_scoped s (Let a b) v t ≡ (term_scoped s a v t && term_scoped s b v (t + 1))
  scope-Let a b = ap (λ f. term_scoped s f v t) (Let-is a b)

  pub scope-Add : (a b : Term) → term_scoped s (Add a b) v t ≡ (term_scoped s a v t && term_scoped s b v t)
  scope-Add a b = ap (λ f. term_scoped s f v t) (Add-is a b)

  pub scope-Concat : (a b : Term) → term_scoped s (Concat a b) v t ≡ (term_scoped s a v t && term_scoped s b v t)
  scope-Concat a b = ap (λ f. term_scoped s f v t) (Concat-is a b)

pub ruleset scope_forms = (scope-Gen, scope-Index, scope-Let, scope-Add, scope-Concat)
