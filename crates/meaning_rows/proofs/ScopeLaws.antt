-- The fold that tells whether a term is well scoped is the definition by cases.
use Rattle.std.proofs.Common.{◌≡◌, ℕ, ◌+◌, Bool, ◌&&◌, nat_le, nat_lt, ap, ◌∙◌}
use Rattle.affine_index.specs.Limited.{items_scoped}
use Rattle.term_tree.proofs.Folds.{fold-lit, fold-t_var, fold-word_of, fold-index, fold-gen, fold-sum, fold-guard, fold-let_in, fold-add, fold-sub, fold-mul}
use Rattle.term_tree.proofs.Folds.{fold-concat, fold-flatten, fold-split, fold-transpose, fold-trunc_l, fold-trunc_r, fold-pad_l, fold-pad_r}
use Rattle.term_tree.specs.Scope.{cond_scoped, largest_tile, term_scoped}
use Rattle.term_tree.specs.Syntax.{index, gen, sum, guard, let_in, add, sub, mul, concat, flatten, split, transpose, trunc_l, trunc_r, pad_l, pad_r}
use Rattle.term_tree.specs.declared.term.Term.{Term, Lit, TVar, WordOf}
use Rattle.meaning_rows.specs.Scopes.{scope_fold, scope_step}

module _ (s : ℕ) where
  pub scope_fold-is : (e : Term) (v t : ℕ) → scope_fold s e v t ≡ term_scoped s e v t
  scope_fold-is (Lit w) v t = ap (λ f. f v t) (fold-lit (ℕ → ℕ → Bool) (scope_step s) w)
  scope_fold-is (TVar q) v t = ap (λ f. f v t) (fold-t_var (ℕ → ℕ → Bool) (scope_step s) q)
  scope_fold-is (WordOf x) v t = ap (λ f. f v t) (fold-word_of (ℕ → ℕ → Bool) (scope_step s) x)
  scope_fold-is (index e y) v t = ap (λ f. f v t) (fold-index (ℕ → ℕ → Bool) (scope_step s) e y) ∙ (λ x. scope_fold-is e v t x && items_scoped s v y)
  scope_fold-is (gen n e) v t = ap (λ f. f v t) (fold-gen (ℕ → ℕ → Bool) (scope_step s) n e) ∙ (λ x. items_scoped s 0 n && scope_fold-is e (v + 1) t x)
  scope_fold-is (sum n e) v t = ap (λ f. f v t) (fold-sum (ℕ → ℕ → Bool) (scope_step s) n e) ∙ (λ x. items_scoped s 0 n && scope_fold-is e (v + 1) t x)
  scope_fold-is (guard c e) v t = ap (λ f. f v t) (fold-guard (ℕ → ℕ → Bool) (scope_step s) c e) ∙ (λ x. cond_scoped s v c && scope_fold-is e v t x)
  scope_fold-is (let_in a b) v t = ap (λ f. f v t) (fold-let_in (ℕ → ℕ → Bool) (scope_step s) a b) ∙ (λ x. scope_fold-is a v t x && scope_fold-is b v (t + 1) x)
  scope_fold-is (add a b) v t = ap (λ f. f v t) (fold-add (ℕ → ℕ → Bool) (scope_step s) a b) ∙ (λ x. scope_fold-is a v t x && scope_fold-is b v t x)
  scope_fold-is (sub a b) v t = ap (λ f. f v t) (fold-sub (ℕ → ℕ → Bool) (scope_step s) a b) ∙ (λ x. scope_fold-is a v t x && scope_fold-is b v t x)
  scope_fold-is (mul a b) v t = ap (λ f. f v t) (fold-mul (ℕ → ℕ → Bool) (scope_step s) a b) ∙ (λ x. scope_fold-is a v t x && scope_fold-is b v t x)
  scope_fold-is (concat a b) v t = ap (λ f. f v t) (fold-concat (ℕ → ℕ → Bool) (scope_step s) a b) ∙ (λ x. scope_fold-is a v t x && scope_fold-is b v t x)
  scope_fold-is (flatten e) v t = ap (λ f. f v t) (fold-flatten (ℕ → ℕ → Bool) (scope_step s) e) ∙ scope_fold-is e v t
  scope_fold-is (split k e) v t = ap (λ f. f v t) (fold-split (ℕ → ℕ → Bool) (scope_step s) k e)
      ∙ (λ x. (nat_lt 0 k && nat_le k largest_tile) && scope_fold-is e v t x)
  scope_fold-is (transpose e) v t = ap (λ f. f v t) (fold-transpose (ℕ → ℕ → Bool) (scope_step s) e) ∙ scope_fold-is e v t
  scope_fold-is (trunc_l n e) v t = ap (λ f. f v t) (fold-trunc_l (ℕ → ℕ → Bool) (scope_step s) n e) ∙ (λ x. items_scoped s 0 n && scope_fold-is e v t x)
  scope_fold-is (trunc_r n e) v t = ap (λ f. f v t) (fold-trunc_r (ℕ → ℕ → Bool) (scope_step s) n e) ∙ (λ x. items_scoped s 0 n && scope_fold-is e v t x)
  scope_fold-is (pad_l n e) v t = ap (λ f. f v t) (fold-pad_l (ℕ → ℕ → Bool) (scope_step s) n e) ∙ (λ x. items_scoped s 0 n && scope_fold-is e v t x)
  scope_fold-is (pad_r n e) v t = ap (λ f. f v t) (fold-pad_r (ℕ → ℕ → Bool) (scope_step s) n e) ∙ (λ x. items_scoped s 0 n && scope_fold-is e v t x)
