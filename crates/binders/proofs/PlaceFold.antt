-- The fold that looks for a place is the definition by cases.
use Rattle.std.proofs.Common.{◌≡◌, ℕ, ◌+◌, Bool, ◌||◌, ap, ◌∙◌}
use Rattle.affine_index.specs.declared.form.Items.{Items}
use Rattle.term_tree.specs.declared.term.Term.{Term, Lit, TVar, WordOf}
use Rattle.term_tree.specs.Syntax.{index, gen, sum, guard, let_in, add, sub, mul, concat, flatten, split, transpose, trunc_l, trunc_r, pad_l, pad_r}
use Rattle.term_tree.proofs.Folds.{fold-lit, fold-t_var, fold-word_of, fold-index, fold-gen, fold-sum, fold-guard, fold-let_in, fold-add, fold-sub, fold-mul}
use Rattle.term_tree.proofs.Folds.{fold-concat, fold-flatten, fold-split, fold-transpose, fold-trunc_l, fold-trunc_r, fold-pad_l, fold-pad_r}
use Rattle.binders.specs.Answers.{some_place, place_step, place_fold}
use Rattle.binders.specs.Uses.{any_cmp}

module _ (p : ℕ → ℕ → Items → Bool) (q : ℕ → ℕ → ℕ → Bool) where
  pub place_fold-is : (e : Term) (i j : ℕ) → place_fold p q e i j ≡ some_place p q e i j
  place_fold-is (Lit w) i j = ap (λ f. f i j) (fold-lit (ℕ → ℕ → Bool) (place_step p q) w)
  place_fold-is (TVar v) i j = ap (λ f. f i j) (fold-t_var (ℕ → ℕ → Bool) (place_step p q) v)
  place_fold-is (WordOf x) i j = ap (λ f. f i j) (fold-word_of (ℕ → ℕ → Bool) (place_step p q) x)
  place_fold-is (index e y) i j = ap (λ f. f i j) (fold-index (ℕ → ℕ → Bool) (place_step p q) e y) ∙ (λ x. place_fold-is e i j x || p i j y)
  place_fold-is (gen n e) i j = ap (λ f. f i j) (fold-gen (ℕ → ℕ → Bool) (place_step p q) n e) ∙ (λ x. place_fold-is e (i + 1) j x)
  place_fold-is (sum n e) i j = ap (λ f. f i j) (fold-sum (ℕ → ℕ → Bool) (place_step p q) n e) ∙ (λ x. place_fold-is e (i + 1) j x)
  place_fold-is (guard c e) i j = ap (λ f. f i j) (fold-guard (ℕ → ℕ → Bool) (place_step p q) c e) ∙ (λ x. any_cmp (p i j) c.all || place_fold-is e i j x)
  place_fold-is (let_in a b) i j = ap (λ f. f i j) (fold-let_in (ℕ → ℕ → Bool) (place_step p q) a b)
      ∙ (λ x. place_fold-is a i j x || place_fold-is b i (j + 1) x)
  place_fold-is (add a b) i j = ap (λ f. f i j) (fold-add (ℕ → ℕ → Bool) (place_step p q) a b) ∙ (λ x. place_fold-is a i j x || place_fold-is b i j x)
  place_fold-is (sub a b) i j = ap (λ f. f i j) (fold-sub (ℕ → ℕ → Bool) (place_step p q) a b) ∙ (λ x. place_fold-is a i j x || place_fold-is b i j x)
  place_fold-is (mul a b) i j = ap (λ f. f i j) (fold-mul (ℕ → ℕ → Bool) (place_step p q) a b) ∙ (λ x. place_fold-is a i j x || place_fold-is b i j x)
  place_fold-is (concat a b) i j = ap (λ f. f i j) (fold-concat (ℕ → ℕ → Bool) (place_step p q) a b) ∙ (λ x. place_fold-is a i j x || place_fold-is b i j x)
  place_fold-is (flatten e) i j = ap (λ f. f i j) (fold-flatten (ℕ → ℕ → Bool) (place_step p q) e) ∙ (λ x. place_fold-is e i j x)
  place_fold-is (split k e) i j = ap (λ f. f i j) (fold-split (ℕ → ℕ → Bool) (place_step p q) k e) ∙ (λ x. place_fold-is e i j x)
  place_fold-is (transpose e) i j = ap (λ f. f i j) (fold-transpose (ℕ → ℕ → Bool) (place_step p q) e) ∙ (λ x. place_fold-is e i j x)
  place_fold-is (trunc_l n e) i j = ap (λ f. f i j) (fold-trunc_l (ℕ → ℕ → Bool) (place_step p q) n e) ∙ (λ x. place_fold-is e i j x)
  place_fold-is (trunc_r n e) i j = ap (λ f. f i j) (fold-trunc_r (ℕ → ℕ → Bool) (place_step p q) n e) ∙ (λ x. place_fold-is e i j x)
  place_fold-is (pad_l n e) i j = ap (λ f. f i j) (fold-pad_l (ℕ → ℕ → Bool) (place_step p q) n e) ∙ (λ x. place_fold-is e i j x)
  place_fold-is (pad_r n e) i j = ap (λ f. f i j) (fold-pad_r (ℕ → ℕ → Bool) (place_step p q) n e) ∙ (λ x. place_fold-is e i j x)
