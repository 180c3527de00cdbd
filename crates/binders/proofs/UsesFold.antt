-- The folds that tell whether a variable occurs are the definitions by cases.
use Rattle.std.proofs.Common.{◌≡◌, ℕ, ◌+◌, Bool, ◌||◌, ap, ◌∙◌}
use Rattle.term_tree.specs.declared.term.Term.{Term, Lit, TVar, WordOf}
use Rattle.term_tree.specs.Syntax.{index, gen, sum, guard, let_in, add, sub, mul, concat, flatten, split, transpose, trunc_l, trunc_r, pad_l, pad_r}
use Rattle.term_tree.proofs.Folds.{fold-lit, fold-t_var, fold-word_of, fold-index, fold-gen, fold-sum, fold-guard, fold-let_in, fold-add, fold-sub, fold-mul}
use Rattle.term_tree.proofs.Folds.{fold-concat, fold-flatten, fold-split, fold-transpose, fold-trunc_l, fold-trunc_r, fold-pad_l, fold-pad_r}
use Rattle.binders.specs.Uses.{any_cmp, uses, uses_index, index_step, index_fold, uses_tensor, tensor_step, tensor_fold}

pub index_fold-is : (e : Term) (v : ℕ) → index_fold e v ≡ uses_index e v
index_fold-is (Lit w) v = ap (λ f. f v) (fold-lit (ℕ → Bool) index_step w)
index_fold-is (TVar q) v = ap (λ f. f v) (fold-t_var (ℕ → Bool) index_step q)
index_fold-is (WordOf x) v = ap (λ f. f v) (fold-word_of (ℕ → Bool) index_step x)
index_fold-is (index e y) v = ap (λ f. f v) (fold-index (ℕ → Bool) index_step e y) ∙ (λ x. index_fold-is e v x || uses v y)
index_fold-is (gen n e) v = ap (λ f. f v) (fold-gen (ℕ → Bool) index_step n e) ∙ (λ x. uses v n || index_fold-is e (v + 1) x)
index_fold-is (sum n e) v = ap (λ f. f v) (fold-sum (ℕ → Bool) index_step n e) ∙ (λ x. uses v n || index_fold-is e (v + 1) x)
index_fold-is (guard c e) v = ap (λ f. f v) (fold-guard (ℕ → Bool) index_step c e) ∙ (λ x. any_cmp (uses v) c.all || index_fold-is e v x)
index_fold-is (let_in a b) v = ap (λ f. f v) (fold-let_in (ℕ → Bool) index_step a b) ∙ (λ x. index_fold-is a v x || index_fold-is b v x)
index_fold-is (add a b) v = ap (λ f. f v) (fold-add (ℕ → Bool) index_step a b) ∙ (λ x. index_fold-is a v x || index_fold-is b v x)
index_fold-is (sub a b) v = ap (λ f. f v) (fold-sub (ℕ → Bool) index_step a b) ∙ (λ x. index_fold-is a v x || index_fold-is b v x)
index_fold-is (mul a b) v = ap (λ f. f v) (fold-mul (ℕ → Bool) index_step a b) ∙ (λ x. index_fold-is a v x || index_fold-is b v x)
index_fold-is (concat a b) v = ap (λ f. f v) (fold-concat (ℕ → Bool) index_step a b) ∙ (λ x. index_fold-is a v x || index_fold-is b v x)
index_fold-is (flatten e) v = ap (λ f. f v) (fold-flatten (ℕ → Bool) index_step e) ∙ (λ x. index_fold-is e v x)
index_fold-is (split k e) v = ap (λ f. f v) (fold-split (ℕ → Bool) index_step k e) ∙ (λ x. index_fold-is e v x)
index_fold-is (transpose e) v = ap (λ f. f v) (fold-transpose (ℕ → Bool) index_step e) ∙ (λ x. index_fold-is e v x)
index_fold-is (trunc_l n e) v = ap (λ f. f v) (fold-trunc_l (ℕ → Bool) index_step n e) ∙ (λ x. uses v n || index_fold-is e v x)
index_fold-is (trunc_r n e) v = ap (λ f. f v) (fold-trunc_r (ℕ → Bool) index_step n e) ∙ (λ x. uses v n || index_fold-is e v x)
index_fold-is (pad_l n e) v = ap (λ f. f v) (fold-pad_l (ℕ → Bool) index_step n e) ∙ (λ x. uses v n || index_fold-is e v x)
index_fold-is (pad_r n e) v = ap (λ f. f v) (fold-pad_r (ℕ → Bool) index_step n e) ∙ (λ x. uses v n || index_fold-is e v x)

pub tensor_fold-is : (e : Term) (v : ℕ) → tensor_fold e v ≡ uses_tensor e v
tensor_fold-is (Lit w) v = ap (λ f. f v) (fold-lit (ℕ → Bool) tensor_step w)
tensor_fold-is (TVar q) v = ap (λ f. f v) (fold-t_var (ℕ → Bool) tensor_step q)
tensor_fold-is (WordOf x) v = ap (λ f. f v) (fold-word_of (ℕ → Bool) tensor_step x)
tensor_fold-is (index e y) v = ap (λ f. f v) (fold-index (ℕ → Bool) tensor_step e y) ∙ (λ x. tensor_fold-is e v x)
tensor_fold-is (gen n e) v = ap (λ f. f v) (fold-gen (ℕ → Bool) tensor_step n e) ∙ (λ x. tensor_fold-is e v x)
tensor_fold-is (sum n e) v = ap (λ f. f v) (fold-sum (ℕ → Bool) tensor_step n e) ∙ (λ x. tensor_fold-is e v x)
tensor_fold-is (guard c e) v = ap (λ f. f v) (fold-guard (ℕ → Bool) tensor_step c e) ∙ (λ x. tensor_fold-is e v x)
tensor_fold-is (let_in a b) v = ap (λ f. f v) (fold-let_in (ℕ → Bool) tensor_step a b) ∙ (λ x. tensor_fold-is a v x || tensor_fold-is b (v + 1) x)
tensor_fold-is (add a b) v = ap (λ f. f v) (fold-add (ℕ → Bool) tensor_step a b) ∙ (λ x. tensor_fold-is a v x || tensor_fold-is b v x)
tensor_fold-is (sub a b) v = ap (λ f. f v) (fold-sub (ℕ → Bool) tensor_step a b) ∙ (λ x. tensor_fold-is a v x || tensor_fold-is b v x)
tensor_fold-is (mul a b) v = ap (λ f. f v) (fold-mul (ℕ → Bool) tensor_step a b) ∙ (λ x. tensor_fold-is a v x || tensor_fold-is b v x)
tensor_fold-is (concat a b) v = ap (λ f. f v) (fold-concat (ℕ → Bool) tensor_step a b) ∙ (λ x. tensor_fold-is a v x || tensor_fold-is b v x)
tensor_fold-is (flatten e) v = ap (λ f. f v) (fold-flatten (ℕ → Bool) tensor_step e) ∙ (λ x. tensor_fold-is e v x)
tensor_fold-is (split k e) v = ap (λ f. f v) (fold-split (ℕ → Bool) tensor_step k e) ∙ (λ x. tensor_fold-is e v x)
tensor_fold-is (transpose e) v = ap (λ f. f v) (fold-transpose (ℕ → Bool) tensor_step e) ∙ (λ x. tensor_fold-is e v x)
tensor_fold-is (trunc_l n e) v = ap (λ f. f v) (fold-trunc_l (ℕ → Bool) tensor_step n e) ∙ (λ x. tensor_fold-is e v x)
tensor_fold-is (trunc_r n e) v = ap (λ f. f v) (fold-trunc_r (ℕ → Bool) tensor_step n e) ∙ (λ x. tensor_fold-is e v x)
tensor_fold-is (pad_l n e) v = ap (λ f. f v) (fold-pad_l (ℕ → Bool) tensor_step n e) ∙ (λ x. tensor_fold-is e v x)
tensor_fold-is (pad_r n e) v = ap (λ f. f v) (fold-pad_r (ℕ → Bool) tensor_step n e) ∙ (λ x. tensor_fold-is e v x)

pub ruleset uses_fold_laws = (index_fold-is, tensor_fold-is)
