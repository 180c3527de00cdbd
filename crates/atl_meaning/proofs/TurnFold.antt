-- The fold's turns are those of the definition.
use Rattle.std.proofs.Common.{◌≡◌, ℕ, ◌+◌, List, ◌∷◌, ap, ◌∙◌, if◌then◌else◌}
use Rattle.affine_index.specs.Condition.{all_hold}
use Rattle.term_tree.specs.declared.term.Term.{Term, Lit, TVar, WordOf}
use Rattle.term_tree.specs.Syntax.{index, gen, sum, guard, let_in, add, sub, mul, concat, flatten, split, transpose, trunc_l, trunc_r, pad_l, pad_r}
use Rattle.term_tree.specs.Meaning.{extent}
use Rattle.atl_meaning.specs.Turns.{total_below, turn_fold, turn_step, turns}
use Rattle.term_tree.proofs.Folds.{fold-lit, fold-t_var, fold-word_of, fold-index, fold-gen, fold-sum, fold-guard, fold-let_in, fold-add, fold-sub, fold-mul}
use Rattle.term_tree.proofs.Folds.{fold-concat, fold-flatten, fold-split, fold-transpose, fold-trunc_l, fold-trunc_r, fold-pad_l, fold-pad_r}

pub turns-is : (e : Term) (s r : List ℕ) → turn_fold s e r ≡ turns e s r
turns-is (Lit w) s r = ap (λ f. f r) (fold-lit (List ℕ → ℕ) (turn_step s) w)
turns-is (TVar q) s r = ap (λ f. f r) (fold-t_var (List ℕ → ℕ) (turn_step s) q)
turns-is (WordOf x) s r = ap (λ f. f r) (fold-word_of (List ℕ → ℕ) (turn_step s) x)
turns-is (index e x) s r = ap (λ f. f r) (fold-index (List ℕ → ℕ) (turn_step s) e x) ∙ turns-is e s r
turns-is (gen n e) s r = ap (λ f. f r) (fold-gen (List ℕ → ℕ) (turn_step s) n e) ∙ (λ i. total_below (extent n s) (λ j. 1 + turns-is e s (j ∷ r) i))
turns-is (sum n e) s r = ap (λ f. f r) (fold-sum (List ℕ → ℕ) (turn_step s) n e) ∙ (λ i. total_below (extent n s) (λ j. 1 + turns-is e s (j ∷ r) i))
turns-is (guard c e) s r = ap (λ f. f r) (fold-guard (List ℕ → ℕ) (turn_step s) c e) ∙ (λ i. if all_hold s r c.all then turns-is e s r i else 0)
turns-is (let_in a b) s r = ap (λ f. f r) (fold-let_in (List ℕ → ℕ) (turn_step s) a b) ∙ (λ i. turns-is a s r i + turns-is b s r i)
turns-is (add a b) s r = ap (λ f. f r) (fold-add (List ℕ → ℕ) (turn_step s) a b) ∙ (λ i. turns-is a s r i + turns-is b s r i)
turns-is (sub a b) s r = ap (λ f. f r) (fold-sub (List ℕ → ℕ) (turn_step s) a b) ∙ (λ i. turns-is a s r i + turns-is b s r i)
turns-is (mul a b) s r = ap (λ f. f r) (fold-mul (List ℕ → ℕ) (turn_step s) a b) ∙ (λ i. turns-is a s r i + turns-is b s r i)
turns-is (concat a b) s r = ap (λ f. f r) (fold-concat (List ℕ → ℕ) (turn_step s) a b) ∙ (λ i. turns-is a s r i + turns-is b s r i)
turns-is (flatten e) s r = ap (λ f. f r) (fold-flatten (List ℕ → ℕ) (turn_step s) e) ∙ turns-is e s r
turns-is (split k e) s r = ap (λ f. f r) (fold-split (List ℕ → ℕ) (turn_step s) k e) ∙ turns-is e s r
turns-is (transpose e) s r = ap (λ f. f r) (fold-transpose (List ℕ → ℕ) (turn_step s) e) ∙ turns-is e s r
turns-is (trunc_l n e) s r = ap (λ f. f r) (fold-trunc_l (List ℕ → ℕ) (turn_step s) n e) ∙ turns-is e s r
turns-is (trunc_r n e) s r = ap (λ f. f r) (fold-trunc_r (List ℕ → ℕ) (turn_step s) n e) ∙ turns-is e s r
turns-is (pad_l n e) s r = ap (λ f. f r) (fold-pad_l (List ℕ → ℕ) (turn_step s) n e) ∙ turns-is e s r
turns-is (pad_r n e) s r = ap (λ f. f r) (fold-pad_r (List ℕ → ℕ) (turn_step s) n e) ∙ turns-is e s r
