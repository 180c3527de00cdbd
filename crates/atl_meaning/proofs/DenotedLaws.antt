-- The fold's extents and tensor are those of the definitions.
use Rattle.std.proofs.Common.{◌≡◌, ℕ, ◌+◌, ◌-◌, ◌*◌, ◌/◌, List, ◌∷◌, ◌++◌, drop, ap, ◌∙◌, if◌then◌else◌}
use Rattle.affine_index.specs.Condition.{all_hold}
use Rattle.affine_index.specs.Value.{items_value}
use Rattle.term_tree.specs.declared.term.Term.{Term, Lit, TVar, WordOf}
use Rattle.term_tree.specs.Syntax.{index, gen, sum, guard, let_in, add, sub, mul, concat, flatten, split, transpose, trunc_l, trunc_r, pad_l, pad_r}
use Rattle.term_tree.specs.Tensors.{rows_of, from_rows, by_places, copies, zeros, tabulate, total, joined, drop_last}
use Rattle.term_tree.specs.Meaning.{Bound, chunks, columns, den, dims, extent, extents_of, head_of, row_at, tail_of}
use Rattle.atl_meaning.specs.Denoted.{Denoted, denoted, denoted_step}
use Rattle.atl_meaning.specs.Operations.{on_words}
use Rattle.atl_meaning.specs.declared.operation.Operation.TheVariants.{Plus, Minus, Times}
use Rattle.term_tree.proofs.Folds.{fold-lit, fold-t_var, fold-word_of, fold-index, fold-gen, fold-sum, fold-guard, fold-let_in, fold-add, fold-sub, fold-mul}
use Rattle.term_tree.proofs.Folds.{fold-concat, fold-flatten, fold-split, fold-transpose, fold-trunc_l, fold-trunc_r, fold-pad_l, fold-pad_r}

module _ (s : List ℕ) where
  pub extents-is : (e : Term) (ds : List (List ℕ)) → (denoted s e).extents ds ≡ dims e s ds
  extents-is (Lit w) ds = ap (λ d. d.extents ds) (fold-lit Denoted (denoted_step s) w)
  extents-is (TVar q) ds = ap (λ d. d.extents ds) (fold-t_var Denoted (denoted_step s) q)
  extents-is (WordOf x) ds = ap (λ d. d.extents ds) (fold-word_of Denoted (denoted_step s) x)
  extents-is (index e x) ds = ap (λ d. d.extents ds) (fold-index Denoted (denoted_step s) e x) ∙ (λ i. tail_of (extents-is e ds i))
  extents-is (gen n e) ds = ap (λ d. d.extents ds) (fold-gen Denoted (denoted_step s) n e) ∙ (λ i. extent n s ∷ extents-is e ds i)
  extents-is (sum n e) ds = ap (λ d. d.extents ds) (fold-sum Denoted (denoted_step s) n e) ∙ (λ i. extents-is e ds i)
  extents-is (guard c e) ds = ap (λ d. d.extents ds) (fold-guard Denoted (denoted_step s) c e) ∙ (λ i. extents-is e ds i)
  extents-is (let_in a b) ds = ap (λ d. d.extents ds) (fold-let_in Denoted (denoted_step s) a b) ∙ extents-is b ((denoted s a).extents ds ∷ ds)
      ∙ (λ i. dims b s (extents-is a ds i ∷ ds))
  extents-is (add a b) ds = ap (λ d. d.extents ds) (fold-add Denoted (denoted_step s) a b) ∙ (λ i. extents-is a ds i)
  extents-is (sub a b) ds = ap (λ d. d.extents ds) (fold-sub Denoted (denoted_step s) a b) ∙ (λ i. extents-is a ds i)
  extents-is (mul a b) ds = ap (λ d. d.extents ds) (fold-mul Denoted (denoted_step s) a b)
  extents-is (concat a b) ds = ap (λ d. d.extents ds) (fold-concat Denoted (denoted_step s) a b)
      ∙ (λ i. (head_of (extents-is a ds i) + head_of (extents-is b ds i)) ∷ tail_of (extents-is a ds i))
  extents-is (flatten e) ds = ap (λ d. d.extents ds) (fold-flatten Denoted (denoted_step s) e)
      ∙ (λ i. (head_of (extents-is e ds i) * head_of (tail_of (extents-is e ds i))) ∷ tail_of (tail_of (extents-is e ds i)))
  extents-is (split k e) ds = ap (λ d. d.extents ds) (fold-split Denoted (denoted_step s) k e)
      ∙ (λ i. ((head_of (extents-is e ds i) + k - 1) / k) ∷ k ∷ tail_of (extents-is e ds i))
  extents-is (transpose e) ds = ap (λ d. d.extents ds) (fold-transpose Denoted (denoted_step s) e)
      ∙ (λ i. head_of (tail_of (extents-is e ds i)) ∷ head_of (extents-is e ds i) ∷ tail_of (tail_of (extents-is e ds i)))
  extents-is (trunc_l n e) ds = ap (λ d. d.extents ds) (fold-trunc_l Denoted (denoted_step s) n e)
      ∙ (λ i. (head_of (extents-is e ds i) - extent n s) ∷ tail_of (extents-is e ds i))
  extents-is (trunc_r n e) ds = ap (λ d. d.extents ds) (fold-trunc_r Denoted (denoted_step s) n e)
      ∙ (λ i. (head_of (extents-is e ds i) - extent n s) ∷ tail_of (extents-is e ds i))
  extents-is (pad_l n e) ds = ap (λ d. d.extents ds) (fold-pad_l Denoted (denoted_step s) n e)
      ∙ (λ i. (head_of (extents-is e ds i) + extent n s) ∷ tail_of (extents-is e ds i))
  extents-is (pad_r n e) ds = ap (λ d. d.extents ds) (fold-pad_r Denoted (denoted_step s) n e)
      ∙ (λ i. (head_of (extents-is e ds i) + extent n s) ∷ tail_of (extents-is e ds i))

  pub tensor-is : (e : Term) (r : List ℕ) (t : List Bound) → (denoted s e).tensor r t ≡ den e s r t
  tensor-is (Lit w) r t = ap (λ d. d.tensor r t) (fold-lit Denoted (denoted_step s) w)
  tensor-is (TVar q) r t = ap (λ d. d.tensor r t) (fold-t_var Denoted (denoted_step s) q)
  tensor-is (WordOf x) r t = ap (λ d. d.tensor r t) (fold-word_of Denoted (denoted_step s) x)
  tensor-is (index e x) r t = ap (λ d. d.tensor r t) (fold-index Denoted (denoted_step s) e x)
      ∙ (λ i. row_at (rows_of (tensor-is e r t i)) (items_value s r x) (zeros (tail_of (extents-is e (extents_of t) i))))
  tensor-is (gen n e) r t = ap (λ d. d.tensor r t) (fold-gen Denoted (denoted_step s) n e)
      ∙ (λ i. from_rows (tabulate (extent n s) (λ j. tensor-is e (j ∷ r) t i)))
  tensor-is (sum n e) r t = ap (λ d. d.tensor r t) (fold-sum Denoted (denoted_step s) n e)
      ∙ (λ i. total (zeros (extents-is e (extents_of t) i)) (tabulate (extent n s) (λ j. tensor-is e (j ∷ r) t i)))
  tensor-is (guard c e) r t = ap (λ d. d.tensor r t) (fold-guard Denoted (denoted_step s) c e)
      ∙ (λ i. if all_hold s r c.all then tensor-is e r t i else zeros (extents-is e (extents_of t) i))
  tensor-is (let_in a b) r t = ap (λ d. d.tensor r t) (fold-let_in Denoted (denoted_step s) a b)
      ∙ tensor-is b r (((denoted s a).extents (extents_of t), (denoted s a).tensor r t) ∷ t)
      ∙ (λ i. den b s r ((extents-is a (extents_of t) i, tensor-is a r t i) ∷ t))
  tensor-is (add a b) r t = ap (λ d. d.tensor r t) (fold-add Denoted (denoted_step s) a b)
      ∙ (λ i. by_places (on_words Plus) (tensor-is a r t i) (tensor-is b r t i))
  tensor-is (sub a b) r t = ap (λ d. d.tensor r t) (fold-sub Denoted (denoted_step s) a b)
      ∙ (λ i. by_places (on_words Minus) (tensor-is a r t i) (tensor-is b r t i))
  tensor-is (mul a b) r t = ap (λ d. d.tensor r t) (fold-mul Denoted (denoted_step s) a b)
      ∙ (λ i. by_places (on_words Times) (tensor-is a r t i) (tensor-is b r t i))
  tensor-is (concat a b) r t = ap (λ d. d.tensor r t) (fold-concat Denoted (denoted_step s) a b)
      ∙ (λ i. from_rows (rows_of (tensor-is a r t i) ++ rows_of (tensor-is b r t i)))
  tensor-is (flatten e) r t = ap (λ d. d.tensor r t) (fold-flatten Denoted (denoted_step s) e) ∙ (λ i. from_rows (joined (rows_of (tensor-is e r t i))))
  tensor-is (split k e) r t = ap (λ d. d.tensor r t) (fold-split Denoted (denoted_step s) k e)
      ∙ (λ i. from_rows (chunks ((head_of (extents-is e (extents_of t) i) + k - 1) / k) k (zeros (tail_of (extents-is e (extents_of t) i)))
      (rows_of (tensor-is e r t i))))
  tensor-is (transpose e) r t = ap (λ d. d.tensor r t) (fold-transpose Denoted (denoted_step s) e)
      ∙ (λ i. from_rows (columns (head_of (tail_of (extents-is e (extents_of t) i))) (zeros (tail_of (tail_of (extents-is e (extents_of t) i))))
      (rows_of (tensor-is e r t i))))
  tensor-is (trunc_l n e) r t = ap (λ d. d.tensor r t) (fold-trunc_l Denoted (denoted_step s) n e)
      ∙ (λ i. from_rows (drop (extent n s) (rows_of (tensor-is e r t i))))
  tensor-is (trunc_r n e) r t = ap (λ d. d.tensor r t) (fold-trunc_r Denoted (denoted_step s) n e)
      ∙ (λ i. from_rows (drop_last (extent n s) (rows_of (tensor-is e r t i))))
  tensor-is (pad_l n e) r t = ap (λ d. d.tensor r t) (fold-pad_l Denoted (denoted_step s) n e)
      ∙ (λ i. from_rows (copies (extent n s) (zeros (tail_of (extents-is e (extents_of t) i))) ++ rows_of (tensor-is e r t i)))
  tensor-is (pad_r n e) r t = ap (λ d. d.tensor r t) (fold-pad_r Denoted (denoted_step s) n e)
      ∙ (λ i. from_rows (rows_of (tensor-is e r t i) ++ copies (extent n s) (zeros (tail_of (extents-is e (extents_of t) i)))))
