-- The tensor of a term at the variants that code matches on, by that of its child.
use Rattle.std.proofs.Common.{◌≡◌, ℕ, ◌+◌, ◌-◌, ◌/◌, List, ◌++◌, ◌∷◌, drop, ap, ◌∙◌}
use Rattle.affine_index.specs.declared.aff.Aff.{Aff}
use Rattle.term_tree.specs.Meaning.{Bound, chunks, columns, extent, extents_of, head_of, tail_of}
use Rattle.term_tree.specs.Tensors.{Tensor, by_places, copies, drop_last, from_rows, joined, rows_of, zeros}
use Rattle.term_tree.specs.declared.term.Term.{Term}
use Rattle.term_tree.specs.declared.term.Term.TheVariants.{Let, Add, Sub, Mul, Concat, Flatten, Split, Transpose, TruncL, TruncR, PadL, PadR}
use Rattle.term_tree.proofs.Folds.{fold-let_in, fold-add, fold-sub, fold-mul, fold-concat}
use Rattle.term_tree.proofs.Folds.{fold-flatten, fold-split, fold-transpose, fold-trunc_l, fold-trunc_r, fold-pad_l, fold-pad_r}
use Rattle.term_tree.proofs.Forms.{Let-is, Add-is, Sub-is, Mul-is, Concat-is, Flatten-is, Split-is, Transpose-is, TruncL-is, TruncR-is, PadL-is, PadR-is}
use Rattle.atl_meaning.specs.Denoted.{Denoted, denoted, denoted_step}
use Rattle.atl_meaning.specs.Operations.{on_words}
use Rattle.atl_meaning.specs.declared.operation.Operation.TheVariants.{Plus, Minus, Times}

module _ (s r : List ℕ) (t : List Bound) where
  abbrev tensor : Term → Tensor
  tensor e = (denoted s e).tensor r t

  abbrev dims : Term → List ℕ
  dims e = (denoted s e).extents (extents_of t)

  pub tensor-Let : (w a b : Term) → w ≡ Let a b → tensor w ≡ (denoted s b).tensor r ((dims a, tensor a) ∷ t)
  tensor-Let w a b i = ap tensor (i ∙ Let-is a b) ∙ ap (λ d. d.tensor r t) (fold-let_in Denoted (denoted_step s) a b)

  pub tensor-Add : (w a b : Term) → w ≡ Add a b → tensor w ≡ by_places (on_words Plus) (tensor a) (tensor b)
  tensor-Add w a b i = ap tensor (i ∙ Add-is a b) ∙ ap (λ d. d.tensor r t) (fold-add Denoted (denoted_step s) a b)

  pub tensor-Sub : (w a b : Term) → w ≡ Sub a b → tensor w ≡ by_places (on_words Minus) (tensor a) (tensor b)
  tensor-Sub w a b i = ap tensor (i ∙ Sub-is a b) ∙ ap (λ d. d.tensor r t) (fold-sub Denoted (denoted_step s) a b)

  pub tensor-Mul : (w a b : Term) → w ≡ Mul a b → tensor w ≡ by_places (on_words Times) (tensor a) (tensor b)
  tensor-Mul w a b i = ap tensor (i ∙ Mul-is a b) ∙ ap (λ d. d.tensor r t) (fold-mul Denoted (denoted_step s) a b)

  pub tensor-Concat : (w a b : Term) → w ≡ Concat a b → tensor w ≡ from_rows (rows_of (tensor a) ++ rows_of (tensor b))
  tensor-Concat w a b i = ap tensor (i ∙ Concat-is a b) ∙ ap (λ d. d.tensor r t) (fold-concat Denoted (denoted_step s) a b)

  pub tensor-Flatten : (w : Term) (e : Term) → w ≡ Flatten e → tensor w ≡ from_rows (joined (rows_of (tensor e)))
  tensor-Flatten w e i = ap tensor (i ∙ Flatten-is e) ∙ ap (λ d. d.tensor r t) (fold-flatten Denoted (denoted_step s) e)

  pub tensor-Split : (w : Term) (k : ℕ) (e : Term) → w ≡ Split k e
      → tensor w ≡ from_rows (chunks ((head_of (dims e) + k - 1) / k) k (zeros (tail_of (dims e))) (rows_of (tensor e)))
  tensor-Split w k e i = ap tensor (i ∙ Split-is k e) ∙ ap (λ d. d.tensor r t) (fold-split Denoted (denoted_step s) k e)

  pub tensor-Transpose : (w : Term) (e : Term) → w ≡ Transpose e
      → tensor w ≡ from_rows (columns (head_of (tail_of (dims e))) (zeros (tail_of (tail_of (dims e)))) (rows_of (tensor e)))
  tensor-Transpose w e i = ap tensor (i ∙ Transpose-is e) ∙ ap (λ d. d.tensor r t) (fold-transpose Denoted (denoted_step s) e)

  pub tensor-TruncL : (w : Term) (n : Aff) (e : Term) → w ≡ TruncL n e → tensor w ≡ from_rows (drop (extent n s) (rows_of (tensor e)))
  tensor-TruncL w n e i = ap tensor (i ∙ TruncL-is n e) ∙ ap (λ d. d.tensor r t) (fold-trunc_l Denoted (denoted_step s) n e)

  pub tensor-TruncR : (w : Term) (n : Aff) (e : Term) → w ≡ TruncR n e → tensor w ≡ from_rows (drop_last (extent n s) (rows_of (tensor e)))
  tensor-TruncR w n e i = ap tensor (i ∙ TruncR-is n e) ∙ ap (λ d. d.tensor r t) (fold-trunc_r Denoted (denoted_step s) n e)

  pub tensor-PadL : (w : Term) (n : Aff) (e : Term) → w ≡ PadL n e → tensor w ≡ from_rows (copies (extent n s) (zeros (tail_of (dims e))) ++ rows_of (tensor e))
  tensor-PadL w n e i = ap tensor (i ∙ PadL-is n e) ∙ ap (λ d. d.tensor r t) (fold-pad_l Denoted (denoted_step s) n e)

  pub tensor-PadR : (w : Term) (n : Aff) (e : Term) → w ≡ PadR n e → tensor w ≡ from_rows (rows_of (tensor e) ++ copies (extent n s) (zeros (tail_of (dims e))))
  tensor-PadR w n e i = ap tensor (i ∙ PadR-is n e) ∙ ap (λ d. d.tensor r t) (fold-pad_r Denoted (denoted_step s) n e)
