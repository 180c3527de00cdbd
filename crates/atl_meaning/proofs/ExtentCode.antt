-- The extents of a term at the variants that code matches on, by those of its child.
use Rattle.std.proofs.Common.{◌≡◌, ℕ, ◌+◌, ◌-◌, ◌*◌, ◌/◌, List, ◌∷◌, ap, ◌∙◌}
use Rattle.affine_index.specs.declared.aff.Aff.{Aff}
use Rattle.term_tree.specs.Meaning.{extent, head_of, tail_of}
use Rattle.term_tree.specs.declared.term.Term.{Term}
use Rattle.term_tree.specs.declared.term.Term.TheVariants.{Index, Gen, Flatten, Split, Transpose, TruncL, TruncR, PadL, PadR}
use Rattle.term_tree.proofs.Folds.{fold-index, fold-gen, fold-flatten, fold-split, fold-transpose, fold-trunc_l, fold-trunc_r, fold-pad_l, fold-pad_r}
use Rattle.term_tree.proofs.Forms.{Index-is, Gen-is, Flatten-is, Split-is, Transpose-is, TruncL-is, TruncR-is, PadL-is, PadR-is}
use Rattle.atl_meaning.specs.Denoted.{Denoted, denoted, denoted_step}

module _ (s : List ℕ) (ds : List (List ℕ)) where
  abbrev dims : Term → List ℕ
  dims e = (denoted s e).extents ds

  pub extents-Index : (w : Term) (e : Term) (x : Aff) → w ≡ Index e x → dims w ≡ tail_of (dims e)
  extents-Index w e x i = ap dims (i ∙ Index-is e x) ∙ ap (λ d. d.extents ds) (fold-index Denoted (denoted_step s) e x)

  pub extents-Gen : (w : Term) (n : Aff) (e : Term) → w ≡ Gen n e → dims w ≡ extent n s ∷ dims e
  extents-Gen w n e i = ap dims (i ∙ Gen-is n e) ∙ ap (λ d. d.extents ds) (fold-gen Denoted (denoted_step s) n e)

  pub extents-Flatten : (w : Term) (e : Term) → w ≡ Flatten e → dims w ≡ (head_of (dims e) * head_of (tail_of (dims e))) ∷ tail_of (tail_of (dims e))
  extents-Flatten w e i = ap dims (i ∙ Flatten-is e) ∙ ap (λ d. d.extents ds) (fold-flatten Denoted (denoted_step s) e)

  pub extents-Split : (w : Term) (k : ℕ) (e : Term) → w ≡ Split k e → dims w ≡ ((head_of (dims e) + k - 1) / k) ∷ k ∷ tail_of (dims e)
  extents-Split w k e i = ap dims (i ∙ Split-is k e) ∙ ap (λ d. d.extents ds) (fold-split Denoted (denoted_step s) k e)

  pub extents-Transpose : (w : Term) (e : Term) → w ≡ Transpose e → dims w ≡ head_of (tail_of (dims e)) ∷ head_of (dims e) ∷ tail_of (tail_of (dims e))
  extents-Transpose w e i = ap dims (i ∙ Transpose-is e) ∙ ap (λ d. d.extents ds) (fold-transpose Denoted (denoted_step s) e)

  pub extents-TruncL : (w : Term) (n : Aff) (e : Term) → w ≡ TruncL n e → dims w ≡ (head_of (dims e) - extent n s) ∷ tail_of (dims e)
  extents-TruncL w n e i = ap dims (i ∙ TruncL-is n e) ∙ ap (λ d. d.extents ds) (fold-trunc_l Denoted (denoted_step s) n e)

  pub extents-TruncR : (w : Term) (n : Aff) (e : Term) → w ≡ TruncR n e → dims w ≡ (head_of (dims e) - extent n s) ∷ tail_of (dims e)
  extents-TruncR w n e i = ap dims (i ∙ TruncR-is n e) ∙ ap (λ d. d.extents ds) (fold-trunc_r Denoted (denoted_step s) n e)

  pub extents-PadL : (w : Term) (n : Aff) (e : Term) → w ≡ PadL n e → dims w ≡ (head_of (dims e) + extent n s) ∷ tail_of (dims e)
  extents-PadL w n e i = ap dims (i ∙ PadL-is n e) ∙ ap (λ d. d.extents ds) (fold-pad_l Denoted (denoted_step s) n e)

  pub extents-PadR : (w : Term) (n : Aff) (e : Term) → w ≡ PadR n e → dims w ≡ (head_of (dims e) + extent n s) ∷ tail_of (dims e)
  extents-PadR w n e i = ap dims (i ∙ PadR-is n e) ∙ ap (λ d. d.extents ds) (fold-pad_r Denoted (denoted_step s) n e)
