-- The survey at the variants that code matches on.
use Rattle.std.proofs.Common.{◌≡◌, ℕ, ◌∷◌, [], List, None, Bool, true, false, ap, sym, ◌∙◌}
use Rattle.std.proofs.lemmas.Bool.{and_parts}
use Rattle.affine_index.specs.Condition.{all_scoped}
use Rattle.affine_index.specs.Limited.{items_scoped}
use Rattle.affine_index.specs.declared.aff.Aff.{Aff}
use Rattle.affine_index.specs.declared.cond.Cond.{Cond}
use Rattle.term_tree.specs.declared.term.Term.{Term}
use Rattle.term_tree.specs.declared.term.Term.TheVariants.{WordOf, Index, Gen, Sum, Guard, Let, Add, Sub, Mul, Concat, Flatten, Split, Transpose, TruncL}
use Rattle.term_tree.specs.declared.term.Term.TheVariants.{TruncR, PadL, PadR}
use Rattle.term_tree.specs.Shape.{Extents}
use Rattle.term_tree.proofs.Folds.{fold-word_of, fold-index, fold-gen, fold-sum, fold-guard, fold-let_in, fold-add, fold-sub, fold-mul, fold-concat}
use Rattle.term_tree.proofs.Folds.{fold-flatten, fold-split, fold-transpose, fold-trunc_l, fold-trunc_r, fold-pad_l, fold-pad_r}
use Rattle.term_tree.proofs.Forms.{Index-is, Gen-is, Sum-is, Guard-is, Let-is, Add-is, Sub-is, Mul-is, Concat-is, Flatten-is, Split-is, Transpose-is, TruncL-is}
use Rattle.term_tree.proofs.Forms.{TruncR-is, PadL-is, PadR-is}
use Rattle.atl_meaning.specs.Forms.{chunked_forms, concatenated_forms, flattened_forms, lengthened_forms, shortened_forms, transposed_forms}
use Rattle.atl_meaning.specs.Lists.{rest_of}
use Rattle.atl_meaning.specs.Scopes.{placed, placed_step, sized, sized_step}
use Rattle.atl_meaning.specs.Surveyed.{Survey, found_at, surveyed, surveyed_step, under_found}
use Rattle.atl_meaning.specs.Words.{any_large_comparison, at_least_one, first_of, is_large, largest_index}

module _ (k : ℕ) where
  pub sized-Index : (w e : Term) (x : Aff) → w ≡ Index e x → sized k w ≡ true → sized k e ≡ true
  sized-Index w e x i h = sym (ap (sized k) (i ∙ Index-is e x) ∙ fold-index Bool (sized_step k) e x) ∙ h

  pub placed-Index : (w e : Term) (x : Aff) (vars : ℕ) → w ≡ Index e x → placed k w vars ≡ true → (placed k e vars ≡ true) × (items_scoped k vars x ≡ true)
  placed-Index w e x vars i h =
      and_parts (placed k e vars) (items_scoped k vars x)
      (sym (ap (λ w. placed k w vars) (i ∙ Index-is e x) ∙ ap (λ f. f vars) (fold-index (ℕ → Bool) (placed_step k) e x)) ∙ h)

  pub sized-Guard : (w : Term) (c : Cond) (e : Term) → w ≡ Guard c e → sized k w ≡ true → sized k e ≡ true
  sized-Guard w c e i h = sym (ap (sized k) (i ∙ Guard-is c e) ∙ fold-guard Bool (sized_step k) c e) ∙ h

  pub placed-Guard : (w : Term) (c : Cond) (e : Term) (vars : ℕ) → w ≡ Guard c e → placed k w vars ≡ true → (all_scoped k vars c.all ≡ true)
      × (placed k e vars ≡ true)
  placed-Guard w c e vars i h =
      and_parts (all_scoped k vars c.all) (placed k e vars)
      (sym (ap (λ w. placed k w vars) (i ∙ Guard-is c e) ∙ ap (λ f. f vars) (fold-guard (ℕ → Bool) (placed_step k) c e)) ∙ h)

  pub sized-Flatten : (w e : Term) → w ≡ Flatten e → sized k w ≡ true → sized k e ≡ true
  sized-Flatten w e i h = sym (ap (sized k) (i ∙ Flatten-is e) ∙ fold-flatten Bool (sized_step k) e) ∙ h

  pub placed-Flatten : (w e : Term) (vars : ℕ) → w ≡ Flatten e → placed k w vars ≡ true → placed k e vars ≡ true
  placed-Flatten w e vars i h = sym (ap (λ w. placed k w vars) (i ∙ Flatten-is e) ∙ ap (λ f. f vars) (fold-flatten (ℕ → Bool) (placed_step k) e)) ∙ h

  pub sized-Transpose : (w e : Term) → w ≡ Transpose e → sized k w ≡ true → sized k e ≡ true
  sized-Transpose w e i h = sym (ap (sized k) (i ∙ Transpose-is e) ∙ fold-transpose Bool (sized_step k) e) ∙ h

  pub placed-Transpose : (w e : Term) (vars : ℕ) → w ≡ Transpose e → placed k w vars ≡ true → placed k e vars ≡ true
  placed-Transpose w e vars i h = sym (ap (λ w. placed k w vars) (i ∙ Transpose-is e) ∙ ap (λ f. f vars) (fold-transpose (ℕ → Bool) (placed_step k) e)) ∙ h

  pub placed-Split : (w : Term) (n : ℕ) (e : Term) (vars : ℕ) → w ≡ Split n e → placed k w vars ≡ true → placed k e vars ≡ true
  placed-Split w n e vars i h = sym (ap (λ w. placed k w vars) (i ∙ Split-is n e) ∙ ap (λ f. f vars) (fold-split (ℕ → Bool) (placed_step k) n e)) ∙ h

module _ (s vars : List ℕ) (ts : List Extents) where
  pub surveyed-WordOf : (w : Term) (x : Aff) → w ≡ WordOf x → surveyed s w vars ts ≡ found_at s [] (is_large (at_least_one s) vars x) None
  surveyed-WordOf w x i = ap (λ w. surveyed s w vars ts) i ∙ ap (λ f. f vars ts) (fold-word_of Survey (surveyed_step s) x)

  pub surveyed-Index : (w e : Term) (x : Aff) → w ≡ Index e x
      → surveyed s w vars ts ≡ found_at s (rest_of (surveyed s e vars ts).extents) (is_large (at_least_one s) vars x) ((surveyed s e vars ts).big)
  surveyed-Index w e x i = ap (λ w. surveyed s w vars ts) (i ∙ Index-is e x) ∙ ap (λ f. f vars ts) (fold-index Survey (surveyed_step s) e x)

  pub surveyed-Gen : (w : Term) (n : Aff) (e : Term) → w ≡ Gen n e
      → surveyed s w vars ts ≡ found_at s (n ∷ (surveyed s e (largest_index s n ∷ vars) ts).extents) (is_large (at_least_one s) [] n)
      ((surveyed s e (largest_index s n ∷ vars) ts).big)
  surveyed-Gen w n e i = ap (λ w. surveyed s w vars ts) (i ∙ Gen-is n e) ∙ ap (λ f. f vars ts) (fold-gen Survey (surveyed_step s) n e)

  pub surveyed-Sum : (w : Term) (n : Aff) (e : Term) → w ≡ Sum n e
      → surveyed s w vars ts ≡ found_at s ((surveyed s e (largest_index s n ∷ vars) ts).extents) (is_large (at_least_one s) [] n)
      ((surveyed s e (largest_index s n ∷ vars) ts).big)
  surveyed-Sum w n e i = ap (λ w. surveyed s w vars ts) (i ∙ Sum-is n e) ∙ ap (λ f. f vars ts) (fold-sum Survey (surveyed_step s) n e)

  pub surveyed-Guard : (w : Term) (c : Cond) (e : Term) → w ≡ Guard c e
      → surveyed s w vars ts ≡ found_at s ((surveyed s e vars ts).extents) (any_large_comparison (at_least_one s) vars c.all) ((surveyed s e vars ts).big)
  surveyed-Guard w c e i = ap (λ w. surveyed s w vars ts) (i ∙ Guard-is c e) ∙ ap (λ f. f vars ts) (fold-guard Survey (surveyed_step s) c e)

  pub surveyed-Let : (w a b : Term) → w ≡ Let a b
      → surveyed s w vars ts ≡ under_found s (surveyed s a vars ts) (surveyed s b vars ((surveyed s a vars ts).extents ∷ ts))
  surveyed-Let w a b i = ap (λ w. surveyed s w vars ts) (i ∙ Let-is a b) ∙ ap (λ f. f vars ts) (fold-let_in Survey (surveyed_step s) a b)

  pub surveyed-Add : (w a b : Term) → w ≡ Add a b
      → surveyed s w vars ts ≡ found_at s ((surveyed s a vars ts).extents) false (first_of (surveyed s a vars ts).big (surveyed s b vars ts).big)
  surveyed-Add w a b i = ap (λ w. surveyed s w vars ts) (i ∙ Add-is a b) ∙ ap (λ f. f vars ts) (fold-add Survey (surveyed_step s) a b)

  pub surveyed-Sub : (w a b : Term) → w ≡ Sub a b
      → surveyed s w vars ts ≡ found_at s ((surveyed s a vars ts).extents) false (first_of (surveyed s a vars ts).big (surveyed s b vars ts).big)
  surveyed-Sub w a b i = ap (λ w. surveyed s w vars ts) (i ∙ Sub-is a b) ∙ ap (λ f. f vars ts) (fold-sub Survey (surveyed_step s) a b)

  pub surveyed-Mul : (w a b : Term) → w ≡ Mul a b
      → surveyed s w vars ts ≡ found_at s ([]) false (first_of (surveyed s a vars ts).big (surveyed s b vars ts).big)
  surveyed-Mul w a b i = ap (λ w. surveyed s w vars ts) (i ∙ Mul-is a b) ∙ ap (λ f. f vars ts) (fold-mul Survey (surveyed_step s) a b)

  pub surveyed-Concat : (w a b : Term) → w ≡ Concat a b
      → surveyed s w vars ts ≡ found_at s (concatenated_forms (surveyed s a vars ts).extents (surveyed s b vars ts).extents) false
      (first_of (surveyed s a vars ts).big (surveyed s b vars ts).big)
  surveyed-Concat w a b i = ap (λ w. surveyed s w vars ts) (i ∙ Concat-is a b) ∙ ap (λ f. f vars ts) (fold-concat Survey (surveyed_step s) a b)

  pub surveyed-Flatten : (w e : Term) → w ≡ Flatten e
      → surveyed s w vars ts ≡ found_at s (flattened_forms (surveyed s e vars ts).extents) false ((surveyed s e vars ts).big)
  surveyed-Flatten w e i = ap (λ w. surveyed s w vars ts) (i ∙ Flatten-is e) ∙ ap (λ f. f vars ts) (fold-flatten Survey (surveyed_step s) e)

  pub surveyed-Split : (w : Term) (k : ℕ) (e : Term) → w ≡ Split k e
      → surveyed s w vars ts ≡ found_at s (chunked_forms k (surveyed s e vars ts).extents) false ((surveyed s e vars ts).big)
  surveyed-Split w k e i = ap (λ w. surveyed s w vars ts) (i ∙ Split-is k e) ∙ ap (λ f. f vars ts) (fold-split Survey (surveyed_step s) k e)

  pub surveyed-Transpose : (w e : Term) → w ≡ Transpose e
      → surveyed s w vars ts ≡ found_at s (transposed_forms (surveyed s e vars ts).extents) false ((surveyed s e vars ts).big)
  surveyed-Transpose w e i = ap (λ w. surveyed s w vars ts) (i ∙ Transpose-is e) ∙ ap (λ f. f vars ts) (fold-transpose Survey (surveyed_step s) e)

  pub surveyed-TruncL : (w : Term) (n : Aff) (e : Term) → w ≡ TruncL n e
      → surveyed s w vars ts ≡ found_at s (shortened_forms n (surveyed s e vars ts).extents) (is_large (at_least_one s) [] n) ((surveyed s e vars ts).big)
  surveyed-TruncL w n e i = ap (λ w. surveyed s w vars ts) (i ∙ TruncL-is n e) ∙ ap (λ f. f vars ts) (fold-trunc_l Survey (surveyed_step s) n e)

  pub surveyed-TruncR : (w : Term) (n : Aff) (e : Term) → w ≡ TruncR n e
      → surveyed s w vars ts ≡ found_at s (shortened_forms n (surveyed s e vars ts).extents) (is_large (at_least_one s) [] n) ((surveyed s e vars ts).big)
  surveyed-TruncR w n e i = ap (λ w. surveyed s w vars ts) (i ∙ TruncR-is n e) ∙ ap (λ f. f vars ts) (fold-trunc_r Survey (surveyed_step s) n e)

  pub surveyed-PadL : (w : Term) (n : Aff) (e : Term) → w ≡ PadL n e
      → surveyed s w vars ts ≡ found_at s (lengthened_forms n (surveyed s e vars ts).extents) (is_large (at_least_one s) [] n) ((surveyed s e vars ts).big)
  surveyed-PadL w n e i = ap (λ w. surveyed s w vars ts) (i ∙ PadL-is n e) ∙ ap (λ f. f vars ts) (fold-pad_l Survey (surveyed_step s) n e)

  pub surveyed-PadR : (w : Term) (n : Aff) (e : Term) → w ≡ PadR n e
      → surveyed s w vars ts ≡ found_at s (lengthened_forms n (surveyed s e vars ts).extents) (is_large (at_least_one s) [] n) ((surveyed s e vars ts).big)
  surveyed-PadR w n e i = ap (λ w. surveyed s w vars ts) (i ∙ PadR-is n e) ∙ ap (λ f. f vars ts) (fold-pad_r Survey (surveyed_step s) n e)
