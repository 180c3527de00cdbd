-- The folds at the variants that code matches on.
use Rattle.std.proofs.Common.{◌≡◌, ℕ, ◌+◌, ◌∷◌, ◌⊎◌, inl, inr, List, Bool, true, ◌&&◌, nat_le, nat_lt, ap, sym, ◌∙◌}
use Rattle.std.proofs.lemmas.Bool.{and_parts}
use Rattle.affine_index.specs.Limited.{items_scoped}
use Rattle.affine_index.specs.declared.aff.Aff.{Aff}
use Rattle.affine_index.specs.declared.cond.Cond.{Cond}
use Rattle.term_tree.specs.declared.term.Term.{Term}
use Rattle.term_tree.specs.declared.term.Term.TheOpen.{Term-F}
use Rattle.term_tree.specs.declared.term.Term.TheVariants.{TVar, WordOf, Index, Gen, Sum, Guard, Let, Add, Sub, Mul, Concat, Flatten, Split, Transpose, TruncL}
use Rattle.term_tree.specs.declared.term.Term.TheVariants.{TruncR, PadL, PadR}
use Rattle.term_tree.specs.Meaning.{extent}
use Rattle.term_tree.proofs.Folds.{fold-t_var, fold-word_of, fold-index, fold-gen, fold-sum, fold-guard, fold-let_in, fold-add, fold-sub, fold-mul, fold-concat}
use Rattle.term_tree.proofs.Folds.{fold-flatten, fold-split, fold-transpose, fold-trunc_l, fold-trunc_r, fold-pad_l, fold-pad_r}
use Rattle.term_tree.proofs.Forms.{Index-is, Gen-is, Sum-is, Guard-is, Let-is, Add-is, Sub-is, Mul-is, Concat-is, Flatten-is, Split-is, Transpose-is, TruncL-is}
use Rattle.term_tree.proofs.Forms.{TruncR-is, PadL-is, PadR-is}
use Rattle.atl_meaning.specs.Denoted.{Denoted, denoted, denoted_step}
use Rattle.term_tree.specs.Scope.{largest_tile}
use Rattle.atl_meaning.specs.Exact.{all_exact, counted, counted_step, exact, exact_below, exact_step, is_counted, is_exact}
use Rattle.atl_meaning.specs.Scopes.{placed, placed_step, sized, sized_step}
use Rattle.atl_meaning.specs.Turns.{total_below, turn_fold, turn_step}

module _ (s : List ℕ) where
  pub denoted-TVar : (q : ℕ) → denoted s (TVar q) ≡ denoted_step s (Term-F.TVar q)
  denoted-TVar q = fold-t_var Denoted (denoted_step s) q

  pub denoted-WordOf : (x : Aff) → denoted s (WordOf x) ≡ denoted_step s (Term-F.WordOf x)
  denoted-WordOf x = fold-word_of Denoted (denoted_step s) x

  pub denoted-Index : (e : Term) (x : Aff) → denoted s (Index e x) ≡ denoted_step s (Term-F.Index (denoted s e) x)
  denoted-Index e x = ap (denoted s) (Index-is e x) ∙ fold-index Denoted (denoted_step s) e x

  pub denoted-TruncL : (n : Aff) (e : Term) → denoted s (TruncL n e) ≡ denoted_step s (Term-F.TruncL n (denoted s e))
  denoted-TruncL n e = ap (denoted s) (TruncL-is n e) ∙ fold-trunc_l Denoted (denoted_step s) n e

  pub turns-Gen : (n : Aff) (e : Term) (r : List ℕ) → turn_fold s (Gen n e) r ≡ total_below (extent n s) (λ i. 1 + turn_fold s e (i ∷ r))
  turns-Gen n e r = ap (λ e. turn_fold s e r) (Gen-is n e) ∙ ap (λ f. f r) (fold-gen (List ℕ → ℕ) (turn_step s) n e)

  pub turns-Sum : (n : Aff) (e : Term) (r : List ℕ) → turn_fold s (Sum n e) r ≡ total_below (extent n s) (λ i. 1 + turn_fold s e (i ∷ r))
  turns-Sum n e r = ap (λ e. turn_fold s e r) (Sum-is n e) ∙ ap (λ f. f r) (fold-sum (List ℕ → ℕ) (turn_step s) n e)

  pub denoted-Sum : (n : Aff) (e : Term) → denoted s (Sum n e) ≡ denoted_step s (Term-F.Sum n (denoted s e))
  denoted-Sum n e = ap (denoted s) (Sum-is n e) ∙ fold-sum Denoted (denoted_step s) n e

  pub denoted-Gen : (n : Aff) (e : Term) → denoted s (Gen n e) ≡ denoted_step s (Term-F.Gen n (denoted s e))
  denoted-Gen n e = ap (denoted s) (Gen-is n e) ∙ fold-gen Denoted (denoted_step s) n e

module _ (k : ℕ) where
  pub sized-Gen : (w : Term) (n : Aff) (e : Term) → w ≡ Gen n e → sized k w ≡ true → (items_scoped k 0 n ≡ true) × (sized k e ≡ true)
  sized-Gen w n e i h = and_parts (items_scoped k 0 n) (sized k e) (sym (ap (sized k) (i ∙ Gen-is n e) ∙ fold-gen Bool (sized_step k) n e) ∙ h)

  pub placed-Gen : (w : Term) (n : Aff) (e : Term) (vars : ℕ) → w ≡ Gen n e → placed k w vars ≡ true → placed k e (vars + 1) ≡ true
  placed-Gen w n e vars i h = sym (ap (λ w. placed k w vars) (i ∙ Gen-is n e) ∙ ap (λ f. f vars) (fold-gen (ℕ → Bool) (placed_step k) n e)) ∙ h

  pub sized-Sum : (w : Term) (n : Aff) (e : Term) → w ≡ Sum n e → sized k w ≡ true → (items_scoped k 0 n ≡ true) × (sized k e ≡ true)
  sized-Sum w n e i h = and_parts (items_scoped k 0 n) (sized k e) (sym (ap (sized k) (i ∙ Sum-is n e) ∙ fold-sum Bool (sized_step k) n e) ∙ h)

  pub placed-Sum : (w : Term) (n : Aff) (e : Term) (vars : ℕ) → w ≡ Sum n e → placed k w vars ≡ true → placed k e (vars + 1) ≡ true
  placed-Sum w n e vars i h = sym (ap (λ w. placed k w vars) (i ∙ Sum-is n e) ∙ ap (λ f. f vars) (fold-sum (ℕ → Bool) (placed_step k) n e)) ∙ h

  pub sized-TruncL : (w : Term) (n : Aff) (e : Term) → w ≡ TruncL n e → sized k w ≡ true → (items_scoped k 0 n ≡ true) × (sized k e ≡ true)
  sized-TruncL w n e i h = and_parts (items_scoped k 0 n) (sized k e) (sym (ap (sized k) (i ∙ TruncL-is n e) ∙ fold-trunc_l Bool (sized_step k) n e) ∙ h)

  pub placed-TruncL : (w : Term) (n : Aff) (e : Term) (vars : ℕ) → w ≡ TruncL n e → placed k w vars ≡ true → placed k e vars ≡ true
  placed-TruncL w n e vars i h = sym (ap (λ w. placed k w vars) (i ∙ TruncL-is n e) ∙ ap (λ f. f vars) (fold-trunc_l (ℕ → Bool) (placed_step k) n e)) ∙ h

  pub sized-TruncR : (w : Term) (n : Aff) (e : Term) → w ≡ TruncR n e → sized k w ≡ true → (items_scoped k 0 n ≡ true) × (sized k e ≡ true)
  sized-TruncR w n e i h = and_parts (items_scoped k 0 n) (sized k e) (sym (ap (sized k) (i ∙ TruncR-is n e) ∙ fold-trunc_r Bool (sized_step k) n e) ∙ h)

  pub placed-TruncR : (w : Term) (n : Aff) (e : Term) (vars : ℕ) → w ≡ TruncR n e → placed k w vars ≡ true → placed k e vars ≡ true
  placed-TruncR w n e vars i h = sym (ap (λ w. placed k w vars) (i ∙ TruncR-is n e) ∙ ap (λ f. f vars) (fold-trunc_r (ℕ → Bool) (placed_step k) n e)) ∙ h

  pub sized-PadL : (w : Term) (n : Aff) (e : Term) → w ≡ PadL n e → sized k w ≡ true → (items_scoped k 0 n ≡ true) × (sized k e ≡ true)
  sized-PadL w n e i h = and_parts (items_scoped k 0 n) (sized k e) (sym (ap (sized k) (i ∙ PadL-is n e) ∙ fold-pad_l Bool (sized_step k) n e) ∙ h)

  pub placed-PadL : (w : Term) (n : Aff) (e : Term) (vars : ℕ) → w ≡ PadL n e → placed k w vars ≡ true → placed k e vars ≡ true
  placed-PadL w n e vars i h = sym (ap (λ w. placed k w vars) (i ∙ PadL-is n e) ∙ ap (λ f. f vars) (fold-pad_l (ℕ → Bool) (placed_step k) n e)) ∙ h

  pub sized-PadR : (w : Term) (n : Aff) (e : Term) → w ≡ PadR n e → sized k w ≡ true → (items_scoped k 0 n ≡ true) × (sized k e ≡ true)
  sized-PadR w n e i h = and_parts (items_scoped k 0 n) (sized k e) (sym (ap (sized k) (i ∙ PadR-is n e) ∙ fold-pad_r Bool (sized_step k) n e) ∙ h)

  pub placed-PadR : (w : Term) (n : Aff) (e : Term) (vars : ℕ) → w ≡ PadR n e → placed k w vars ≡ true → placed k e vars ≡ true
  placed-PadR w n e vars i h = sym (ap (λ w. placed k w vars) (i ∙ PadR-is n e) ∙ ap (λ f. f vars) (fold-pad_r (ℕ → Bool) (placed_step k) n e)) ∙ h

  pub sized-Let : (w a b : Term) → w ≡ Let a b → sized k w ≡ true → (sized k a ≡ true) × (sized k b ≡ true)
  sized-Let w a b i h = and_parts (sized k a) (sized k b) (sym (ap (sized k) (i ∙ Let-is a b) ∙ fold-let_in Bool (sized_step k) a b) ∙ h)

  pub placed-Let : (w a b : Term) (vars : ℕ) → w ≡ Let a b → placed k w vars ≡ true → (placed k a vars ≡ true) × (placed k b vars ≡ true)
  placed-Let w a b vars i h = and_parts (placed k a vars) (placed k b vars)
      (sym (ap (λ w. placed k w vars) (i ∙ Let-is a b) ∙ ap (λ f. f vars) (fold-let_in (ℕ → Bool) (placed_step k) a b)) ∙ h)

  pub sized-Add : (w a b : Term) → w ≡ Add a b → sized k w ≡ true → (sized k a ≡ true) × (sized k b ≡ true)
  sized-Add w a b i h = and_parts (sized k a) (sized k b) (sym (ap (sized k) (i ∙ Add-is a b) ∙ fold-add Bool (sized_step k) a b) ∙ h)

  pub placed-Add : (w a b : Term) (vars : ℕ) → w ≡ Add a b → placed k w vars ≡ true → (placed k a vars ≡ true) × (placed k b vars ≡ true)
  placed-Add w a b vars i h = and_parts (placed k a vars) (placed k b vars)
      (sym (ap (λ w. placed k w vars) (i ∙ Add-is a b) ∙ ap (λ f. f vars) (fold-add (ℕ → Bool) (placed_step k) a b)) ∙ h)

  pub sized-Sub : (w a b : Term) → w ≡ Sub a b → sized k w ≡ true → (sized k a ≡ true) × (sized k b ≡ true)
  sized-Sub w a b i h = and_parts (sized k a) (sized k b) (sym (ap (sized k) (i ∙ Sub-is a b) ∙ fold-sub Bool (sized_step k) a b) ∙ h)

  pub placed-Sub : (w a b : Term) (vars : ℕ) → w ≡ Sub a b → placed k w vars ≡ true → (placed k a vars ≡ true) × (placed k b vars ≡ true)
  placed-Sub w a b vars i h = and_parts (placed k a vars) (placed k b vars)
      (sym (ap (λ w. placed k w vars) (i ∙ Sub-is a b) ∙ ap (λ f. f vars) (fold-sub (ℕ → Bool) (placed_step k) a b)) ∙ h)

  pub sized-Mul : (w a b : Term) → w ≡ Mul a b → sized k w ≡ true → (sized k a ≡ true) × (sized k b ≡ true)
  sized-Mul w a b i h = and_parts (sized k a) (sized k b) (sym (ap (sized k) (i ∙ Mul-is a b) ∙ fold-mul Bool (sized_step k) a b) ∙ h)

  pub placed-Mul : (w a b : Term) (vars : ℕ) → w ≡ Mul a b → placed k w vars ≡ true → (placed k a vars ≡ true) × (placed k b vars ≡ true)
  placed-Mul w a b vars i h = and_parts (placed k a vars) (placed k b vars)
      (sym (ap (λ w. placed k w vars) (i ∙ Mul-is a b) ∙ ap (λ f. f vars) (fold-mul (ℕ → Bool) (placed_step k) a b)) ∙ h)

  pub sized-Concat : (w a b : Term) → w ≡ Concat a b → sized k w ≡ true → (sized k a ≡ true) × (sized k b ≡ true)
  sized-Concat w a b i h = and_parts (sized k a) (sized k b) (sym (ap (sized k) (i ∙ Concat-is a b) ∙ fold-concat Bool (sized_step k) a b) ∙ h)

  pub placed-Concat : (w a b : Term) (vars : ℕ) → w ≡ Concat a b → placed k w vars ≡ true → (placed k a vars ≡ true) × (placed k b vars ≡ true)
  placed-Concat w a b vars i h =
      and_parts (placed k a vars) (placed k b vars)
      (sym (ap (λ w. placed k w vars) (i ∙ Concat-is a b) ∙ ap (λ f. f vars) (fold-concat (ℕ → Bool) (placed_step k) a b)) ∙ h)

  pub sized-Split : (w : Term) (n : ℕ) (e : Term) → w ≡ Split n e → sized k w ≡ true → ((nat_lt 0 n && nat_le n largest_tile) ≡ true) × (sized k e ≡ true)
  sized-Split w n e i h = and_parts (nat_lt 0 n && nat_le n largest_tile) (sized k e)
      (sym (ap (sized k) (i ∙ Split-is n e) ∙ fold-split Bool (sized_step k) n e) ∙ h)

module _ (s : List ℕ) where
  pub counted-Gen : (w : Term) (n : Aff) (e : Term) → w ≡ Gen n e → counted s w ≡ true → (is_counted s n ≡ true) × (counted s e ≡ true)
  counted-Gen w n e i h = and_parts (is_counted s n) (counted s e) (sym (ap (counted s) (i ∙ Gen-is n e) ∙ fold-gen Bool (counted_step s) n e) ∙ h)

  pub exact-Gen : (w : Term) (n : Aff) (e : Term) (r : List ℕ) → w ≡ Gen n e → exact s w r ≡ true → exact_below s (extent n s) e r ≡ true
  exact-Gen w n e r i h = sym (ap (λ w. exact s w r) (i ∙ Gen-is n e) ∙ ap (λ f. f r) (fold-gen (List ℕ → Bool) (exact_step s) n e)) ∙ h

  pub counted-Sum : (w : Term) (n : Aff) (e : Term) → w ≡ Sum n e → counted s w ≡ true → (is_counted s n ≡ true) × (counted s e ≡ true)
  counted-Sum w n e i h = and_parts (is_counted s n) (counted s e) (sym (ap (counted s) (i ∙ Sum-is n e) ∙ fold-sum Bool (counted_step s) n e) ∙ h)

  pub exact-Sum : (w : Term) (n : Aff) (e : Term) (r : List ℕ) → w ≡ Sum n e → exact s w r ≡ true → exact_below s (extent n s) e r ≡ true
  exact-Sum w n e r i h = sym (ap (λ w. exact s w r) (i ∙ Sum-is n e) ∙ ap (λ f. f r) (fold-sum (List ℕ → Bool) (exact_step s) n e)) ∙ h

  pub counted-TruncL : (w : Term) (n : Aff) (e : Term) → w ≡ TruncL n e → counted s w ≡ true → (is_counted s n ≡ true) × (counted s e ≡ true)
  counted-TruncL w n e i h = and_parts (is_counted s n) (counted s e) (sym (ap (counted s) (i ∙ TruncL-is n e) ∙ fold-trunc_l Bool (counted_step s) n e) ∙ h)

  pub exact-TruncL : (w : Term) (n : Aff) (e : Term) (r : List ℕ) → w ≡ TruncL n e → exact s w r ≡ true → exact s e r ≡ true
  exact-TruncL w n e r i h = sym (ap (λ w. exact s w r) (i ∙ TruncL-is n e) ∙ ap (λ f. f r) (fold-trunc_l (List ℕ → Bool) (exact_step s) n e)) ∙ h

  pub counted-TruncR : (w : Term) (n : Aff) (e : Term) → w ≡ TruncR n e → counted s w ≡ true → (is_counted s n ≡ true) × (counted s e ≡ true)
  counted-TruncR w n e i h = and_parts (is_counted s n) (counted s e) (sym (ap (counted s) (i ∙ TruncR-is n e) ∙ fold-trunc_r Bool (counted_step s) n e) ∙ h)

  pub exact-TruncR : (w : Term) (n : Aff) (e : Term) (r : List ℕ) → w ≡ TruncR n e → exact s w r ≡ true → exact s e r ≡ true
  exact-TruncR w n e r i h = sym (ap (λ w. exact s w r) (i ∙ TruncR-is n e) ∙ ap (λ f. f r) (fold-trunc_r (List ℕ → Bool) (exact_step s) n e)) ∙ h

  pub counted-PadL : (w : Term) (n : Aff) (e : Term) → w ≡ PadL n e → counted s w ≡ true → (is_counted s n ≡ true) × (counted s e ≡ true)
  counted-PadL w n e i h = and_parts (is_counted s n) (counted s e) (sym (ap (counted s) (i ∙ PadL-is n e) ∙ fold-pad_l Bool (counted_step s) n e) ∙ h)

  pub exact-PadL : (w : Term) (n : Aff) (e : Term) (r : List ℕ) → w ≡ PadL n e → exact s w r ≡ true → exact s e r ≡ true
  exact-PadL w n e r i h = sym (ap (λ w. exact s w r) (i ∙ PadL-is n e) ∙ ap (λ f. f r) (fold-pad_l (List ℕ → Bool) (exact_step s) n e)) ∙ h

  pub counted-PadR : (w : Term) (n : Aff) (e : Term) → w ≡ PadR n e → counted s w ≡ true → (is_counted s n ≡ true) × (counted s e ≡ true)
  counted-PadR w n e i h = and_parts (is_counted s n) (counted s e) (sym (ap (counted s) (i ∙ PadR-is n e) ∙ fold-pad_r Bool (counted_step s) n e) ∙ h)

  pub exact-PadR : (w : Term) (n : Aff) (e : Term) (r : List ℕ) → w ≡ PadR n e → exact s w r ≡ true → exact s e r ≡ true
  exact-PadR w n e r i h = sym (ap (λ w. exact s w r) (i ∙ PadR-is n e) ∙ ap (λ f. f r) (fold-pad_r (List ℕ → Bool) (exact_step s) n e)) ∙ h

  pub counted-Let : (w a b : Term) → w ≡ Let a b → counted s w ≡ true → (counted s a ≡ true) × (counted s b ≡ true)
  counted-Let w a b i h = and_parts (counted s a) (counted s b) (sym (ap (counted s) (i ∙ Let-is a b) ∙ fold-let_in Bool (counted_step s) a b) ∙ h)

  pub exact-Let : (w a b : Term) (r : List ℕ) → w ≡ Let a b → exact s w r ≡ true → (exact s a r ≡ true) × (exact s b r ≡ true)
  exact-Let w a b r i h = and_parts (exact s a r) (exact s b r)
      (sym (ap (λ w. exact s w r) (i ∙ Let-is a b) ∙ ap (λ f. f r) (fold-let_in (List ℕ → Bool) (exact_step s) a b)) ∙ h)

  pub counted-Add : (w a b : Term) → w ≡ Add a b → counted s w ≡ true → (counted s a ≡ true) × (counted s b ≡ true)
  counted-Add w a b i h = and_parts (counted s a) (counted s b) (sym (ap (counted s) (i ∙ Add-is a b) ∙ fold-add Bool (counted_step s) a b) ∙ h)

  pub exact-Add : (w a b : Term) (r : List ℕ) → w ≡ Add a b → exact s w r ≡ true → (exact s a r ≡ true) × (exact s b r ≡ true)
  exact-Add w a b r i h = and_parts (exact s a r) (exact s b r)
      (sym (ap (λ w. exact s w r) (i ∙ Add-is a b) ∙ ap (λ f. f r) (fold-add (List ℕ → Bool) (exact_step s) a b)) ∙ h)

  pub counted-Sub : (w a b : Term) → w ≡ Sub a b → counted s w ≡ true → (counted s a ≡ true) × (counted s b ≡ true)
  counted-Sub w a b i h = and_parts (counted s a) (counted s b) (sym (ap (counted s) (i ∙ Sub-is a b) ∙ fold-sub Bool (counted_step s) a b) ∙ h)

  pub exact-Sub : (w a b : Term) (r : List ℕ) → w ≡ Sub a b → exact s w r ≡ true → (exact s a r ≡ true) × (exact s b r ≡ true)
  exact-Sub w a b r i h = and_parts (exact s a r) (exact s b r)
      (sym (ap (λ w. exact s w r) (i ∙ Sub-is a b) ∙ ap (λ f. f r) (fold-sub (List ℕ → Bool) (exact_step s) a b)) ∙ h)

  pub counted-Mul : (w a b : Term) → w ≡ Mul a b → counted s w ≡ true → (counted s a ≡ true) × (counted s b ≡ true)
  counted-Mul w a b i h = and_parts (counted s a) (counted s b) (sym (ap (counted s) (i ∙ Mul-is a b) ∙ fold-mul Bool (counted_step s) a b) ∙ h)

  pub exact-Mul : (w a b : Term) (r : List ℕ) → w ≡ Mul a b → exact s w r ≡ true → (exact s a r ≡ true) × (exact s b r ≡ true)
  exact-Mul w a b r i h = and_parts (exact s a r) (exact s b r)
      (sym (ap (λ w. exact s w r) (i ∙ Mul-is a b) ∙ ap (λ f. f r) (fold-mul (List ℕ → Bool) (exact_step s) a b)) ∙ h)

  pub counted-Concat : (w a b : Term) → w ≡ Concat a b → counted s w ≡ true → (counted s a ≡ true) × (counted s b ≡ true)
  counted-Concat w a b i h = and_parts (counted s a) (counted s b) (sym (ap (counted s) (i ∙ Concat-is a b) ∙ fold-concat Bool (counted_step s) a b) ∙ h)

  pub exact-Concat : (w a b : Term) (r : List ℕ) → w ≡ Concat a b → exact s w r ≡ true → (exact s a r ≡ true) × (exact s b r ≡ true)
  exact-Concat w a b r i h = and_parts (exact s a r) (exact s b r)
      (sym (ap (λ w. exact s w r) (i ∙ Concat-is a b) ∙ ap (λ f. f r) (fold-concat (List ℕ → Bool) (exact_step s) a b)) ∙ h)

  pub counted-Split : (w : Term) (n : ℕ) (e : Term) → w ≡ Split n e → counted s w ≡ true → ((nat_lt 0 n && nat_le n largest_tile) ≡ true) × (counted s e ≡ true)
  counted-Split w n e i h = and_parts (nat_lt 0 n && nat_le n largest_tile) (counted s e)
      (sym (ap (counted s) (i ∙ Split-is n e) ∙ fold-split Bool (counted_step s) n e) ∙ h)

  pub counted-Index : (w e : Term) (x : Aff) → w ≡ Index e x → counted s w ≡ true → counted s e ≡ true
  counted-Index w e x i h = sym (ap (counted s) (i ∙ Index-is e x) ∙ fold-index Bool (counted_step s) e x) ∙ h

  pub exact-Index : (w e : Term) (x : Aff) (r : List ℕ) → w ≡ Index e x → exact s w r ≡ true → (exact s e r ≡ true) × (is_exact s r x ≡ true)
  exact-Index w e x r i h = and_parts (exact s e r) (is_exact s r x)
      (sym (ap (λ w. exact s w r) (i ∙ Index-is e x) ∙ ap (λ f. f r) (fold-index (List ℕ → Bool) (exact_step s) e x)) ∙ h)

  pub counted-Guard : (w : Term) (c : Cond) (e : Term) → w ≡ Guard c e → counted s w ≡ true → counted s e ≡ true
  counted-Guard w c e i h = sym (ap (counted s) (i ∙ Guard-is c e) ∙ fold-guard Bool (counted_step s) c e) ∙ h

  pub exact-Guard : (w : Term) (c : Cond) (e : Term) (r : List ℕ) → w ≡ Guard c e → exact s w r ≡ true → (all_exact s r c.all ≡ true) × (exact s e r ≡ true)
  exact-Guard w c e r i h = and_parts (all_exact s r c.all) (exact s e r)
      (sym (ap (λ w. exact s w r) (i ∙ Guard-is c e) ∙ ap (λ f. f r) (fold-guard (List ℕ → Bool) (exact_step s) c e)) ∙ h)

  -- the operands of a node with two
  pub both-exact : (w a b : Term) (r : List ℕ) → (w ≡ Let a b) ⊎ ((w ≡ Add a b) ⊎ ((w ≡ Sub a b) ⊎ ((w ≡ Mul a b) ⊎ (w ≡ Concat a b)))) → counted s w ≡ true
      → exact s w r ≡ true
      → ((counted s a ≡ true) × (counted s b ≡ true)) × ((exact s a r ≡ true) × (exact s b r ≡ true))
  both-exact w a b r (inl i) g h = (counted-Let w a b i g, exact-Let w a b r i h)
  both-exact w a b r (inr (inl i)) g h = (counted-Add w a b i g, exact-Add w a b r i h)
  both-exact w a b r (inr (inr (inl i))) g h = (counted-Sub w a b i g, exact-Sub w a b r i h)
  both-exact w a b r (inr (inr (inr (inl i)))) g h = (counted-Mul w a b i g, exact-Mul w a b r i h)
  both-exact w a b r (inr (inr (inr (inr i)))) g h = (counted-Concat w a b i g, exact-Concat w a b r i h)

  pub counted-Flatten : (w e : Term) → w ≡ Flatten e → counted s w ≡ true → counted s e ≡ true
  counted-Flatten w e i h = sym (ap (counted s) (i ∙ Flatten-is e) ∙ fold-flatten Bool (counted_step s) e) ∙ h

  pub exact-Flatten : (w e : Term) (r : List ℕ) → w ≡ Flatten e → exact s w r ≡ true → exact s e r ≡ true
  exact-Flatten w e r i h = sym (ap (λ w. exact s w r) (i ∙ Flatten-is e) ∙ ap (λ f. f r) (fold-flatten (List ℕ → Bool) (exact_step s) e)) ∙ h

  pub counted-Transpose : (w e : Term) → w ≡ Transpose e → counted s w ≡ true → counted s e ≡ true
  counted-Transpose w e i h = sym (ap (counted s) (i ∙ Transpose-is e) ∙ fold-transpose Bool (counted_step s) e) ∙ h

  pub exact-Transpose : (w e : Term) (r : List ℕ) → w ≡ Transpose e → exact s w r ≡ true → exact s e r ≡ true
  exact-Transpose w e r i h = sym (ap (λ w. exact s w r) (i ∙ Transpose-is e) ∙ ap (λ f. f r) (fold-transpose (List ℕ → Bool) (exact_step s) e)) ∙ h

  pub exact-Split : (w : Term) (n : ℕ) (e : Term) (r : List ℕ) → w ≡ Split n e → exact s w r ≡ true → exact s e r ≡ true
  exact-Split w n e r i h = sym (ap (λ w. exact s w r) (i ∙ Split-is n e) ∙ ap (λ f. f r) (fold-split (List ℕ → Bool) (exact_step s) n e)) ∙ h

  -- the child of a row or of a node that lays rows out anew
  pub child-exact : (w e : Term) (r : List ℕ) → ((x : Aff) × w ≡ Index e x)
      ⊎ ((w ≡ Flatten e) ⊎ (((x : ℕ) × w ≡ Split x e)
      ⊎ ((w ≡ Transpose e) ⊎ (((x : Aff) × w ≡ TruncL x e) ⊎ (((x : Aff) × w ≡ TruncR x e) ⊎ (((x : Aff) × w ≡ PadL x e) ⊎ ((x : Aff) × w ≡ PadR x e)))))))
      → counted s w ≡ true → exact s w r ≡ true → (counted s e ≡ true) × (exact s e r ≡ true)
  child-exact w e r (inl p) g h = (counted-Index w e p.0 p.1 g, (exact-Index w e p.0 r p.1 h).0)
  child-exact w e r (inr (inl i)) g h = (counted-Flatten w e i g, exact-Flatten w e r i h)
  child-exact w e r (inr (inr (inl p))) g h = ((counted-Split w p.0 e p.1 g).1, exact-Split w p.0 e r p.1 h)
  child-exact w e r (inr (inr (inr (inl i)))) g h = (counted-Transpose w e i g, exact-Transpose w e r i h)
  child-exact w e r (inr (inr (inr (inr (inl p))))) g h = ((counted-TruncL w p.0 e p.1 g).1, exact-TruncL w p.0 e r p.1 h)
  child-exact w e r (inr (inr (inr (inr (inr (inl p)))))) g h = ((counted-TruncR w p.0 e p.1 g).1, exact-TruncR w p.0 e r p.1 h)
  child-exact w e r (inr (inr (inr (inr (inr (inr (inl p))))))) g h = ((counted-PadL w p.0 e p.1 g).1, exact-PadL w p.0 e r p.1 h)
  child-exact w e r (inr (inr (inr (inr (inr (inr (inr p))))))) g h = ((counted-PadR w p.0 e p.1 g).1, exact-PadR w p.0 e r p.1 h)
