-- A well scoped term of normal forms is printable.
use Rattle.std.proofs.Common.{◌≡◌, ℕ, ◌+◌, ◌<◌, ◌≤◌, List, [], ◌∷◌, length, Bool, true, ◌&&◌, not, nat_lt, nat_le, sym, ◌∙◌, arith}
use Rattle.std.proofs.lemmas.Bool.{and_parts}
use Rattle.affine_index.specs.Condition.{all_scoped, cmp_form}
use Rattle.affine_index.specs.Limited.{items_scoped}
use Rattle.affine_index.specs.Normal.{is_normal}
use Rattle.affine_index.specs.declared.cond.Cmp.{Cmp}
use Rattle.term_tree.specs.Limits.{each_cmp, every_form, form_step}
use Rattle.term_tree.specs.Scope.{cond_scoped, is_empty, largest_tile, term_scoped}
use Rattle.term_tree.specs.declared.term.Term.{Term, Lit, TVar, WordOf}
use Rattle.term_tree.specs.Syntax.{index, gen, sum, guard, let_in, add, sub, mul, concat, flatten, split, transpose, trunc_l, trunc_r, pad_l, pad_r}
use Rattle.term_tree.proofs.Folds.{fold-word_of, fold-index, fold-gen, fold-sum, fold-guard, fold-let_in, fold-add, fold-sub, fold-mul, fold-concat}
use Rattle.term_tree.proofs.Folds.{fold-flatten, fold-split, fold-transpose, fold-trunc_l, fold-trunc_r, fold-pad_l, fold-pad_r}
use Rattle.atl_printer.specs.Held.{IsHeld}
use Rattle.atl_printer.specs.Printable.{AreGoodForms, IsPrintable}

below : (q n : ℕ) → nat_lt q n ≡ true → q < n
below q n h = grind arith

at_most : (q n : ℕ) → nat_le q n ≡ true → q ≤ n
at_most q n h = grind arith

module _ (sizes : ℕ) where
  pub good_forms : (vars : ℕ) (cs : List Cmp) → all_scoped sizes vars cs ≡ true → each_cmp is_normal cs ≡ true → AreGoodForms sizes vars cs
  good_forms vars [] s n = tt
  good_forms vars (c ∷ cs) s n =
      let ss = and_parts (items_scoped sizes vars (cmp_form c)) (all_scoped sizes vars cs) s in
      let ns = and_parts (is_normal (cmp_form c)) (each_cmp is_normal cs) n in
      ((ns.0, ss.0), good_forms vars cs ss.1 ns.1)

  some_of : (cs : List Cmp) → not (is_empty cs) ≡ true → 0 < length cs
  some_of [] h = absurd (cc)
  some_of (c ∷ cs) h = omega arith

  -- what every form of a term passes
  abbrev Normal : Term → Type 0
  Normal t = every_form is_normal t ≡ true

  abbrev Scoped : Term → ℕ → ℕ → Type 0
  Scoped t vars tensors = term_scoped sizes t vars tensors ≡ true

  pub printable : (t : Term) (vars tensors : ℕ) → Scoped t vars tensors → Normal t → IsHeld t → IsPrintable sizes t vars tensors
  printable (Lit w) vars tensors s n h = h
  printable (TVar q) vars tensors s n h = below q tensors s
  printable (WordOf x) vars tensors s n h = (sym (fold-word_of Bool (form_step is_normal) x) ∙ n, s)
  printable (index e x) vars tensors s n h =
      let ss = and_parts (term_scoped sizes e vars tensors) (items_scoped sizes vars x) s in
      let ns = and_parts (every_form is_normal e) (is_normal x) (sym (fold-index Bool (form_step is_normal) e x) ∙ n) in
      (printable e vars tensors ss.0 ns.0 h, (ns.1, ss.1))
  printable (gen n e) vars tensors s k h =
      let ss = and_parts (items_scoped sizes 0 n) (term_scoped sizes e (vars + 1) tensors) s in
      let ns = and_parts (is_normal n) (every_form is_normal e) (sym (fold-gen Bool (form_step is_normal) n e) ∙ k) in
      ((ns.0, ss.0), printable e (vars + 1) tensors ss.1 ns.1 h)
  printable (sum n e) vars tensors s k h =
      let ss = and_parts (items_scoped sizes 0 n) (term_scoped sizes e (vars + 1) tensors) s in
      let ns = and_parts (is_normal n) (every_form is_normal e) (sym (fold-sum Bool (form_step is_normal) n e) ∙ k) in
      ((ns.0, ss.0), printable e (vars + 1) tensors ss.1 ns.1 h)
  printable (guard c e) vars tensors s n h =
      let ss = and_parts (cond_scoped sizes vars c) (term_scoped sizes e vars tensors) s in
      let cs = and_parts (not (is_empty c.all)) (all_scoped sizes vars c.all) ss.0 in
      let ns = and_parts (each_cmp is_normal c.all) (every_form is_normal e) (sym (fold-guard Bool (form_step is_normal) c e) ∙ n) in
      ((some_of c.all cs.0, h.0, good_forms vars c.all cs.1 ns.0), printable e vars tensors ss.1 ns.1 h.1)
  printable (let_in a e) vars tensors s n h =
      let ss = and_parts (term_scoped sizes a vars tensors) (term_scoped sizes e vars (tensors + 1)) s in
      let ns = and_parts (every_form is_normal a) (every_form is_normal e) (sym (fold-let_in Bool (form_step is_normal) a e) ∙ n) in
      (printable a vars tensors ss.0 ns.0 h.0, printable e vars (tensors + 1) ss.1 ns.1 h.1)
  printable (add a e) vars tensors s n h =
      let ss = and_parts (term_scoped sizes a vars tensors) (term_scoped sizes e vars tensors) s in
      let ns = and_parts (every_form is_normal a) (every_form is_normal e) (sym (fold-add Bool (form_step is_normal) a e) ∙ n) in
      (printable a vars tensors ss.0 ns.0 h.0, printable e vars tensors ss.1 ns.1 h.1)
  printable (sub a e) vars tensors s n h =
      let ss = and_parts (term_scoped sizes a vars tensors) (term_scoped sizes e vars tensors) s in
      let ns = and_parts (every_form is_normal a) (every_form is_normal e) (sym (fold-sub Bool (form_step is_normal) a e) ∙ n) in
      (printable a vars tensors ss.0 ns.0 h.0, printable e vars tensors ss.1 ns.1 h.1)
  printable (mul a e) vars tensors s n h =
      let ss = and_parts (term_scoped sizes a vars tensors) (term_scoped sizes e vars tensors) s in
      let ns = and_parts (every_form is_normal a) (every_form is_normal e) (sym (fold-mul Bool (form_step is_normal) a e) ∙ n) in
      (printable a vars tensors ss.0 ns.0 h.0, printable e vars tensors ss.1 ns.1 h.1)
  printable (concat a e) vars tensors s n h =
      let ss = and_parts (term_scoped sizes a vars tensors) (term_scoped sizes e vars tensors) s in
      let ns = and_parts (every_form is_normal a) (every_form is_normal e) (sym (fold-concat Bool (form_step is_normal) a e) ∙ n) in
      (printable a vars tensors ss.0 ns.0 h.0, printable e vars tensors ss.1 ns.1 h.1)
  printable (flatten e) vars tensors s n h = printable e vars tensors s (sym (fold-flatten Bool (form_step is_normal) e) ∙ n) h
  printable (transpose e) vars tensors s n h = printable e vars tensors s (sym (fold-transpose Bool (form_step is_normal) e) ∙ n) h
  printable (split d e) vars tensors s n h =
      let ss = and_parts (nat_lt 0 d && nat_le d largest_tile) (term_scoped sizes e vars tensors) s in
      let ds = and_parts (nat_lt 0 d) (nat_le d largest_tile) ss.0 in
      (below 0 d ds.0, at_most d largest_tile ds.1, printable e vars tensors ss.1 (sym (fold-split Bool (form_step is_normal) d e) ∙ n) h)
  printable (trunc_l n e) vars tensors s k h =
      let ss = and_parts (items_scoped sizes 0 n) (term_scoped sizes e vars tensors) s in
      let ns = and_parts (is_normal n) (every_form is_normal e) (sym (fold-trunc_l Bool (form_step is_normal) n e) ∙ k) in
      ((ns.0, ss.0), printable e vars tensors ss.1 ns.1 h)
  printable (trunc_r n e) vars tensors s k h =
      let ss = and_parts (items_scoped sizes 0 n) (term_scoped sizes e vars tensors) s in
      let ns = and_parts (is_normal n) (every_form is_normal e) (sym (fold-trunc_r Bool (form_step is_normal) n e) ∙ k) in
      ((ns.0, ss.0), printable e vars tensors ss.1 ns.1 h)
  printable (pad_l n e) vars tensors s k h =
      let ss = and_parts (items_scoped sizes 0 n) (term_scoped sizes e vars tensors) s in
      let ns = and_parts (is_normal n) (every_form is_normal e) (sym (fold-pad_l Bool (form_step is_normal) n e) ∙ k) in
      ((ns.0, ss.0), printable e vars tensors ss.1 ns.1 h)
  printable (pad_r n e) vars tensors s k h =
      let ss = and_parts (items_scoped sizes 0 n) (term_scoped sizes e vars tensors) s in
      let ns = and_parts (is_normal n) (every_form is_normal e) (sym (fold-pad_r Bool (form_step is_normal) n e) ∙ k) in
      ((ns.0, ss.0), printable e vars tensors ss.1 ns.1 h)
