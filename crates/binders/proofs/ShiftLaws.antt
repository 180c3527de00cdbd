-- A term whose variables are moved up breaks no limit.
use Rattle.std.proofs.Common.{◌≡◌, ℕ, suc, ◌+◌, List, [], ◌∷◌, map, refl, sym, ◌∙◌, Bool, true, ◌&&◌, cond, nat_lt}
use Rattle.std.proofs.lemmas.Bool.{and_from, and_parts, true_from_ne_false}
use Rattle.affine_index.specs.Normal.{is_normal, is_short}
use Rattle.affine_index.specs.Normal.{coefficients_fit as form_fits}
use Rattle.affine_index.specs.Put.{put_all, shifted}
use Rattle.affine_index.specs.declared.aff.Aff.{Aff}
use Rattle.affine_index.specs.declared.cond.Cmp.{Cmp}
use Rattle.affine_index.specs.declared.cond.Cmp.TheVariants.{Ge, Eq}
use Rattle.affine_index.specs.declared.form.Items.{Items}
use Rattle.affine_index.specs.declared.refusal.AffRefusal.TheVariants.{CoefficientTooLarge as TooLarge, IndexTooLong as TooLong}
use Rattle.affine_index.proofs.Renaming.{shifted-refused}
use Rattle.term_tree.specs.declared.term.Term.{Term, Lit, TVar, WordOf}
use Rattle.term_tree.specs.Limits.{coefficients_fit, each_cmp, every_form, form_step, forms_short}
use Rattle.term_tree.specs.Syntax.{index, gen, sum, guard, let_in, add, sub, mul, concat, flatten, split, transpose, trunc_l, trunc_r, pad_l, pad_r}
use Rattle.term_tree.proofs.Folds.{fold-lit, fold-t_var, fold-word_of, fold-index, fold-gen, fold-sum, fold-guard, fold-let_in, fold-add, fold-sub, fold-mul}
use Rattle.term_tree.proofs.Folds.{fold-concat, fold-flatten, fold-split, fold-transpose, fold-trunc_l, fold-trunc_r, fold-pad_l, fold-pad_r}
use Rattle.binders.specs.Maps.{Replacement, mapped, put_cmp}
use Rattle.binders.specs.PlainMaps.{shift_map}
use Rattle.binders.proofs.NormalLaws.{fits_of, short_of}

carried : (a b c d : Bool) → (a ≡ true → c ≡ true) → (b ≡ true → d ≡ true) → (a && b) ≡ true → (c && d) ≡ true
carried a b c d f g h = let p = and_parts a b h in and_from c d (f p.0) (g p.1)

-- a test that a mapped form passes wherever the form is normal
module _ (p : Aff → Bool) (m : Replacement) (weaker : (x : Aff) → is_normal x ≡ true → p x ≡ true)
    (put : (i j : ℕ) (x : Items) → is_normal x ≡ true → p (put_all (m.for_index i j) x) ≡ true)
    (tensor : (i j q : ℕ) → every_form p (m.for_tensor i j q) ≡ true) where
  abbrev Normal : Term → Type 0
  Normal e = every_form is_normal e ≡ true

  abbrev Passes : Term → Type 0
  Passes e = every_form p e ≡ true

  cmps-put : (cs : List Cmp) (i j : ℕ) → each_cmp is_normal cs ≡ true → each_cmp p (map (put_cmp (m.for_index i j)) cs) ≡ true
  cmps-put [] i j h = refl
  cmps-put (Ge x ∷ cs) i j h = carried (is_normal x) (each_cmp is_normal cs) _ _ (put i j x) (cmps-put cs i j) h
  cmps-put (Eq x ∷ cs) i j h = carried (is_normal x) (each_cmp is_normal cs) _ _ (put i j x) (cmps-put cs i j) h

  -- each form of the mapped term passes it
  pub mapped-passes : (e : Term) (i j : ℕ) → Normal e → Passes (mapped m i j e)
  mapped-passes (Lit w) i j h = fold-lit Bool (form_step p) w
  mapped-passes (TVar q) i j h = tensor i j q
  mapped-passes (WordOf x) i j h = fold-word_of Bool (form_step p) (put_all (m.for_index i j) x)
      ∙ put i j x (sym (fold-word_of Bool (form_step is_normal) x) ∙ h)
  mapped-passes (index e x) i j h =
      fold-index Bool (form_step p) _ _
      ∙ carried (every_form is_normal e) (is_normal x) _ _ (mapped-passes e i j) (put i j x) (sym (fold-index Bool (form_step is_normal) e x) ∙ h)
  mapped-passes (guard c e) i j h =
      fold-guard Bool (form_step p) _ _
      ∙ carried (each_cmp is_normal c.all) (every_form is_normal e) _ _ (cmps-put c.all i j) (mapped-passes e i j)
      (sym (fold-guard Bool (form_step is_normal) c e) ∙ h)
  mapped-passes (gen n e) i j h =
      fold-gen Bool (form_step p) _ _
      ∙ carried (is_normal n) (every_form is_normal e) _ _ (weaker n) (mapped-passes e (suc i) j) (sym (fold-gen Bool (form_step is_normal) n e) ∙ h)
  mapped-passes (sum n e) i j h =
      fold-sum Bool (form_step p) _ _
      ∙ carried (is_normal n) (every_form is_normal e) _ _ (weaker n) (mapped-passes e (suc i) j) (sym (fold-sum Bool (form_step is_normal) n e) ∙ h)
  mapped-passes (let_in a b) i j h =
      fold-let_in Bool (form_step p) _ _
      ∙ carried (every_form is_normal a) (every_form is_normal b) _ _ (mapped-passes a i j) (mapped-passes b i (suc j))
      (sym (fold-let_in Bool (form_step is_normal) a b) ∙ h)
  mapped-passes (add a b) i j h =
      fold-add Bool (form_step p) _ _
      ∙ carried (every_form is_normal a) (every_form is_normal b) _ _ (mapped-passes a i j) (mapped-passes b i j)
      (sym (fold-add Bool (form_step is_normal) a b) ∙ h)
  mapped-passes (sub a b) i j h =
      fold-sub Bool (form_step p) _ _
      ∙ carried (every_form is_normal a) (every_form is_normal b) _ _ (mapped-passes a i j) (mapped-passes b i j)
      (sym (fold-sub Bool (form_step is_normal) a b) ∙ h)
  mapped-passes (mul a b) i j h =
      fold-mul Bool (form_step p) _ _
      ∙ carried (every_form is_normal a) (every_form is_normal b) _ _ (mapped-passes a i j) (mapped-passes b i j)
      (sym (fold-mul Bool (form_step is_normal) a b) ∙ h)
  mapped-passes (concat a b) i j h =
      fold-concat Bool (form_step p) _ _
      ∙ carried (every_form is_normal a) (every_form is_normal b) _ _ (mapped-passes a i j) (mapped-passes b i j)
      (sym (fold-concat Bool (form_step is_normal) a b) ∙ h)
  mapped-passes (flatten e) i j h = fold-flatten Bool (form_step p) _ ∙ mapped-passes e i j (sym (fold-flatten Bool (form_step is_normal) e) ∙ h)
  mapped-passes (split k e) i j h = fold-split Bool (form_step p) k _ ∙ mapped-passes e i j (sym (fold-split Bool (form_step is_normal) k e) ∙ h)
  mapped-passes (transpose e) i j h = fold-transpose Bool (form_step p) _ ∙ mapped-passes e i j (sym (fold-transpose Bool (form_step is_normal) e) ∙ h)
  mapped-passes (trunc_l n e) i j h =
      fold-trunc_l Bool (form_step p) _ _
      ∙ carried (is_normal n) (every_form is_normal e) _ _ (weaker n) (mapped-passes e i j) (sym (fold-trunc_l Bool (form_step is_normal) n e) ∙ h)
  mapped-passes (trunc_r n e) i j h =
      fold-trunc_r Bool (form_step p) _ _
      ∙ carried (is_normal n) (every_form is_normal e) _ _ (weaker n) (mapped-passes e i j) (sym (fold-trunc_r Bool (form_step is_normal) n e) ∙ h)
  mapped-passes (pad_l n e) i j h =
      fold-pad_l Bool (form_step p) _ _
      ∙ carried (is_normal n) (every_form is_normal e) _ _ (weaker n) (mapped-passes e i j) (sym (fold-pad_l Bool (form_step is_normal) n e) ∙ h)
  mapped-passes (pad_r n e) i j h =
      fold-pad_r Bool (form_step p) _ _
      ∙ carried (is_normal n) (every_form is_normal e) _ _ (weaker n) (mapped-passes e i j) (sym (fold-pad_r Bool (form_step is_normal) n e) ∙ h)

-- a normal form whose variables are moved up is within the limits
moved_fits : (from by : ℕ) (x : Items) → is_normal x ≡ true → form_fits (shifted from by x) ≡ true
moved_fits from by x h = true_from_ne_false (form_fits (shifted from by x)) (λ e. let bad = shifted-refused from by x TooLarge h e in cc)

moved_short : (from by : ℕ) (x : Items) → is_normal x ≡ true → is_short (shifted from by x) ≡ true
moved_short from by x h = true_from_ne_false (is_short (shifted from by x))
    (λ e. let bad = shifted-refused from by x TooLong h (moved_fits from by x h, e) in cc)

pub shift-fits : (a b : ℕ) (e : Term) → every_form is_normal e ≡ true → coefficients_fit (mapped (shift_map a b) 0 0 e) ≡ true
shift-fits a b e h =
    mapped-passes form_fits (shift_map a b) fits_of (λ i j x. moved_fits i a x) (λ i j q. fold-t_var Bool (form_step form_fits) (cond (nat_lt q j) q (q + b))) e
    0 0 h

pub shift-short : (a b : ℕ) (e : Term) → every_form is_normal e ≡ true → forms_short (mapped (shift_map a b) 0 0 e) ≡ true
shift-short a b e h =
    mapped-passes is_short (shift_map a b) short_of (λ i j x. moved_short i a x) (λ i j q. fold-t_var Bool (form_step is_short) (cond (nat_lt q j) q (q + b))) e
    0 0 h
