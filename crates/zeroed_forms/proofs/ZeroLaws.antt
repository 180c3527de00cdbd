-- The equations of a form with 0 for an atom.
use Rattle.std.proofs.Common.{◌≡◌, ℕ, ◌+◌, ◌<◌, List, [], ◌∷◌, drop, get_or, length, map, refl, ap, sym, ◌∙◌, subst, true, false, if◌then◌else◌}
use Rattle.std.specs.Prelude.{ℤ, pos, Option, Some, None, Result, IfOk}
use Rattle.affine_index.specs.Form.{literal_form, size_form, var_form}
use Rattle.affine_index.specs.declared.form.Atom.{Atom}
use Rattle.affine_index.specs.declared.form.Item.{Item}
use Rattle.affine_index.specs.declared.form.Items.{Items}
use Rattle.affine_index.specs.declared.form.Atom.TheVariants.{Size, Var, Div, Mul, rolls-Size, rolls-Var, rolls-Mul, rolls-Div}
use Rattle.affine_index.specs.declared.form.Atom.TheOpen.{Atom-F}
use Rattle.affine_index.specs.declared.form.Atom.TheFolds.{fold-Atom, fold-Items, fold-roll-Atom, fold_out-Items}
use Rattle.affine_index.proofs.GivenLaws.{zero-normal}
use Rattle.affine_index.proofs.Induction.{Each, EachTerm, for_atoms, for_items}
use Rattle.affine_index.proofs.Lists.{drop-item}
use Rattle.fact_list.specs.Atoms.{same_atoms}
use Rattle.fact_list.specs.Facts.{where_normal}
use Rattle.fact_list.specs.declared.refusal.CertRefusal.{CertRefusal}
use Rattle.zeroed_forms.specs.Zeroed.{Zeroed, all_plus, all_times, atom_zeroed, factors_zeroed, plus, product, quotient, terms_zeroed, times}
use Rattle.zeroed_forms.specs.Zeroed.{whole_items, wholes}
use Rattle.zeroed_forms.specs.Zeroed.{zero_items_step, zero_step, zeroed}

module _ (z : Atom) where
  abbrev told : Atom → Zeroed Atom
  told = fold-Atom (Zeroed Atom) (Zeroed Items) (zero_step z) zero_items_step

  abbrev told_items : Items → Zeroed Items
  told_items = fold-Items (Zeroed Atom) (Zeroed Items) (zero_step z) zero_items_step

  told-Size : (s : ℕ) → told (Size s) ≡ zero_step z (Atom-F.Size s)
  told-Size s = ap told (sym (rolls-Size s)) ∙ fold-roll-Atom _ _ (zero_step z) zero_items_step (Atom-F.Size s)

  told-Var : (v : ℕ) → told (Var v) ≡ zero_step z (Atom-F.Var v)
  told-Var v = ap told (sym (rolls-Var v)) ∙ fold-roll-Atom _ _ (zero_step z) zero_items_step (Atom-F.Var v)

  told-Div : (i : Items) (k : ℕ) → told (Div i k) ≡ zero_step z (Atom-F.Div (told_items i) k)
  told-Div i k = ap told (sym (rolls-Div i k)) ∙ fold-roll-Atom _ _ (zero_step z) zero_items_step (Atom-F.Div i k)

  told-Mul : (fs : List Atom) → told (Mul fs) ≡ zero_step z (Atom-F.Mul (map told fs))
  told-Mul fs = ap told (sym (rolls-Mul fs)) ∙ fold-roll-Atom _ _ (zero_step z) zero_items_step (Atom-F.Mul fs)

  abbrev told_term : Item Atom → Item (Zeroed Atom)
  told_term t = record { atom = told t.atom; coefficient = t.coefficient }

  told-items : (i : Items) → told_items i ≡ zero_items_step (record { terms = map told_term i.terms; constant = i.constant })
  told-items i = fold_out-Items (Zeroed Atom) (Zeroed Items) (zero_step z) zero_items_step i

  wholes-is : (fs : List Atom) → Each (λ a. (told a).whole ≡ a) fs → wholes (map told fs) ≡ fs
  wholes-is [] h = refl
  wholes-is (f ∷ fs) h = λ k. h.0 k ∷ wholes-is fs h.1 k

  whole_items-is : (ts : List (Item Atom)) → EachTerm (λ a. (told a).whole ≡ a) ts → whole_items (map told_term ts) ≡ ts
  whole_items-is [] h = refl
  whole_items-is (t ∷ ts) h = λ k. record { atom = h.0 k; coefficient = t.coefficient } ∷ whole_items-is ts h.1 k

  whole-Div : (i : Items) (k : ℕ) → (told_items i).whole ≡ i → (told (Div i k)).whole ≡ Div i k
  whole-Div i k h = ap (λ r. r.whole) (told-Div i k) ∙ ap (λ j. Div j k) h

  whole-Mul : (fs : List Atom) → Each (λ a. (told a).whole ≡ a) fs → (told (Mul fs)).whole ≡ Mul fs
  whole-Mul fs h = ap (λ r. r.whole) (told-Mul fs) ∙ ap Mul (wholes-is fs h)

  whole-form : (ts : List (Item Atom)) (c : ℤ) → EachTerm (λ a. (told a).whole ≡ a) ts
      → (told_items (record { terms = ts; constant = c })).whole ≡ record { terms = ts; constant = c }
  whole-form ts c h = ap (λ r. r.whole) (told-items (record { terms = ts; constant = c }))
      ∙ ap (λ us. record { terms = us; constant = c }) (whole_items-is ts h)

  whole-is : (a : Atom) → (told a).whole ≡ a
  whole-is = for_atoms (λ a. (told a).whole ≡ a) (λ i. (told_items i).whole ≡ i) (λ s. ap (λ r. r.whole) (told-Size s)) (λ v. ap (λ r. r.whole) (told-Var v))
      whole-Div whole-Mul whole-form

  whole_form-is : (i : Items) → (told_items i).whole ≡ i
  whole_form-is = for_items (λ a. (told a).whole ≡ a) (λ i. (told_items i).whole ≡ i) (λ s. ap (λ r. r.whole) (told-Size s))
      (λ v. ap (λ r. r.whole) (told-Var v)) whole-Div whole-Mul whole-form

  all_wholes : (fs : List Atom) → Each (λ a. (told a).whole ≡ a) fs
  all_wholes [] = tt
  all_wholes (f ∷ fs) = (whole-is f, all_wholes fs)

  factors_map : (fs : List Atom) (o : Option Items) → all_times (map told fs) o ≡ factors_zeroed z fs o
  factors_map [] o = refl
  factors_map (f ∷ fs) o = factors_map fs (product o (atom_zeroed z f))

  terms_map : (ts : List (Item Atom)) (o : Option Items) → all_plus (map told_term ts) o ≡ terms_zeroed z ts o
  terms_map [] o = refl
  terms_map (t ∷ ts) o = terms_map ts (plus o (times t.coefficient (atom_zeroed z t.atom)))

  -- 0 for the one atom, or what is made of the parts
  abbrev pub by_same : Atom → Option Items → Option Items
  by_same a o = if same_atoms z a then Some (literal_form (pos 0)) else o

  pub zero-Size : (s : ℕ) → atom_zeroed z (Size s) ≡ by_same (Size s) (Some (size_form s))
  zero-Size s = ap (λ r. r.form) (told-Size s)

  pub zero-Var : (v : ℕ) → atom_zeroed z (Var v) ≡ by_same (Var v) (Some (var_form v))
  zero-Var v = ap (λ r. r.form) (told-Var v)

  pub zero-Div : (i : Items) (k : ℕ) → atom_zeroed z (Div i k) ≡ by_same (Div i k) (quotient (zeroed z i) k)
  zero-Div i k = ap (λ r. r.form) (told-Div i k) ∙ ap (λ j. by_same (Div j k) (quotient (zeroed z i) k)) (whole_form-is i)

  pub zero-Mul : (fs : List Atom) → atom_zeroed z (Mul fs) ≡ by_same (Mul fs) (factors_zeroed z fs (Some (literal_form (pos 1))))
  zero-Mul fs =
      ap (λ r. r.form) (told-Mul fs)
      ∙ (λ k. by_same (Mul (wholes-is fs (all_wholes fs) k)) (factors_map fs (Some (literal_form (pos 1))) k))

  pub zero-items : (i : Items) → zeroed z i ≡ terms_zeroed z i.terms (where_normal (literal_form i.constant))
  zero-items i = ap (λ r. r.form) (told-items i) ∙ terms_map i.terms (where_normal (literal_form i.constant))

  -- the one atom, and others
  taken : (a : Atom) (o : Option Items) → same_atoms z a ≡ true → by_same a o ≡ Some (literal_form (pos 0))
  taken a o h = ap (λ b. if b then Some (literal_form (pos 0)) else o) h

  left : (a : Atom) (o : Option Items) → same_atoms z a ≡ false → by_same a o ≡ o
  left a o h = ap (λ b. if b then Some (literal_form (pos 0)) else o) h

  abbrev Taken : Atom → Type 0
  Taken a = same_atoms z a ≡ true → atom_zeroed z a ≡ Some (literal_form (pos 0))

  pub zero-same : (a : Atom) → Taken a
  zero-same = for_atoms Taken (λ _. Unit {0})
      (λ s h. zero-Size s ∙ taken (Size s) (Some (size_form s)) h)
      (λ v h. zero-Var v ∙ taken (Var v) (Some (var_form v)) h)
      (λ i k _ h. zero-Div i k ∙ taken (Div i k) (quotient (zeroed z i) k) h)
      (λ fs _ h. zero-Mul fs ∙ taken (Mul fs) (factors_zeroed z fs (Some (literal_form (pos 1)))) h)
      (λ ts c _. tt)

  pub other-Size : (s : ℕ) → same_atoms z (Size s) ≡ false → atom_zeroed z (Size s) ≡ Some (size_form s)
  other-Size s h = zero-Size s ∙ left (Size s) (Some (size_form s)) h

  pub other-Var : (v : ℕ) → same_atoms z (Var v) ≡ false → atom_zeroed z (Var v) ≡ Some (var_form v)
  other-Var v h = zero-Var v ∙ left (Var v) (Some (var_form v)) h

  pub other-Div : (i : Items) (k : ℕ) → same_atoms z (Div i k) ≡ false → atom_zeroed z (Div i k) ≡ quotient (zeroed z i) k
  other-Div i k h = zero-Div i k ∙ left (Div i k) (quotient (zeroed z i) k) h

  pub other-Mul : (fs : List Atom) → same_atoms z (Mul fs) ≡ false → atom_zeroed z (Mul fs) ≡ factors_zeroed z fs (Some (literal_form (pos 1)))
  other-Mul fs h = zero-Mul fs ∙ left (Mul fs) (factors_zeroed z fs (Some (literal_form (pos 1)))) h

-- what is made is what another definition says
pub same_ok : (r : Result (Option Items) CertRefusal) (x y : Option Items) → x ≡ y → IfOk r (λ o. o ≡ x) → IfOk r (λ o. o ≡ y)
same_ok r x y e h = subst (λ w. IfOk r (λ o. o ≡ w)) e h

-- small numbers are within the limits
pub where-zero : where_normal (literal_form (pos 0)) ≡ Some (literal_form (pos 0))
where-zero = ap (λ b. if b then Some (literal_form (pos 0)) else None) zero-normal

pub factors-next : (z : Atom) (fs : List Atom) (at : ℕ) (x : Atom) (o : Option Items) → at < length fs → x ≡ get_or fs at x
    → factors_zeroed z (drop (at + 1) fs) (product o (atom_zeroed z x)) ≡ factors_zeroed z (drop at fs) o
factors-next z fs at x o h e = ap (λ gs. factors_zeroed z gs o) (sym (drop-item fs at x h e))

pub terms-next : (z : Atom) (ts : List (Item Atom)) (at : ℕ) (t : Item Atom) (o : Option Items) → at < length ts → t ≡ get_or ts at t
    → terms_zeroed z (drop (at + 1) ts) (plus o (times t.coefficient (atom_zeroed z t.atom))) ≡ terms_zeroed z (drop at ts) o
terms-next z ts at t o h e = ap (λ us. terms_zeroed z us o) (sym (drop-item ts at t h e))

pub ruleset zero_laws = (zero-same, other-Size, other-Var, other-Div, other-Mul, zero-items)
