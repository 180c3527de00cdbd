-- A form with 0 for an atom whose value is 0 has the value of the form.
use Rattle.std.proofs.Common.{◌≡◌, ℕ, List, [], ◌∷◌, refl, ap, sym, ◌∙◌, subst, arith, Bool, true, false, ◌&&◌, if◌then◌else◌, nat_le, nat_lt}
use Rattle.std.specs.Prelude.{ℤ, pos, ◌+ℤ◌, ◌*ℤ◌, Option, Some, None}
use Rattle.std.specs.Int.{int_div_euclid}
use Rattle.std.proofs.lemmas.Bool.{and_parts, ltb-true}
use Rattle.std.proofs.lemmas.Int.{ints}
use Rattle.affine_index.specs.Form.{literal_form, size_form, var_form}
use Rattle.affine_index.specs.Normal.{holds_var, is_normal}
use Rattle.affine_index.specs.Product.{product_of}
use Rattle.affine_index.specs.Quotient.{quotient_of}
use Rattle.affine_index.specs.Sum.{scaled, sum_of}
use Rattle.affine_index.specs.Value.{atom_value, items_value, terms_value}
use Rattle.affine_index.specs.declared.form.Atom.{Atom}
use Rattle.affine_index.specs.declared.form.Atom.TheVariants.{Size, Var, Div, Mul}
use Rattle.affine_index.specs.declared.form.Item.{Item}
use Rattle.affine_index.specs.declared.form.Items.{Items}
use Rattle.affine_index.proofs.Induction.{Each, EachTerm, for_items}
use Rattle.affine_index.proofs.Ring.{*ℤ_assoc}
use Rattle.affine_index.proofs.SumValue.{items_value-is, sum_of-value}
use Rattle.affine_index.proofs.Values.{factors_value, value-Div, value-Mul, value-literal, value-of_atom, value-product, value-quotient, value-scaled}
use Rattle.fact_list.proofs.AtomLaws.{same-is}
use Rattle.fact_list.specs.Atoms.{same_atoms}
use Rattle.fact_list.specs.Facts.{where_normal}
use Rattle.zeroed_forms.specs.Laws.{ZeroedKeepsValue}
use Rattle.zeroed_forms.specs.Zeroed.{atom_zeroed, factors_zeroed, plus, product, quotient, terms_zeroed, times, zeroed}
use Rattle.zeroed_forms.proofs.ZeroLaws.{by_same, zero-Div, zero-Mul, zero-Size, zero-Var, zero-items}

module _ (s r : List ℕ) where
  -- a form, where there is one, has this value
  abbrev Has : ℤ → Option Items → Type 0
  Has v None = Unit {0}
  Has v (Some x) = items_value s r x ≡ v

  where_has : (v : ℤ) (x : Items) → items_value s r x ≡ v → Has v (where_normal x)
  where_has v x h = by (is_normal x)
    where
      by : (b : Bool) → Has v (if b then Some x else None)
      by true = h
      by false = tt

  times_has : (c v : ℤ) (o : Option Items) → Has v o → Has (c *ℤ v) (times c o)
  times_has c v None h = tt
  times_has c v (Some x) h = where_has (c *ℤ v) (scaled c x) (value-scaled s r c x ∙ ap (λ z. c *ℤ z) h)

  plus_has : (v w : ℤ) (o p : Option Items) → Has v o → Has w p → Has (v +ℤ w) (plus o p)
  plus_has v w None p h k = tt
  plus_has v w (Some x) None h k = tt
  plus_has v w (Some x) (Some y) h k = where_has (v +ℤ w) (sum_of x y) (sum_of-value s r x y ∙ (λ i. h i +ℤ k i))

  product_has : (v w : ℤ) (o p : Option Items) → Has v o → Has w p → Has (v *ℤ w) (product o p)
  product_has v w None p h k = tt
  product_has v w (Some x) None h k = tt
  product_has v w (Some x) (Some y) h k = by (holds_var x && holds_var y)
    where
      by : (b : Bool) → Has (v *ℤ w) (if b then None else where_normal (product_of x y))
      by true = tt
      by false = where_has (v *ℤ w) (product_of x y) (value-product s r x y ∙ (λ i. h i *ℤ k i))

  quotient_has : (v : ℤ) (o : Option Items) (k : ℕ) → Has v o → Has (int_div_euclid v (pos k)) (quotient o k)
  quotient_has v None k h = tt
  quotient_has v (Some x) k h = by (nat_lt 0 k && nat_le k 2147483647) refl
    where
      by : (b : Bool) → (nat_lt 0 k && nat_le k 2147483647) ≡ b → Has (int_div_euclid v (pos k)) (if b then where_normal (quotient_of x k) else None)
      by true e =
          where_has (int_div_euclid v (pos k)) (quotient_of x k)
          (value-quotient s r x k (ltb-true 0 k (and_parts (nat_lt 0 k) (nat_le k 2147483647) e).0) ∙ ap (λ z. int_div_euclid z (pos k)) h)
      by false e = tt

  module _ (z : Atom) (zero : atom_value s r z ≡ pos 0) where
    abbrev AtomHas : Atom → Type 0
    AtomHas a = Has (atom_value s r a) (atom_zeroed z a)

    abbrev FormHas : Items → Type 0
    FormHas x = Has (items_value s r x) (zeroed z x)

    -- an atom that equals the one is 0
    same_has : (a : Atom) (o : Option Items) → Has (atom_value s r a) o → Has (atom_value s r a) (by_same z a o)
    same_has a o h = by (same_atoms z a) refl
      where
        by : (b : Bool) → same_atoms z a ≡ b → Has (atom_value s r a) (if b then Some (literal_form (pos 0)) else o)
        by true e = value-literal s r (pos 0) ∙ sym zero ∙ ap (atom_value s r) (same-is z a e)
        by false e = h

    factors_have : (fs : List Atom) (v : ℤ) (o : Option Items) → Each AtomHas fs → Has v o → Has (v *ℤ factors_value s r fs) (factors_zeroed z fs o)
    factors_have [] v o h k = subst (λ w. Has w o) (once v) k
      where
        once : (v : ℤ) → v ≡ v *ℤ pos 1
        once v = omega (arith, ints)
    factors_have (a ∷ fs) v o h k =
        subst (λ w. Has w (factors_zeroed z fs (product o (atom_zeroed z a)))) (*ℤ_assoc v (atom_value s r a) (factors_value s r fs))
        (factors_have fs (v *ℤ atom_value s r a) (product o (atom_zeroed z a)) h.1 (product_has v (atom_value s r a) o (atom_zeroed z a) k h.0))

    terms_have : (ts : List (Item Atom)) (v : ℤ) (o : Option Items) → EachTerm AtomHas ts → Has v o → Has (v +ℤ terms_value s r ts) (terms_zeroed z ts o)
    terms_have [] v o h k = subst (λ w. Has w o) (once v) k
      where
        once : (v : ℤ) → v ≡ v +ℤ pos 0
        once v = omega (arith, ints)
    terms_have (t ∷ ts) v o h k =
        let item = t.coefficient *ℤ atom_value s r t.atom in
        let p = plus o (times t.coefficient (atom_zeroed z t.atom)) in
        subst (λ w. Has w (terms_zeroed z ts p)) (again v item (terms_value s r ts))
        (terms_have ts (v +ℤ item) p h.1
        (plus_has v item o (times t.coefficient (atom_zeroed z t.atom)) k (times_has t.coefficient (atom_value s r t.atom) (atom_zeroed z t.atom) h.0)))
      where
        again : (u v w : ℤ) → (u +ℤ v) +ℤ w ≡ u +ℤ (v +ℤ w)
        again u v w = omega (arith, ints)

    form_has : (x : Items) → FormHas x
    form_has = for_items AtomHas FormHas
        (λ k. subst (Has (atom_value s r (Size k))) (sym (zero-Size z k)) (same_has (Size k) (Some (size_form k)) (value-of_atom s r (Size k))))
        (λ k. subst (Has (atom_value s r (Var k))) (sym (zero-Var z k)) (same_has (Var k) (Some (var_form k)) (value-of_atom s r (Var k))))
        (λ i k h.
        subst (Has (atom_value s r (Div i k))) (sym (zero-Div z i k))
        (same_has (Div i k) (quotient (zeroed z i) k)
        (subst (λ v. Has v (quotient (zeroed z i) k)) (sym (value-Div s r i k)) (quotient_has (items_value s r i) (zeroed z i) k h))))
        (λ fs h.
        let one : Items = literal_form (pos 1) in
        subst (Has (atom_value s r (Mul fs))) (sym (zero-Mul z fs))
        (same_has (Mul fs) (factors_zeroed z fs (Some one))
        (subst (λ v. Has v (factors_zeroed z fs (Some one))) (once (factors_value s r fs) ∙ sym (value-Mul s r fs))
        (factors_have fs (pos 1) (Some one) h (value-literal s r (pos 1))))))
        (λ ts c h.
        let x : Items = record { terms = ts; constant = c } in
        subst (Has (items_value s r x)) (sym (zero-items z x))
        (subst (λ v. Has v (terms_zeroed z ts (where_normal (literal_form c)))) (turned c (terms_value s r ts) ∙ sym (items_value-is s r x))
        (terms_have ts c (where_normal (literal_form c)) h (where_has c (literal_form c) (value-literal s r c)))))
      where
        once : (v : ℤ) → pos 1 *ℤ v ≡ v
        once v = omega (arith, ints)

        turned : (v w : ℤ) → v +ℤ w ≡ w +ℤ v
        turned v w = omega (arith, ints)

pub zeroed_keeps_value : ZeroedKeepsValue
zeroed_keeps_value s r z x y e h = subst (Has s r (items_value s r x)) h (form_has s r z e x)
