-- Atoms of normal forms are at least 0.
use Rattle.std.proofs.Common.{◌≡◌, ℕ, ◌+◌, ◌*◌, ◌/◌, List, [], ◌∷◌, refl, ap, ◌∙◌, true, nat_le}
use Rattle.std.specs.Prelude.{ℤ, pos, negsuc, ◌+ℤ◌, ◌*ℤ◌, slice_index}
use Rattle.std.specs.Int.{int_div_euclid}
use Rattle.std.proofs.lemmas.Bool.{and_parts}
use Rattle.affine_index.specs.Normal.{all_remainders, has_items, is_ordered, is_remainder}
use Rattle.affine_index.specs.Value.{atom_value, items_value, terms_value}
use Rattle.affine_index.proofs.Factors.{Ordered, mul_parts}
use Rattle.affine_index.proofs.Induction.{Each, EachTerm, for_atoms}
use Rattle.affine_index.proofs.ReadyLaws.{ordered-Div}
use Rattle.affine_index.proofs.Sorted.{EachItem, GoodItem, ordered-terms}
use Rattle.affine_index.proofs.SumValue.{items_value-is}
use Rattle.affine_index.proofs.Values.{factors_value, value-Size, value-Var, value-Div, value-Mul}
use Rattle.affine_index.specs.declared.form.Atom.{Atom}
use Rattle.affine_index.specs.declared.form.Atom.TheVariants.{Div, Mul}
use Rattle.affine_index.specs.declared.form.Item.{Item}
use Rattle.affine_index.specs.declared.form.Items.{Items}

abbrev Natural : ℤ → Type 0
Natural z = (n : ℕ) × (z ≡ pos n)

module _ (s v : List ℕ) where
  abbrev AtomNatural : Atom → Type 0
  AtomNatural a = Ordered a → Natural (atom_value s v a)

  abbrev FormNatural : Items → Type 0
  FormNatural i = is_ordered i ≡ true → (k : ℕ) → all_remainders k i.terms ≡ true → is_remainder k i.constant ≡ true → Natural (items_value s v i)

  div_natural : (i : Items) (k : ℕ) → FormNatural i → AtomNatural (Div i k)
  div_natural i k h o =
      let parts = ordered-Div i k o in
      let a = and_parts (nat_le 2 k) _ parts.0 in
      let b = and_parts (nat_le k 2147483647) _ a.1 in
      let c = and_parts (has_items i.terms) _ b.1 in
      let d = and_parts (all_remainders k i.terms) (is_remainder k i.constant) c.1 in
      let u = h parts.1 k d.0 d.1 in
      (u.0 / k, value-Div s v i k ∙ ap (λ z. int_div_euclid z (pos k)) u.1)

  factors_natural : (fs : List Atom) → Each AtomNatural fs → Each Ordered fs → Natural (factors_value s v fs)
  factors_natural [] h o = (1, refl)
  factors_natural (f ∷ fs) h o = let a = h.0 o.0 in let b = factors_natural fs h.1 o.1 in (a.0 * b.0, λ i. a.1 i *ℤ b.1 i)

  mul_natural : (fs : List Atom) → Each AtomNatural fs → AtomNatural (Mul fs)
  mul_natural fs h o = let a = factors_natural fs h (mul_parts fs o).good.ordered in (a.0, value-Mul s v fs ∙ a.1)

  item_natural : (k : ℕ) (c x : ℤ) → is_remainder k c ≡ true → Natural x → Natural (c *ℤ x)
  item_natural k (pos n) x r u = (n * u.0, ap (λ z. pos n *ℤ z) u.1)
  item_natural k (negsuc n) x r u = absurd (cc)

  constant_natural : (k : ℕ) (c : ℤ) → is_remainder k c ≡ true → Natural c
  constant_natural k (pos n) r = (n, refl)
  constant_natural k (negsuc n) r = absurd (cc)

  terms_natural : (k : ℕ) (ts : List (Item Atom)) → EachTerm AtomNatural ts → EachItem GoodItem ts → all_remainders k ts ≡ true → Natural (terms_value s v ts)
  terms_natural k [] h o r = (0, refl)
  terms_natural k (t ∷ ts) h o r =
      let rs = and_parts (is_remainder k t.coefficient) (all_remainders k ts) r in
      let a = item_natural k t.coefficient (atom_value s v t.atom) rs.0 (h.0 o.0.0) in
      let b = terms_natural k ts h.1 o.1 rs.1 in
      (a.0 + b.0, λ i. a.1 i +ℤ b.1 i)

  form_natural : (ts : List (Item Atom)) (c : ℤ) → EachTerm AtomNatural ts → FormNatural (record { terms = ts; constant = c })
  form_natural ts c h o k rs r =
      let i : Items = record { terms = ts; constant = c } in
      let a = terms_natural k ts h (ordered-terms i o).1 rs in
      let b = constant_natural k c r in
      (a.0 + b.0, items_value-is s v i ∙ (λ j. a.1 j +ℤ b.1 j))

  pub atom_natural : (a : Atom) → AtomNatural a
  atom_natural = for_atoms AtomNatural FormNatural (λ k o. (slice_index s k, value-Size s v k)) (λ k o. (slice_index v k, value-Var s v k)) div_natural
      mul_natural form_natural
