-- A form of a sum whose coefficients all cancel has no atoms: coefficients are weighed atom by atom.
use Rattle.std.proofs.Common.{◌≡◌, List, [], ◌∷◌, refl, ap, sym, ◌∙◌, Bool, true, false, arith}
use Rattle.std.specs.Prelude.{ℤ, pos, ◌+ℤ◌, ◌*ℤ◌, if◌then◌else◌}
use Rattle.std.specs.Ordering.{int_eq, is_eq}
use Rattle.std.specs.declared.cmp.Ordering.{Ordering}
use Rattle.std.specs.declared.cmp.Ordering.TheVariants.{Less, Equal, Greater}
use Rattle.std.proofs.lemmas.Int.{ints}
use Rattle.std.proofs.Math.IntN.{*ℤ-zero, zero-*ℤ}
use Rattle.affine_index.specs.Normal.{is_ordered}
use Rattle.affine_index.specs.Order.{atom_order}
use Rattle.affine_index.specs.Sum.{combined, item_if, merged, onto, onto_by, scaled, scaled_if, scaled_terms, sum_of}
use Rattle.affine_index.proofs.EqualLaws.{atom_order-Equal}
use Rattle.affine_index.proofs.Ring.{*ℤ_assoc, *ℤ_distrib}
use Rattle.affine_index.proofs.Division.{times-plus}
use Rattle.affine_index.proofs.Sorted.{Before, EachItem, GoodItem, Sorted, ordered-terms}
use Rattle.affine_index.proofs.SumValue.{int_eq-zero}
use Rattle.affine_index.specs.declared.form.Atom.{Atom}
use Rattle.affine_index.specs.declared.form.Item.{Item}
use Rattle.affine_index.specs.declared.form.Items.{Items}
use Rattle.fact_list.proofs.AtomLaws.{same-self}
use Rattle.fact_list.specs.Atoms.{same_atoms}

module _ (w : Atom → ℤ) where
  -- the coefficients of items, each times the weight of its atom
  abbrev pub weight : List (Item Atom) → ℤ
  weight [] = pos 0
  weight (t ∷ ts) = (t.coefficient *ℤ w t.atom) +ℤ weight ts

  item_if-weight : (z : Bool) (t : Item Atom) (rest : List (Item Atom)) → (z ≡ true → t.coefficient ≡ pos 0)
      → weight (item_if z t rest) ≡ (t.coefficient *ℤ w t.atom) +ℤ weight rest
  item_if-weight true t rest h = omega (arith, ints, ap (λ c. c *ℤ w t.atom) (h refl), zero-*ℤ (w t.atom))
  item_if-weight false t rest h = refl

  combined-weight : (a b : Item Atom) (rest : List (Item Atom)) → a.atom ≡ b.atom
      → weight (combined a b rest) ≡ ((a.coefficient *ℤ w a.atom) +ℤ (b.coefficient *ℤ w b.atom)) +ℤ weight rest
  combined-weight a b rest same =
      item_if-weight _ _ rest (int_eq-zero (a.coefficient +ℤ b.coefficient))
      ∙ ap (λ z. z +ℤ weight rest) (*ℤ_distrib a.coefficient b.coefficient (w a.atom) ∙ ap (λ at. (a.coefficient *ℤ w a.atom) +ℤ (b.coefficient *ℤ w at)) same)

  onto-weight : (a : Item Atom) (as' bs : List (Item Atom)) → ((cs : List (Item Atom)) → weight (merged as' cs) ≡ weight as' +ℤ weight cs)
      → weight (onto a (merged as') bs) ≡ ((a.coefficient *ℤ w a.atom) +ℤ weight as') +ℤ weight bs
  onto-weight a as' [] h = omega (arith, ints, h [])
  onto-weight a as' (b ∷ bs) h = by_order (atom_order a.atom b.atom) refl (onto-weight a as' bs h)
    where
      by_order : (o : Ordering) → atom_order a.atom b.atom ≡ o → weight (onto a (merged as') bs) ≡ ((a.coefficient *ℤ w a.atom) +ℤ weight as') +ℤ weight bs
          → weight (onto_by o a (merged as') b bs (onto a (merged as') bs)) ≡ ((a.coefficient *ℤ w a.atom) +ℤ weight as')
          +ℤ ((b.coefficient *ℤ w b.atom) +ℤ weight bs)
      by_order Less e later = omega (arith, ints, h (b ∷ bs))
      by_order Greater e later = omega (arith, ints, later)
      by_order Equal e later = omega (arith, ints, h bs, combined-weight a b (merged as' bs) (atom_order-Equal a.atom b.atom e))

  merged-weight : (as' bs : List (Item Atom)) → weight (merged as' bs) ≡ weight as' +ℤ weight bs
  merged-weight [] bs = omega (arith, ints)
  merged-weight (a ∷ as') bs = onto-weight a as' bs (merged-weight as')

  scaled-weight : (c : ℤ) (ts : List (Item Atom)) → weight (scaled_terms c ts) ≡ c *ℤ weight ts
  scaled-weight c [] = sym (*ℤ-zero c)
  scaled-weight c (t ∷ ts) = (λ i. *ℤ_assoc c t.coefficient (w t.atom) i +ℤ scaled-weight c ts i) ∙ sym (times-plus c (t.coefficient *ℤ w t.atom) (weight ts))

  pub weight-sum : (a b : Items) → weight (sum_of a b).terms ≡ weight a.terms +ℤ weight b.terms
  weight-sum a b = merged-weight a.terms b.terms

  pub weight-scaled : (c : ℤ) (a : Items) → weight (scaled c a).terms ≡ c *ℤ weight a.terms
  weight-scaled c a = by (int_eq c (pos 0)) (int_eq-zero c)
    where
      by : (z : Bool) → (z ≡ true → c ≡ pos 0) → weight (scaled_if z c a).terms ≡ c *ℤ weight a.terms
      by true h = sym (ap (λ x. x *ℤ weight a.terms) (h refl) ∙ zero-*ℤ (weight a.terms))
      by false h = scaled-weight c a.terms

pub constant-scaled : (c : ℤ) (a : Items) → (scaled c a).constant ≡ c *ℤ a.constant
constant-scaled c a = by (int_eq c (pos 0)) (int_eq-zero c)
  where
    by : (z : Bool) → (z ≡ true → c ≡ pos 0) → (scaled_if z c a).constant ≡ c *ℤ a.constant
    by true h = sym (ap (λ x. x *ℤ a.constant) (h refl) ∙ zero-*ℤ a.constant)
    by false h = refl

-- 1 for one atom, and 0 for all others
abbrev pub mark : Atom → Atom → ℤ
mark a b = if same_atoms a b then pos 1 else pos 0

later-none : (a : Atom) (ts : List (Item Atom)) → EachItem (Before a) ts → weight (mark a) ts ≡ pos 0
later-none a [] h = refl
later-none a (t ∷ ts) h = omega (arith, ints, ap (λ o. t.coefficient *ℤ (if is_eq o then pos 1 else pos 0)) h.0, *ℤ-zero t.coefficient, later-none a ts h.1)

one-times : (c : ℤ) → c *ℤ pos 1 ≡ c
one-times c = omega (arith, ints)

first-weight : (t : Item Atom) (ts : List (Item Atom)) → EachItem (Before t.atom) ts → weight (mark t.atom) (t ∷ ts) ≡ t.coefficient
first-weight t ts h =
    omega (arith, ints, ap (λ b. t.coefficient *ℤ (if b then pos 1 else pos 0)) (same-self t.atom), one-times t.coefficient, later-none t.atom ts h)

-- a normal form in which each atom has the weight 0 has none
pub no-weight : (i : Items) → is_ordered i ≡ true → ((a : Atom) → weight (mark a) i.terms ≡ pos 0) → i.terms ≡ []
no-weight i o h = by i.terms (ordered-terms i o).0 (ordered-terms i o).1 h
  where
    by : (ts : List (Item Atom)) → Sorted ts → EachItem GoodItem ts → ((a : Atom) → weight (mark a) ts ≡ pos 0) → ts ≡ []
    by [] s g h = refl
    by (t ∷ ts) s g h =
        let none : t.coefficient ≡ pos 0 = sym (first-weight t ts s.0) ∙ h t.atom in
        let yes : int_eq t.coefficient (pos 0) ≡ true = ap (λ c. int_eq c (pos 0)) none in
        absurd (cc)
