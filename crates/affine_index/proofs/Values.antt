-- The values of multiples, products and quotients of forms.
use Rattle.std.proofs.Common.{◌≡◌, ℕ, ◌<◌, List, [], ◌∷◌, map, refl, ap, sym, ◌∙◌, Bool, true, false, arith}
use Rattle.std.specs.Prelude.{ℤ, pos, negsuc, ◌+ℤ◌, ◌*ℤ◌, slice_index}
use Rattle.std.specs.Int.{int_div_euclid, int_rem_euclid}
use Rattle.std.specs.Ordering.{int_eq}
use Rattle.std.specs.declared.cmp.Ordering.{Ordering}
use Rattle.std.specs.declared.cmp.Ordering.TheVariants.{Less, Equal, Greater}
use Rattle.std.proofs.lemmas.Int.{ints}
use Rattle.std.proofs.Math.IntN.{zero-*ℤ, *ℤ-zero, *ℤ_comm}
use Rattle.affine_index.specs.Form.{literal_form, of_atom}
use Rattle.affine_index.specs.Order.{atom_order}
use Rattle.affine_index.specs.Product.{atom_product, atom_products, atom_times, factor_onto, factor_onto_by, factors_of, merged_factors, product_of}
use Rattle.affine_index.specs.Product.{product_of_all, term_products}
use Rattle.affine_index.specs.Quotient.{item_of, quotient_atom, quotient_of, rest_part, rest_terms, whole_part, whole_terms}
use Rattle.affine_index.specs.Sum.{add_up, difference_of, item_if, scaled, scaled_if, scaled_terms, sum_of}
use Rattle.affine_index.specs.Value.{product, atom_step, items_step, atom_value, items_value, terms_value}
use Rattle.affine_index.proofs.Division.{quotient-more, quotient-rest, rest-none, times-plus}
use Rattle.affine_index.proofs.Factors.{factors-Size, factors-Var, factors-Div, factors-Mul}
use Rattle.affine_index.proofs.Ring.{*ℤ_distrib, *ℤ_assoc}
use Rattle.affine_index.proofs.SumValue.{items_value-is, sum_of-value, int_eq-zero}
use Rattle.affine_index.proofs.TotalOrder.{by_kind}
use Rattle.affine_index.specs.declared.form.Atom.{Atom}
use Rattle.affine_index.specs.declared.form.Atom.TheVariants.{Size, Var, Div, Mul, rolls-Size, rolls-Var, rolls-Mul, rolls-Div}
use Rattle.affine_index.specs.declared.form.Item.{Item}
use Rattle.affine_index.specs.declared.form.Items.{Items}
use Rattle.affine_index.specs.declared.form.Atom.TheOpen.{Atom-F}
use Rattle.affine_index.specs.declared.form.Atom.TheFolds.{fold-roll-Atom}

one-times : (a : ℤ) → pos 1 *ℤ a ≡ a
one-times a = grind (arith, ints)

times-one : (a : ℤ) → a *ℤ pos 1 ≡ a
times-one a = omega (arith, ints)

swap : (a b c : ℤ) → a *ℤ (b *ℤ c) ≡ b *ℤ (a *ℤ c)
swap a b c = sym (*ℤ_assoc a b c) ∙ ap (λ x. x *ℤ c) (*ℤ_comm a b) ∙ *ℤ_assoc b a c

module _ (s w : List ℕ) where
  pub value-Size : (k : ℕ) → atom_value s w (Size k) ≡ pos (slice_index s k)
  value-Size k = ap (atom_value s w) (sym (rolls-Size k)) ∙ fold-roll-Atom ℤ ℤ (atom_step s w) (items_step s w) (Atom-F.Size k)

  pub value-Var : (k : ℕ) → atom_value s w (Var k) ≡ pos (slice_index w k)
  value-Var k = ap (atom_value s w) (sym (rolls-Var k)) ∙ fold-roll-Atom ℤ ℤ (atom_step s w) (items_step s w) (Atom-F.Var k)

  pub value-Div : (i : Items) (k : ℕ) → atom_value s w (Div i k) ≡ int_div_euclid (items_value s w i) (pos k)
  value-Div i k = ap (atom_value s w) (sym (rolls-Div i k)) ∙ fold-roll-Atom ℤ ℤ (atom_step s w) (items_step s w) (Atom-F.Div i k)

  -- the product of the values of factors
  abbrev pub factors_value : List Atom → ℤ
  factors_value [] = pos 1
  factors_value (f ∷ fs) = atom_value s w f *ℤ factors_value fs

  product_map : (fs : List Atom) → product (map (atom_value s w) fs) ≡ factors_value fs
  product_map [] = refl
  product_map (f ∷ fs) = ap (λ x. atom_value s w f *ℤ x) (product_map fs)

  pub value-Mul : (fs : List Atom) → atom_value s w (Mul fs) ≡ factors_value fs
  value-Mul fs = ap (atom_value s w) (sym (rolls-Mul fs)) ∙ fold-roll-Atom ℤ ℤ (atom_step s w) (items_step s w) (Atom-F.Mul fs) ∙ product_map fs

  pub value-literal : (z : ℤ) → items_value s w (literal_form z) ≡ z
  value-literal z = omega (arith, ints, items_value-is s w (literal_form z))

  pub value-of_atom : (a : Atom) → items_value s w (of_atom a) ≡ atom_value s w a
  value-of_atom a = omega (arith, ints, items_value-is s w (of_atom a), one-times (atom_value s w a))

  value-scaled_terms : (c : ℤ) (ts : List (Item Atom)) → terms_value s w (scaled_terms c ts) ≡ c *ℤ terms_value s w ts
  value-scaled_terms c [] = sym (*ℤ-zero c)
  value-scaled_terms c (t ∷ ts) =
      (λ i. *ℤ_assoc c t.coefficient (atom_value s w t.atom) i +ℤ value-scaled_terms c ts i)
      ∙ sym (times-plus c (t.coefficient *ℤ atom_value s w t.atom) (terms_value s w ts))

  value-scaled_if : (z : Bool) (c : ℤ) (i : Items) → (z ≡ true → c ≡ pos 0) → items_value s w (scaled_if z c i) ≡ c *ℤ items_value s w i
  value-scaled_if true c i h = items_value-is s w (literal_form (pos 0)) ∙ sym (ap (λ x. x *ℤ items_value s w i) (h refl) ∙ zero-*ℤ (items_value s w i))
  value-scaled_if false c i h =
      items_value-is s w (scaled_if false c i)
      ∙ ap (λ x. x +ℤ (c *ℤ i.constant)) (value-scaled_terms c i.terms)
      ∙ sym (times-plus c (terms_value s w i.terms) i.constant)
      ∙ ap (λ x. c *ℤ x) (sym (items_value-is s w i))

  pub value-scaled : (c : ℤ) (i : Items) → items_value s w (scaled c i) ≡ c *ℤ items_value s w i
  value-scaled c i = value-scaled_if (int_eq c (pos 0)) c i (int_eq-zero c)

  -- the difference with the second value added again is the first
  pub value-difference : (a b : Items) → items_value s w (difference_of a b) +ℤ items_value s w b ≡ items_value s w a
  value-difference a b = omega (
    arith,
    ints,
    sum_of-value s w a (scaled (negsuc 0) b),
    value-scaled (negsuc 0) b,
    *ℤ_distrib (negsuc 0) (pos 1) (items_value s w b),
    one-times (items_value s w b),
    zero-*ℤ (items_value s w b),
  )

  -- the values of forms, each with its coefficient
  abbrev pub each_value : List (Item Items) → ℤ
  each_value [] = pos 0
  each_value (t ∷ ts) = (t.coefficient *ℤ items_value s w t.atom) +ℤ each_value ts

  pub value-add_up : (ts : List (Item Items)) (start : Items) → items_value s w (add_up ts start) ≡ items_value s w start +ℤ each_value ts
  value-add_up [] start = omega (arith, ints)
  value-add_up (t ∷ ts) start =
      omega (
        arith,
        ints,
        value-add_up ts (sum_of start (scaled t.coefficient t.atom)),
        sum_of-value s w start (scaled t.coefficient t.atom),
        value-scaled t.coefficient t.atom,
      )

  value-onto : (a : Atom) (as' bs : List Atom) → ((cs : List Atom) → factors_value (merged_factors as' cs) ≡ factors_value as' *ℤ factors_value cs)
      → factors_value (factor_onto a (merged_factors as') bs) ≡ (atom_value s w a *ℤ factors_value as') *ℤ factors_value bs
  value-onto a as' [] h = ap (λ x. atom_value s w a *ℤ x) (h []) ∙ sym (*ℤ_assoc (atom_value s w a) (factors_value as') (pos 1))
  value-onto a as' (b ∷ bs) h = by_order (atom_order a b) (value-onto a as' bs h)
    where
      front : atom_value s w a *ℤ factors_value (merged_factors as' (b ∷ bs)) ≡ (atom_value s w a *ℤ factors_value as') *ℤ factors_value (b ∷ bs)
      front = ap (λ x. atom_value s w a *ℤ x) (h (b ∷ bs)) ∙ sym (*ℤ_assoc (atom_value s w a) (factors_value as') (factors_value (b ∷ bs)))

      by_order : (o : Ordering) → factors_value (factor_onto a (merged_factors as') bs) ≡ (atom_value s w a *ℤ factors_value as') *ℤ factors_value bs
          → factors_value (factor_onto_by o a (merged_factors as') b bs (factor_onto a (merged_factors as') bs)) ≡ (atom_value s w a *ℤ factors_value as') *ℤ
          factors_value (b ∷ bs)
      by_order Less later = front
      by_order Equal later = front
      by_order Greater later = ap (λ x. atom_value s w b *ℤ x) later ∙ swap (atom_value s w b) (atom_value s w a *ℤ factors_value as') (factors_value bs)

  value-merged : (as' bs : List Atom) → factors_value (merged_factors as' bs) ≡ factors_value as' *ℤ factors_value bs
  value-merged [] bs = sym (one-times (factors_value bs))
  value-merged (a ∷ as') bs = value-onto a as' bs (value-merged as')

  value-factors : (a : Atom) → factors_value (factors_of a) ≡ atom_value s w a
  value-factors = by_kind (λ a. factors_value (factors_of a) ≡ atom_value s w a)
      (λ n. ap factors_value (factors-Size n) ∙ times-one (atom_value s w (Size n)))
      (λ n. ap factors_value (factors-Var n) ∙ times-one (atom_value s w (Var n)))
      (λ i k. ap factors_value (factors-Div i k) ∙ times-one (atom_value s w (Div i k)))
      (λ fs. ap factors_value (factors-Mul fs) ∙ sym (value-Mul fs))

  value-atom_product : (a b : Atom) → atom_value s w (atom_product a b) ≡ atom_value s w a *ℤ atom_value s w b
  value-atom_product a b =
      value-Mul (merged_factors (factors_of a) (factors_of b)) ∙ value-merged (factors_of a) (factors_of b)
      ∙ (λ k. value-factors a k *ℤ value-factors b k)

  value-atom_products : (a : Atom) (ts : List (Item Atom)) → each_value (atom_products a ts) ≡ atom_value s w a *ℤ terms_value s w ts
  value-atom_products a [] = sym (*ℤ-zero (atom_value s w a))
  value-atom_products a (t ∷ ts) =
      (λ k. (t.coefficient *ℤ (value-of_atom (atom_product a t.atom) ∙ value-atom_product a t.atom) k) +ℤ value-atom_products a ts k)
      ∙ (λ k. swap t.coefficient (atom_value s w a) (atom_value s w t.atom) k +ℤ (atom_value s w a *ℤ terms_value s w ts))
      ∙ sym (times-plus (atom_value s w a) (t.coefficient *ℤ atom_value s w t.atom) (terms_value s w ts))

  value-atom_times : (a : Atom) (b : Items) → items_value s w (atom_times a b) ≡ atom_value s w a *ℤ items_value s w b
  value-atom_times a b =
      value-add_up (atom_products a b.terms) (scaled b.constant (of_atom a))
      ∙ (λ k. (value-scaled b.constant (of_atom a) ∙ ap (λ x. b.constant *ℤ x) (value-of_atom a) ∙ *ℤ_comm b.constant (atom_value s w a)) k
      +ℤ value-atom_products a b.terms k)
      ∙ sym (times-plus (atom_value s w a) b.constant (terms_value s w b.terms))
      ∙ ap (λ x. atom_value s w a *ℤ x) (turn b.constant (terms_value s w b.terms) ∙ sym (items_value-is s w b))
    where
      turn : (x y : ℤ) → x +ℤ y ≡ y +ℤ x
      turn x y = omega (arith, ints)

  value-term_products : (ts : List (Item Atom)) (b : Items) → each_value (term_products ts b) ≡ terms_value s w ts *ℤ items_value s w b
  value-term_products [] b = sym (zero-*ℤ (items_value s w b))
  value-term_products (t ∷ ts) b =
      (λ k. (ap (λ x. t.coefficient *ℤ x) (value-atom_times t.atom b) ∙ sym (*ℤ_assoc t.coefficient (atom_value s w t.atom) (items_value s w b))) k
      +ℤ value-term_products ts b k)
      ∙ sym (*ℤ_distrib (t.coefficient *ℤ atom_value s w t.atom) (terms_value s w ts) (items_value s w b))

  pub value-product : (a b : Items) → items_value s w (product_of a b) ≡ items_value s w a *ℤ items_value s w b
  value-product a b =
      value-add_up (term_products a.terms b) (scaled a.constant b)
      ∙ (λ k. value-scaled a.constant b k +ℤ value-term_products a.terms b k)
      ∙ sym (*ℤ_distrib a.constant (terms_value s w a.terms) (items_value s w b))
      ∙ ap (λ x. x *ℤ items_value s w b) (turn a.constant (terms_value s w a.terms) ∙ sym (items_value-is s w a))
    where
      turn : (x y : ℤ) → x +ℤ y ≡ y +ℤ x
      turn x y = omega (arith, ints)

  value-item_if : (z : Bool) (t : Item Atom) (rest : List (Item Atom)) → (z ≡ true → t.coefficient ≡ pos 0)
      → terms_value s w (item_if z t rest) ≡ (t.coefficient *ℤ atom_value s w t.atom) +ℤ terms_value s w rest
  value-item_if true t rest h = omega (arith, ints, ap (λ c. c *ℤ atom_value s w t.atom) (h refl), zero-*ℤ (atom_value s w t.atom))
  value-item_if false t rest h = refl

  value-item_of : (a : Atom) (c : ℤ) (rest : List (Item Atom)) → terms_value s w (item_of a c rest) ≡ (c *ℤ atom_value s w a) +ℤ terms_value s w rest
  value-item_of a c rest = value-item_if (int_eq c (pos 0)) (record { atom = a; coefficient = c }) rest (int_eq-zero c)

  value-terms_parts : (k : ℕ) (ts : List (Item Atom)) → 0 < k
      → (pos k *ℤ terms_value s w (whole_terms k ts)) +ℤ terms_value s w (rest_terms k ts) ≡ terms_value s w ts
  value-terms_parts k [] h = omega (arith, ints, *ℤ-zero (pos k))
  value-terms_parts k (t ∷ ts) h =
      let q = int_div_euclid t.coefficient (pos k) in
      let r = int_rem_euclid t.coefficient (pos k) in
      let x = atom_value s w t.atom in
      let a = terms_value s w (whole_terms k ts) in
      (λ j. (pos k *ℤ value-item_of t.atom q (whole_terms k ts) j) +ℤ value-item_of t.atom r (rest_terms k ts) j)
      ∙ omega (
        arith,
        ints,
        times-plus (pos k) (q *ℤ x) a,
        *ℤ_assoc (pos k) q x,
        value-terms_parts k ts h,
        *ℤ_distrib (pos k *ℤ q) r x,
        ap (λ c. c *ℤ x) (quotient-rest k t.coefficient h),
      )

  value-parts : (k : ℕ) (i : Items) → 0 < k → (pos k *ℤ items_value s w (whole_part i k)) +ℤ items_value s w (rest_part i k) ≡ items_value s w i
  value-parts k i h =
      let q = int_div_euclid i.constant (pos k) in
      let a = terms_value s w (whole_terms k i.terms) in
      omega (
        arith,
        ints,
        ap (λ x. pos k *ℤ x) (items_value-is s w (whole_part i k)),
        items_value-is s w (rest_part i k),
        items_value-is s w i,
        times-plus (pos k) a q,
        value-terms_parts k i.terms h,
        quotient-rest k i.constant h,
      )

  value-quotient_atom : (ts : List (Item Atom)) (c : ℤ) (k : ℕ) → (ts ≡ [] → int_div_euclid c (pos k) ≡ pos 0)
      → items_value s w (quotient_atom ts c k) ≡ int_div_euclid (items_value s w (record { terms = ts; constant = c })) (pos k)
  value-quotient_atom [] c k h = value-literal (pos 0) ∙ sym (h refl) ∙ ap (λ x. int_div_euclid x (pos k)) (sym (value-literal c))
  value-quotient_atom (t ∷ ts) c k h = value-of_atom (Div (record { terms = t ∷ ts; constant = c }) k) ∙ value-Div (record { terms = t ∷ ts; constant = c }) k

  pub value-quotient : (i : Items) (k : ℕ) → 0 < k → items_value s w (quotient_of i k) ≡ int_div_euclid (items_value s w i) (pos k)
  value-quotient i k h =
      let b = items_value s w (whole_part i k) in
      let r = items_value s w (rest_part i k) in
      sum_of-value s w (whole_part i k) (quotient_atom (rest_part i k).terms (rest_part i k).constant k)
      ∙ ap (λ x. b +ℤ x) (value-quotient_atom (rest_part i k).terms (rest_part i k).constant k (λ e. rest-none k i.constant h))
      ∙ sym (quotient-more k b r h) ∙ ap (λ x. int_div_euclid x (pos k)) (value-parts k i h)

  abbrev pub each_product : List Items → ℤ
  each_product [] = pos 1
  each_product (i ∷ is) = items_value s w i *ℤ each_product is

  pub value-product_of_all : (is : List Items) → items_value s w (product_of_all is) ≡ each_product is
  value-product_of_all [] = value-literal (pos 1)
  value-product_of_all (i ∷ is) = value-product i (product_of_all is) ∙ ap (λ x. items_value s w i *ℤ x) (value-product_of_all is)
