-- Forms by the coefficients of their atoms: normal forms of equal coefficients are equal, and sums that are such.
use Rattle.std.proofs.Common.{◌≡◌, inr, ℕ, ◌-◌, ◌<◌, List, [], ◌∷◌, refl, ap, sym, ◌∙◌, arith, Bool, true, false}
use Rattle.std.specs.Prelude.{ℤ, pos, negsuc, ◌+ℤ◌, ◌*ℤ◌}
use Rattle.std.specs.Int.{int_div_euclid, int_rem_euclid}
use Rattle.std.specs.Ordering.{int_eq, ordering_reverse}
use Rattle.std.specs.declared.cmp.Ordering.{Ordering}
use Rattle.std.specs.declared.cmp.Ordering.TheVariants.{Less, Equal, Greater}
use Rattle.std.proofs.lemmas.Int.{ints}
use Rattle.std.proofs.Math.IntN.{zero-*ℤ, *ℤ-zero, *ℤ_comm}
use Rattle.affine_index.specs.Form.{literal_form, of_atom}
use Rattle.affine_index.specs.Normal.{is_ordered}
use Rattle.affine_index.specs.Order.{atom_order}
use Rattle.affine_index.specs.Product.{product_of, term_products}
use Rattle.affine_index.specs.Quotient.{item_of, quotient_atom, quotient_of, rest_terms, whole_terms}
use Rattle.affine_index.specs.Sum.{add_up, combined, difference_of, item_if, merged, onto, onto_by, scaled, scaled_if, scaled_terms, sum_of}
use Rattle.affine_index.specs.declared.form.Atom.{Atom}
use Rattle.affine_index.specs.declared.form.Item.{Item}
use Rattle.affine_index.specs.declared.form.Items.{Items}
use Rattle.affine_index.proofs.Division.{quotient-rest, remainder, times-plus, unique}
use Rattle.affine_index.proofs.EqualLaws.{atom_order-Equal}
use Rattle.affine_index.proofs.MultipleLaws.{scaled-other}
use Rattle.affine_index.proofs.OrderedLaws.{difference-ordered, literal-ordered, scaled-ordered}
use Rattle.affine_index.proofs.ProductOrdered.{products-ordered}
use Rattle.affine_index.proofs.Sorted.{Before, EachItem, GoodItem, Sorted, all_after, ordered-terms, sum-ordered}
use Rattle.affine_index.proofs.SumValue.{int_eq-zero}
use Rattle.affine_index.proofs.TotalOrder.{order-reverse, order-same}
use Rattle.term_tree.specs.Shape.{tiles}

-- a number where two atoms are equal, and else 0
abbrev where_equal : Ordering → ℤ → ℤ
where_equal Less c = pos 0
where_equal Equal c = c
where_equal Greater c = pos 0

-- the coefficient of an atom
abbrev coefficient : List (Item Atom) → Atom → ℤ
coefficient [] x = pos 0
coefficient (t ∷ ts) x = where_equal (atom_order t.atom x) t.coefficient +ℤ coefficient ts x

where_plus : (o : Ordering) (a b : ℤ) → where_equal o (a +ℤ b) ≡ where_equal o a +ℤ where_equal o b
where_plus Less a b = omega (arith, ints)
where_plus Equal a b = refl
where_plus Greater a b = omega (arith, ints)

where_zero : (o : Ordering) → where_equal o (pos 0) ≡ pos 0
where_zero Less = refl
where_zero Equal = refl
where_zero Greater = refl

where_times : (o : Ordering) (c a : ℤ) → where_equal o (c *ℤ a) ≡ c *ℤ where_equal o a
where_times Less c a = sym (*ℤ-zero c)
where_times Equal c a = refl
where_times Greater c a = sym (*ℤ-zero c)

module _ (x : Atom) where
  item_if-at : (z : Bool) (t : Item Atom) (rest : List (Item Atom)) → (z ≡ true → t.coefficient ≡ pos 0)
      → coefficient (item_if z t rest) x ≡ where_equal (atom_order t.atom x) t.coefficient +ℤ coefficient rest x
  item_if-at true t rest h = omega (arith, ints, ap (where_equal (atom_order t.atom x)) (h refl), where_zero (atom_order t.atom x))
  item_if-at false t rest h = refl

  combined-at : (a b : Item Atom) (rest : List (Item Atom)) → a.atom ≡ b.atom
      → coefficient (combined a b rest) x
      ≡ (where_equal (atom_order a.atom x) a.coefficient +ℤ where_equal (atom_order b.atom x) b.coefficient) +ℤ coefficient rest x
  combined-at a b rest same =
      item_if-at _ _ rest (int_eq-zero (a.coefficient +ℤ b.coefficient))
      ∙ ap (λ z. z +ℤ coefficient rest x) (where_plus (atom_order a.atom x) a.coefficient b.coefficient
      ∙ ap (λ y. where_equal (atom_order a.atom x) a.coefficient +ℤ where_equal (atom_order y x) b.coefficient) same)

  onto-at : (a : Item Atom) (as' bs : List (Item Atom)) → ((cs : List (Item Atom)) → coefficient (merged as' cs) x ≡ coefficient as' x +ℤ coefficient cs x)
      → coefficient (onto a (merged as') bs) x ≡ (where_equal (atom_order a.atom x) a.coefficient +ℤ coefficient as' x) +ℤ coefficient bs x
  onto-at a as' [] h = omega (arith, ints, h [])
  onto-at a as' (b ∷ bs) h = by_order (atom_order a.atom b.atom) refl (onto-at a as' bs h)
    where
      by_order : (o : Ordering) → atom_order a.atom b.atom ≡ o
          → coefficient (onto a (merged as') bs) x ≡ (where_equal (atom_order a.atom x) a.coefficient +ℤ coefficient as' x) +ℤ coefficient bs x
          → coefficient (onto_by o a (merged as') b bs (onto a (merged as') bs)) x
          ≡ (where_equal (atom_order a.atom x) a.coefficient +ℤ coefficient as' x)
          +ℤ (where_equal (atom_order b.atom x) b.coefficient +ℤ coefficient bs x)
      by_order Less e later = omega (arith, ints, h (b ∷ bs))
      by_order Greater e later = omega (arith, ints, later)
      by_order Equal e later = omega (arith, ints, h bs, combined-at a b (merged as' bs) (atom_order-Equal a.atom b.atom e))

  merged-at : (as' bs : List (Item Atom)) → coefficient (merged as' bs) x ≡ coefficient as' x +ℤ coefficient bs x
  merged-at [] bs = omega (arith, ints)
  merged-at (a ∷ as') bs = onto-at a as' bs (merged-at as')

  terms-at : (c : ℤ) (ts : List (Item Atom)) → coefficient (scaled_terms c ts) x ≡ c *ℤ coefficient ts x
  terms-at c [] = sym (*ℤ-zero c)
  terms-at c (t ∷ ts) =
      (λ i. where_times (atom_order t.atom x) c t.coefficient i +ℤ terms-at c ts i)
      ∙ sym (times-plus c (where_equal (atom_order t.atom x) t.coefficient) (coefficient ts x))

  scaled_if-at : (z : Bool) (c : ℤ) (a : Items) → (z ≡ true → c ≡ pos 0) → coefficient (scaled_if z c a).terms x ≡ c *ℤ coefficient a.terms x
  scaled_if-at true c a h = sym (ap (λ y. y *ℤ coefficient a.terms x) (h refl) ∙ zero-*ℤ (coefficient a.terms x))
  scaled_if-at false c a h = terms-at c a.terms

  scaled-at : (c : ℤ) (a : Items) → coefficient (scaled c a).terms x ≡ c *ℤ coefficient a.terms x
  scaled-at c a = scaled_if-at (int_eq c (pos 0)) c a (int_eq-zero c)

  -- the coefficients of forms, each times its number
  abbrev each_at : List (Item Items) → ℤ
  each_at [] = pos 0
  each_at (t ∷ ts) = (t.coefficient *ℤ coefficient t.atom.terms x) +ℤ each_at ts

  add_up-at : (ts : List (Item Items)) (start : Items) → coefficient (add_up ts start).terms x ≡ coefficient start.terms x +ℤ each_at ts
  add_up-at [] start = omega (arith, ints)
  add_up-at (t ∷ ts) start = omega (
    arith,
    ints,
    add_up-at ts (sum_of start (scaled t.coefficient t.atom)),
    merged-at start.terms (scaled t.coefficient t.atom).terms,
    scaled-at t.coefficient t.atom,
  )

  unit : (o : Ordering) (c z : ℤ) → c *ℤ (z *ℤ (where_equal o (pos 1) +ℤ pos 0)) ≡ z *ℤ where_equal o c
  unit Less c z = ap (λ y. c *ℤ y) (*ℤ-zero z) ∙ *ℤ-zero c ∙ sym (*ℤ-zero z)
  unit Equal c z = ap (λ y. c *ℤ y) (times-one z) ∙ *ℤ_comm c z
    where
      times-one : (z : ℤ) → z *ℤ pos 1 ≡ z
      times-one z = omega (arith, ints)
  unit Greater c z = ap (λ y. c *ℤ y) (*ℤ-zero z) ∙ *ℤ-zero c ∙ sym (*ℤ-zero z)

  products-at : (z : ℤ) (ts : List (Item Atom)) → each_at (term_products ts (literal_form z)) ≡ z *ℤ coefficient ts x
  products-at z [] = sym (*ℤ-zero z)
  products-at z (t ∷ ts) =
      (λ i. (ap (λ y. t.coefficient *ℤ y) (scaled-at z (of_atom t.atom)) ∙ unit (atom_order t.atom x) t.coefficient z) i +ℤ products-at z ts i)
      ∙ sym (times-plus z (where_equal (atom_order t.atom x) t.coefficient) (coefficient ts x))

-- constants
scaled_if-constant : (z : Bool) (c : ℤ) (a : Items) → (z ≡ true → c ≡ pos 0) → (scaled_if z c a).constant ≡ c *ℤ a.constant
scaled_if-constant true c a h = sym (ap (λ y. y *ℤ a.constant) (h refl) ∙ zero-*ℤ a.constant)
scaled_if-constant false c a h = refl

scaled-constant : (c : ℤ) (a : Items) → (scaled c a).constant ≡ c *ℤ a.constant
scaled-constant c a = scaled_if-constant (int_eq c (pos 0)) c a (int_eq-zero c)

products-constant : (z : ℤ) (ts : List (Item Atom)) (start : Items) → (add_up (term_products ts (literal_form z)) start).constant ≡ start.constant
products-constant z [] start = refl
products-constant z (t ∷ ts) start =
    let item = scaled t.coefficient (scaled z (of_atom t.atom)) in
    let none : item.constant ≡ pos 0 =
    scaled-constant t.coefficient (scaled z (of_atom t.atom))
    ∙ ap (λ y. t.coefficient *ℤ y) (scaled-constant z (of_atom t.atom) ∙ *ℤ-zero z) ∙ *ℤ-zero t.coefficient in
    omega (arith, ints, products-constant z ts (sum_of start item), none)

-- the same coefficients and constant
abbrev Alike : Items → Items → Type 0
Alike a b = ((x : Atom) → coefficient a.terms x ≡ coefficient b.terms x) × (a.constant ≡ b.constant)

abbrev NonZero : Item Atom → Type 0
NonZero t = int_eq t.coefficient (pos 0) ≡ false

nonzero-all : (ts : List (Item Atom)) → EachItem GoodItem ts → EachItem NonZero ts
nonzero-all [] h = tt
nonzero-all (t ∷ ts) h = (h.0.1, nonzero-all ts h.1)

after-none : (y : Atom) (ts : List (Item Atom)) → EachItem (Before y) ts → coefficient ts y ≡ pos 0
after-none y [] h = refl
after-none y (t ∷ ts) h =
    let greater : atom_order t.atom y ≡ Greater = order-reverse t.atom y ∙ ap ordering_reverse h.0 in
    λ i. where_equal (greater i) t.coefficient +ℤ after-none y ts h.1 i

own : (t : Item Atom) (ts : List (Item Atom)) → EachItem (Before t.atom) ts → coefficient (t ∷ ts) t.atom ≡ t.coefficient
own t ts h = (λ i. where_equal (order-same t.atom i) t.coefficient +ℤ after-none t.atom ts h i) ∙ with_zero t.coefficient
  where
    with_zero : (c : ℤ) → c +ℤ pos 0 ≡ c
    with_zero c = omega (arith, ints)

not_zero : (c : ℤ) → int_eq c (pos 0) ≡ false → c ≡ pos 0 → ⊥
not_zero c h e = differ (ap (λ (z : ℤ). int_eq z (pos 0)) (sym e) ∙ h)
  where
    differ : true ≡ false → ⊥
    differ h = absurd (cc)

one_front : (t u : Item Atom) (ts us : List (Item Atom)) (o : Ordering) → atom_order t.atom u.atom ≡ o → Sorted (t ∷ ts) → NonZero t → Sorted (u ∷ us)
    → NonZero u
    → ((x : Atom) → coefficient (t ∷ ts) x ≡ coefficient (u ∷ us) x)
    → (((x : Atom) → coefficient ts x ≡ coefficient us x) → ts ≡ us) → t ∷ ts ≡ u ∷ us
one_front t u ts us Less e st nt su nu h later =
    absurd (not_zero t.coefficient nt
    (sym (own t ts st.0) ∙ h t.atom ∙ after-none t.atom (u ∷ us) (e, all_after t.atom u.atom us e su.0)))
one_front t u ts us Greater e st nt su nu h later =
    let f : atom_order u.atom t.atom ≡ Less = order-reverse u.atom t.atom ∙ ap ordering_reverse e in
    absurd (not_zero u.coefficient nu
    (sym (own u us su.0) ∙ sym (h u.atom) ∙ after-none u.atom (t ∷ ts) (f, all_after u.atom t.atom ts f st.0)))
one_front t u ts us Equal e st nt su nu h later =
    let same : t.atom ≡ u.atom = atom_order-Equal t.atom u.atom e in
    let number : t.coefficient ≡ u.coefficient = sym (own t ts st.0) ∙ h t.atom ∙ ap (coefficient (u ∷ us)) same ∙ own u us su.0 in
    let rest : (x : Atom) → coefficient ts x ≡ coefficient us x = λ x.
    let first : where_equal (atom_order t.atom x) t.coefficient ≡ where_equal (atom_order u.atom x) u.coefficient = λ i.
    where_equal (atom_order (same i) x) (number i) in
    omega (arith, ints, h x, first) in
    λ i. record { atom = same i; coefficient = number i } ∷ later rest i

alike_terms : (ts us : List (Item Atom)) → Sorted ts → EachItem NonZero ts → Sorted us → EachItem NonZero us
    → ((x : Atom) → coefficient ts x ≡ coefficient us x) → ts ≡ us
alike_terms [] [] st nt su nu h = refl
alike_terms [] (u ∷ us) st nt su nu h = absurd (not_zero u.coefficient nu.0 (sym (own u us su.0) ∙ sym (h u.atom)))
alike_terms (t ∷ ts) [] st nt su nu h = absurd (not_zero t.coefficient nt.0 (sym (own t ts st.0) ∙ h t.atom))
alike_terms (t ∷ ts) (u ∷ us) st nt su nu h =
    one_front t u ts us (atom_order t.atom u.atom) refl st nt.0 su nu.0 h (alike_terms ts us st.1 nt.1 su.1 nu.1)

alike : (a b : Items) → is_ordered a ≡ true → is_ordered b ≡ true → Alike a b → a ≡ b
alike a b oa ob h =
    let ta = ordered-terms a oa in
    let tb = ordered-terms b ob in
    let same = alike_terms a.terms b.terms ta.0 (nonzero-all a.terms ta.1) tb.0 (nonzero-all b.terms tb.1) h.0 in
    λ i. record { terms = same i; constant = h.1 i }

-- a form times a number as a form is its multiple
pub product-literal : (a : Items) (z : ℤ) → is_ordered a ≡ true → product_of a (literal_form z) ≡ scaled z a
product-literal a z o = alike (product_of a (literal_form z)) (scaled z a) (products-ordered a (literal_form z) o (literal-ordered z) (inr tt))
    (scaled-ordered z a o) (terms, constant)
  where
    start : Items
    start = scaled a.constant (literal_form z)

    terms : (x : Atom) → coefficient (product_of a (literal_form z)).terms x ≡ coefficient (scaled z a).terms x
    terms x = omega (
      arith,
      ints,
      add_up-at x (term_products a.terms (literal_form z)) (scaled a.constant (literal_form z)),
      products-at x z a.terms,
      scaled-at x a.constant (literal_form z),
      *ℤ-zero a.constant,
      scaled-at x z a,
    )

    constant : (product_of a (literal_form z)).constant ≡ (scaled z a).constant
    constant = products-constant z a.terms (scaled a.constant (literal_form z)) ∙ scaled-constant a.constant (literal_form z) ∙ *ℤ_comm a.constant z
        ∙ sym (scaled-constant z a)

-- a form added and taken away again
pub taken-again : (n a : Items) → is_ordered n ≡ true → is_ordered a ≡ true → difference_of (sum_of n a) a ≡ n
taken-again n a on oa = alike (difference_of (sum_of n a) a) n (difference-ordered (sum_of n a) a (sum-ordered n a on oa) oa) on (terms, constant)
  where
    terms : (x : Atom) → coefficient (difference_of (sum_of n a) a).terms x ≡ coefficient n.terms x
    terms x = omega (
      arith,
      ints,
      merged-at x (sum_of n a).terms (scaled (negsuc 0) a).terms,
      scaled-at x (negsuc 0) a,
      merged-at x n.terms a.terms,
    )

    constant : (difference_of (sum_of n a) a).constant ≡ n.constant
    constant = omega (arith, ints, scaled-constant (negsuc 0) a)

-- a form and what another has more: the other
pub sum-rest : (n m : Items) → is_ordered n ≡ true → is_ordered m ≡ true → sum_of n (difference_of m n) ≡ m
sum-rest n m on om = alike (sum_of n (difference_of m n)) m (sum-ordered n (difference_of m n) on (difference-ordered m n om on)) om (terms, constant)
  where
    terms : (x : Atom) → coefficient (sum_of n (difference_of m n)).terms x ≡ coefficient m.terms x
    terms x = omega (
      arith,
      ints,
      merged-at x n.terms (difference_of m n).terms,
      merged-at x m.terms (scaled (negsuc 0) n).terms,
      scaled-at x (negsuc 0) n,
    )

    constant : (sum_of n (difference_of m n)).constant ≡ m.constant
    constant = omega (arith, ints, scaled-constant (negsuc 0) n)

-- sums of three
pub sums-grouped : (a b c : Items) → is_ordered a ≡ true → is_ordered b ≡ true → is_ordered c ≡ true → sum_of (sum_of a b) c ≡ sum_of a (sum_of b c)
sums-grouped a b c oa ob oc =
    alike (sum_of (sum_of a b) c) (sum_of a (sum_of b c)) (sum-ordered (sum_of a b) c (sum-ordered a b oa ob) oc)
    (sum-ordered a (sum_of b c) oa (sum-ordered b c ob oc)) (terms, constant)
  where
    terms : (x : Atom) → coefficient (sum_of (sum_of a b) c).terms x ≡ coefficient (sum_of a (sum_of b c)).terms x
    terms x = omega (
      arith,
      ints,
      merged-at x (sum_of a b).terms c.terms,
      merged-at x a.terms b.terms,
      merged-at x a.terms (sum_of b c).terms,
      merged-at x b.terms c.terms,
    )

    constant : (sum_of (sum_of a b) c).constant ≡ (sum_of a (sum_of b c)).constant
    constant = omega (arith, ints)

-- how often k goes into a multiple of k and a rest below k
times-quotient : (k r : ℕ) (c : ℤ) → r < k → int_div_euclid ((pos k *ℤ c) +ℤ pos r) (pos k) ≡ c
times-quotient k r c h =
    let z = (pos k *ℤ c) +ℤ pos r in
    let p : 0 < k = omega (arith, h) in
    let rest = remainder k z p in
    unique k (int_div_euclid z (pos k)) c rest.number r (ap (λ y. (pos k *ℤ int_div_euclid z (pos k)) +ℤ y) (sym rest.is) ∙ quotient-rest k z p) rest.below h

whole-is : (k : ℕ) (c : ℤ) → 0 < k → int_div_euclid (pos k *ℤ c) (pos k) ≡ c
whole-is k c p = ap (λ z. int_div_euclid z (pos k)) (with_zero (pos k *ℤ c)) ∙ times-quotient k 0 c p
  where
    with_zero : (z : ℤ) → z ≡ z +ℤ pos 0
    with_zero z = omega (arith, ints)

none-is : (k : ℕ) (c : ℤ) → 0 < k → int_rem_euclid (pos k *ℤ c) (pos k) ≡ pos 0
none-is k c p = omega (arith, ints, quotient-rest k (pos k *ℤ c) p, ap (λ z. pos k *ℤ z) (whole-is k c p))

wholes-are : (k : ℕ) (ts : List (Item Atom)) → 0 < k → EachItem NonZero ts → whole_terms k (scaled_terms (pos k) ts) ≡ ts
wholes-are k [] p h = refl
wholes-are k (t ∷ ts) p h =
    (λ i. item_of t.atom (whole-is k t.coefficient p i) (wholes-are k ts p h.1 i))
    ∙ (λ i. item_if (h.0 i) (record { atom = t.atom; coefficient = t.coefficient }) ts)

rests-are : (k : ℕ) (ts : List (Item Atom)) → 0 < k → rest_terms k (scaled_terms (pos k) ts) ≡ []
rests-are k [] p = refl
rests-are k (t ∷ ts) p = λ i. item_of t.atom (none-is k t.coefficient p i) (rests-are k ts p i)

merged-none : (ts : List (Item Atom)) → merged ts [] ≡ ts
merged-none [] = refl
merged-none (t ∷ ts) = ap (λ us. t ∷ us) (merged-none ts)

number-not-zero : (k : ℕ) → 0 < k → int_eq (pos k) (pos 0) ≡ false
number-not-zero k p = grind (arith, ints, p)

-- so many chunks of k hold k times as many rows
pub tiles-whole : (k : ℕ) (n : Items) → 0 < k → is_ordered n ≡ true → tiles k (scaled (pos k) n) ≡ n
tiles-whole k n p o =
    ap (tiles k) (scaled-other (pos k) n (number-not-zero k p))
    ∙ (λ i. quotient_of (record { terms = merged-none (scaled_terms (pos k) n.terms) i; constant = (pos k *ℤ n.constant) +ℤ pos (k - 1) }) k)
    ∙ (λ i. sum_of (record { terms = wholes-are k n.terms p nonzero i; constant = times-quotient k (k - 1) n.constant last i })
    (quotient_atom (rests-are k n.terms p i) (int_rem_euclid ((pos k *ℤ n.constant) +ℤ pos (k - 1)) (pos k)) k))
    ∙ (λ i. record { terms = merged-none n.terms i; constant = with_zero n.constant i })
  where
    nonzero : EachItem NonZero n.terms
    nonzero = nonzero-all n.terms (ordered-terms n o).1

    last : k - 1 < k
    last = omega (arith, p)

    with_zero : (z : ℤ) → z +ℤ pos 0 ≡ z
    with_zero z = omega (arith, ints)
