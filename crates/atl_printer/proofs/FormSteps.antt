-- The steps by which a normal form is put together from its items, and an item from its factors.
use Rattle.std.proofs.Common.{◌≡◌, ℕ, suc, ◌<◌, List, [], ◌∷◌, ◌++◌, refl, ap, sym, ◌∙◌, arith, false}
use Rattle.std.specs.Prelude.{ℤ, pos, negsuc, ◌+ℤ◌, ◌*ℤ◌, unsigned_abs}
use Rattle.std.specs.Ordering.{int_eq, is_le, ordering_reverse}
use Rattle.std.specs.declared.cmp.Ordering.{Ordering}
use Rattle.std.specs.declared.cmp.Ordering.TheVariants.{Less, Equal, Greater}
use Rattle.std.proofs.lemmas.Int.{ints}
use Rattle.affine_index.specs.Form.{literal_form, of_atom}
use Rattle.affine_index.specs.Order.{atom_order}
use Rattle.affine_index.specs.Product.{atom_product, factor_onto, factor_onto_by, factors_of, merged_factors, product_of}
use Rattle.affine_index.specs.Sum.{difference_of, merged, onto, onto_by, scaled, sum_of}
use Rattle.affine_index.proofs.Factors.{AtMost, Base, SortedFactors, base_factors, factors-Mul}
use Rattle.affine_index.proofs.Induction.{Each}
use Rattle.affine_index.proofs.PutFree.{scaled-atom}
use Rattle.affine_index.proofs.Sorted.{Before, EachItem, Sorted}
use Rattle.affine_index.proofs.TotalOrder.{order-reverse}
use Rattle.affine_index.specs.declared.form.Atom.{Atom}
use Rattle.affine_index.specs.declared.form.Atom.TheVariants.{Mul}
use Rattle.affine_index.specs.declared.form.Item.{Item}
use Rattle.affine_index.specs.declared.form.Items.{Items}

-- an item alone
abbrev pub alone : Atom → ℤ → Items
alone a c = record { terms = record { atom = a; coefficient = c } ∷ []; constant = pos 0 }

pub merged-nothing : (ts : List (Item Atom)) → merged ts [] ≡ ts
merged-nothing [] = refl
merged-nothing (t ∷ ts) = ap (λ l. t ∷ l) (merged-nothing ts)

turned : (a b : Atom) → atom_order a b ≡ Less → atom_order b a ≡ Greater
turned a b e = order-reverse b a ∙ ap ordering_reverse e

merged-front : (u : Item Atom) (post : List (Item Atom)) → EachItem (Before u.atom) post → merged post (u ∷ []) ≡ u ∷ post
merged-front u [] h = refl
merged-front u (q ∷ qs) h =
    ap (λ o. onto_by o q (merged qs) u [] (onto q (merged qs) [])) (turned u.atom q.atom h.0)
    ∙ ap (λ l. u ∷ q ∷ l) (merged-nothing qs)

-- an item between others goes to its place
pub merged-middle : (pre : List (Item Atom)) (u : Item Atom) (post : List (Item Atom)) → EachItem (λ t. Before t.atom u) pre → EachItem (Before u.atom) post
    → merged (pre ++ post) (u ∷ []) ≡ pre ++ u ∷ post
merged-middle [] u post h g = merged-front u post g
merged-middle (p ∷ pre) u post h g =
    ap (λ o. onto_by o p (merged (pre ++ post)) u [] (onto p (merged (pre ++ post)) [])) h.0 ∙ ap (λ l. p ∷ l) (merged-middle pre u post h.1 g)

pub before_last : (pre : List (Item Atom)) (u : Item Atom) (ts : List (Item Atom)) → Sorted (pre ++ (u ∷ ts)) → EachItem (λ t. Before t.atom u) pre
before_last [] u ts s = tt
before_last (p ∷ pre) u ts s = (first pre s.0, before_last pre u ts s.1)
  where
    first : (qs : List (Item Atom)) → EachItem (Before p.atom) (qs ++ (u ∷ ts)) → Before p.atom u
    first [] h = h.0
    first (q ∷ qs) h = first qs h.1

pub after_last : (pre : List (Item Atom)) (u : Item Atom) (ts : List (Item Atom)) → Sorted (pre ++ (u ∷ ts)) → EachItem (Before u.atom) ts
after_last [] u ts s = s.0
after_last (p ∷ pre) u ts s = after_last pre u ts s.1

pub append-nil : (xs : List (Item Atom)) → xs ++ [] ≡ xs
append-nil [] = refl
append-nil (x ∷ xs) = ap (λ r. x ∷ r) (append-nil xs)

plus_zero : (c : ℤ) → c +ℤ pos 0 ≡ c
plus_zero c = omega (arith, ints)

zero_plus : (c : ℤ) → pos 0 +ℤ c ≡ c
zero_plus c = omega (arith, ints)

-- an item added
pub sum-item : (pre : List (Item Atom)) (u : Item Atom) (post : List (Item Atom)) (k : ℤ) → EachItem (λ t. Before t.atom u) pre → EachItem (Before u.atom) post
    → sum_of (record { terms = pre ++ post; constant = k }) (alone u.atom u.coefficient) ≡ record { terms = pre ++ u ∷ post; constant = k }
sum-item pre u post k h g = λ j. record { terms = merged-middle pre u post h g j; constant = plus_zero k j }

minus-size : (c : ℤ) (n : ℕ) → c ≡ negsuc n → negsuc 0 *ℤ pos (unsigned_abs c) ≡ c
minus-size c n e = ap (λ z. negsuc 0 *ℤ pos (unsigned_abs z)) e ∙ by n ∙ sym e
  where
    by : (n : ℕ) → negsuc 0 *ℤ pos (suc n) ≡ negsuc n
    by n = omega (arith, ints)

-- an item with a negative coefficient, whose size is taken away
pub difference-item : (pre : List (Item Atom)) (u : Item Atom) (n : ℕ) (post : List (Item Atom)) (k : ℤ) → u.coefficient ≡ negsuc n
    → EachItem (λ t. Before t.atom u) pre → EachItem (Before u.atom) post
    → difference_of (record { terms = pre ++ post; constant = k })
    (alone u.atom (pos (unsigned_abs u.coefficient))) ≡ record { terms = pre ++ u ∷ post; constant = k }
difference-item pre u n post k e h g =
    ap (λ c. sum_of (record { terms = pre ++ post; constant = k }) (alone u.atom c)) (minus-size u.coefficient n e)
    ∙ sum-item pre u post k h g

-- a constant added, or its size taken away
pub sum-constant : (ts : List (Item Atom)) (c : ℤ) → sum_of (record { terms = ts; constant = pos 0 }) (literal_form c) ≡ record { terms = ts; constant = c }
sum-constant ts c = λ j. record { terms = merged-nothing ts j; constant = zero_plus c j }

pub difference-constant : (ts : List (Item Atom)) (c : ℤ) (n : ℕ) → c ≡ negsuc n
    → difference_of (record { terms = ts; constant = pos 0 }) (literal_form (pos (unsigned_abs c))) ≡ record { terms = ts; constant = c }
difference-constant ts c n e = ap (λ z. sum_of (record { terms = ts; constant = pos 0 }) (literal_form z)) (minus-size c n e) ∙ sum-constant ts c

-- ---- factors

-- the atom of factors
abbrev pub as_atom : Atom → List Atom → Atom
as_atom f [] = f
as_atom f (g ∷ gs) = Mul (f ∷ g ∷ gs)

-- a number times factors
abbrev pub partial : ℕ → List Atom → Items
partial c [] = literal_form (pos c)
partial c (f ∷ fs) = alone (as_atom f fs) (pos c)

as_atom-factors : (g : Atom) (gs : List Atom) → Base g → factors_of (as_atom g gs) ≡ g ∷ gs
as_atom-factors g [] b = base_factors g b
as_atom-factors g (h ∷ hs) b = factors-Mul (g ∷ h ∷ hs)

-- a factor that none stands after is put last
merged-factor : (fs : List Atom) (g : Atom) → Each (λ f. AtMost f g) fs → merged_factors fs (g ∷ []) ≡ fs ++ g ∷ []
merged-factor [] g h = refl
merged-factor (f ∷ fs) g h = by (atom_order f g) refl (merged-factor fs g h.1)
  where
    by : (o : Ordering) → atom_order f g ≡ o → merged_factors fs (g ∷ []) ≡ fs ++ g ∷ [] → merged_factors (f ∷ fs) (g ∷ []) ≡ f ∷ fs ++ g ∷ []
    by Less e r = ap (λ o. factor_onto_by o f (merged_factors fs) g [] (factor_onto f (merged_factors fs) [])) e ∙ ap (λ l. f ∷ l) r
    by Equal e r = ap (λ o. factor_onto_by o f (merged_factors fs) g [] (factor_onto f (merged_factors fs) [])) e ∙ ap (λ l. f ∷ l) r
    by Greater e r = let bad : is_le (atom_order f g) ≡ false = ap is_le e in let good = h.0 in absurd (cc)

last_factor : (fs : List Atom) (g : Atom) (gs : List Atom) → SortedFactors (fs ++ g ∷ gs) → Each (λ f. AtMost f g) fs
last_factor [] g gs s = tt
last_factor (f ∷ fs) g gs s = (first fs s.0, last_factor fs g gs s.1)
  where
    first : (hs : List Atom) → Each (AtMost f) (hs ++ g ∷ gs) → AtMost f g
    first [] h = h.0
    first (h ∷ hs) r = first hs r.1

times_one : (c : ℤ) → c *ℤ pos 1 ≡ c
times_one c = omega (arith, ints)

nonzero : (c : ℕ) → 0 < c → int_eq (pos c) (pos 0) ≡ false
nonzero c h = grind arith

append-as_atom : (f : Atom) (fs : List Atom) (g : Atom) → as_atom f (fs ++ g ∷ []) ≡ Mul (f ∷ fs ++ g ∷ [])
append-as_atom f [] g = refl
append-as_atom f (h ∷ hs) g = refl

-- one factor more
pub product-factor : (c : ℕ) (fs : List Atom) (g : Atom) (gs : List Atom) → 0 < c → Each Base (fs ++ g ∷ gs) → SortedFactors (fs ++ g ∷ gs)
    → product_of (partial c fs) (of_atom g) ≡ partial c (fs ++ g ∷ [])
product-factor c [] g gs h b s = scaled-atom (pos c) g (nonzero c h)
product-factor c (f ∷ fs) g gs h b s =
    let own : factors_of g ≡ g ∷ [] = base_factors g (base_at (f ∷ fs) b) in
    let product : atom_product (as_atom f fs) g ≡ Mul (f ∷ fs ++ g ∷ []) =
    (λ j. Mul (merged_factors (as_atom-factors f fs b.0 j) (own j))) ∙ ap (λ l. Mul l) (merged-factor (f ∷ fs) g (last_factor (f ∷ fs) g gs s)) in
    ap (λ x. sum_of (literal_form (pos 0)) (scaled (pos c) (of_atom x))) product
    ∙ ap (sum_of (literal_form (pos 0))) (scaled-atom (pos c) (Mul (f ∷ fs ++ g ∷ [])) (nonzero c h))
    ∙ ap (λ x. alone x (pos c)) (sym (append-as_atom f fs g))
  where
    base_at : (hs : List Atom) → Each Base (hs ++ g ∷ gs) → Base g
    base_at [] q = q.0
    base_at (h ∷ hs) q = base_at hs q.1
