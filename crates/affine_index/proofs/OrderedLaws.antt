-- Multiples and quotients of normal forms are normal forms, but for the limits.
use Rattle.std.proofs.Common.{◌≡◌, ℕ, ◌*◌, ◌<◌, ◌≤◌, List, [], ◌∷◌, refl, ap, sym, ◌∙◌, subst, arith, Bool, true, false, nat_le}
use Rattle.std.specs.Prelude.{ℤ, pos, negsuc, ◌*ℤ◌}
use Rattle.std.specs.Int.{int_div_euclid, int_rem_euclid}
use Rattle.std.specs.Int.RustNames.{unsigned_abs}
use Rattle.std.specs.Ordering.{int_eq}
use Rattle.std.proofs.lemmas.Bool.{and_from, and_parts}
use Rattle.std.proofs.lemmas.Int.{ints, unsigned_abs-mul}
use Rattle.affine_index.specs.Form.{literal_form, of_atom}
use Rattle.affine_index.specs.Normal.{all_remainders, atom_good, atom_is_ordered, is_ordered, is_remainder, items_good}
use Rattle.affine_index.specs.Quotient.{item_of, quotient_atom, quotient_of, rest_part, rest_terms, whole_part, whole_terms}
use Rattle.affine_index.specs.Sum.{difference_of, item_if, scaled, scaled_if, scaled_terms}
use Rattle.affine_index.proofs.EveryLaws.{every-Div}
use Rattle.affine_index.proofs.ReadyLaws.{good-Div}
use Rattle.affine_index.proofs.Sorted.{Before, EachItem, GoodItem, OrderedTerms, Sorted, ordered-terms, sum-ordered, terms-ordered}
use Rattle.affine_index.specs.declared.form.Atom.{Atom}
use Rattle.affine_index.specs.declared.form.Atom.TheVariants.{Div}
use Rattle.affine_index.specs.declared.form.Item.{Item}
use Rattle.affine_index.specs.declared.form.Items.{Items}

pub literal-ordered : (z : ℤ) → is_ordered (literal_form z) ≡ true
literal-ordered z = terms-ordered (literal_form z) (tt, tt)

pub atom-ordered : (a : Atom) → atom_is_ordered a ≡ true → is_ordered (of_atom a) ≡ true
atom-ordered a h = terms-ordered (of_atom a) ((tt, tt), ((h, refl), tt))

nonzero-abs : (a : ℤ) → int_eq a (pos 0) ≡ false → 0 < unsigned_abs a
nonzero-abs a h = grind (arith, ints)

abs-nonzero : (a : ℤ) → 0 < unsigned_abs a → int_eq a (pos 0) ≡ false
abs-nonzero a h = grind (arith, ints)

product-positive : (m n : ℕ) → 0 < m → 0 < n → 0 < m * n
product-positive m n p q = grind arith

nonzero-product : (a b : ℤ) → int_eq a (pos 0) ≡ false → int_eq b (pos 0) ≡ false → int_eq (a *ℤ b) (pos 0) ≡ false
nonzero-product a b p q =
    let P : ℕ → Type 0 = λ n. 0 < n in
    abs-nonzero (a *ℤ b) (subst P (sym (unsigned_abs-mul a b)) (product-positive (unsigned_abs a) (unsigned_abs b) (nonzero-abs a p) (nonzero-abs b q)))

scaled-before : (x : Atom) (c : ℤ) (ts : List (Item Atom)) → EachItem (Before x) ts → EachItem (Before x) (scaled_terms c ts)
scaled-before x c [] h = tt
scaled-before x c (t ∷ ts) h = (h.0, scaled-before x c ts h.1)

scaled-sorted : (c : ℤ) (ts : List (Item Atom)) → Sorted ts → Sorted (scaled_terms c ts)
scaled-sorted c [] s = tt
scaled-sorted c (t ∷ ts) s = (scaled-before t.atom c ts s.0, scaled-sorted c ts s.1)

scaled-good : (c : ℤ) (ts : List (Item Atom)) → int_eq c (pos 0) ≡ false → EachItem GoodItem ts → EachItem GoodItem (scaled_terms c ts)
scaled-good c [] n h = tt
scaled-good c (t ∷ ts) n h = ((h.0.0, nonzero-product c t.coefficient n h.0.1), scaled-good c ts n h.1)

scaled_if-ordered : (z : Bool) (c : ℤ) (i : Items) → int_eq c (pos 0) ≡ z → is_ordered i ≡ true → is_ordered (scaled_if z c i) ≡ true
scaled_if-ordered true c i e o = literal-ordered (pos 0)
scaled_if-ordered false c i e o =
    let ts = ordered-terms i o in
    terms-ordered (scaled_if false c i) (scaled-sorted c i.terms ts.0, scaled-good c i.terms e ts.1)

pub scaled-ordered : (c : ℤ) (i : Items) → is_ordered i ≡ true → is_ordered (scaled c i) ≡ true
scaled-ordered c i o = scaled_if-ordered (int_eq c (pos 0)) c i refl o

pub difference-ordered : (a b : Items) → is_ordered a ≡ true → is_ordered b ≡ true → is_ordered (difference_of a b) ≡ true
difference-ordered a b oa ob = sum-ordered a (scaled (negsuc 0) b) oa (scaled-ordered (negsuc 0) b ob)

-- items made of those of a list, each of its atom, where the coefficient is not 0
module _ (f : ℤ → ℤ) where
  abbrev chosen : List (Item Atom) → List (Item Atom)
  chosen [] = []
  chosen (t ∷ ts) = item_of t.atom (f t.coefficient) (chosen ts)

  item-each : (Q : Item Atom → Type 0) (z : Bool) (t : Item Atom) (rest : List (Item Atom)) → (z ≡ false → Q t) → EachItem Q rest
      → EachItem Q (item_if z t rest)
  item-each Q true t rest q h = h
  item-each Q false t rest q h = (q refl, h)

  chosen-before : (x : Atom) (ts : List (Item Atom)) → EachItem (Before x) ts → EachItem (Before x) (chosen ts)
  chosen-before x [] h = tt
  chosen-before x (t ∷ ts) h = item-each (Before x) (int_eq (f t.coefficient) (pos 0)) _ (chosen ts) (λ _. h.0) (chosen-before x ts h.1)

  item-sorted : (z : Bool) (t : Item Atom) (rest : List (Item Atom)) → EachItem (Before t.atom) rest → Sorted rest → Sorted (item_if z t rest)
  item-sorted true t rest h s = s
  item-sorted false t rest h s = (h, s)

  chosen-sorted : (ts : List (Item Atom)) → Sorted ts → Sorted (chosen ts)
  chosen-sorted [] s = tt
  chosen-sorted (t ∷ ts) s = item-sorted (int_eq (f t.coefficient) (pos 0)) (record { atom = t.atom; coefficient = f t.coefficient }) (chosen ts)
      (chosen-before t.atom ts s.0) (chosen-sorted ts s.1)

  chosen-good : (ts : List (Item Atom)) → EachItem GoodItem ts → EachItem GoodItem (chosen ts)
  chosen-good [] h = tt
  chosen-good (t ∷ ts) h = item-each GoodItem (int_eq (f t.coefficient) (pos 0)) (record { atom = t.atom; coefficient = f t.coefficient }) (chosen ts)
      (λ n. (h.0.0, n)) (chosen-good ts h.1)

whole-chosen : (k : ℕ) (ts : List (Item Atom)) → whole_terms k ts ≡ chosen (λ c. int_div_euclid c (pos k)) ts
whole-chosen k [] = refl
whole-chosen k (t ∷ ts) = ap (item_of t.atom (int_div_euclid t.coefficient (pos k))) (whole-chosen k ts)

rest-chosen : (k : ℕ) (ts : List (Item Atom)) → rest_terms k ts ≡ chosen (λ c. int_rem_euclid c (pos k)) ts
rest-chosen k [] = refl
rest-chosen k (t ∷ ts) = ap (item_of t.atom (int_rem_euclid t.coefficient (pos k))) (rest-chosen k ts)

chosen-terms : (f : ℤ → ℤ) (ts us : List (Item Atom)) → us ≡ chosen f ts → OrderedTerms ts → OrderedTerms us
chosen-terms f ts us e o = subst OrderedTerms (sym e) (chosen-sorted f ts o.0, chosen-good f ts o.1)

pub whole-ordered : (i : Items) (k : ℕ) → is_ordered i ≡ true → is_ordered (whole_part i k) ≡ true
whole-ordered i k o = terms-ordered (whole_part i k) (chosen-terms (λ c. int_div_euclid c (pos k)) i.terms _ (whole-chosen k i.terms) (ordered-terms i o))

pub rest-ordered : (i : Items) (k : ℕ) → is_ordered i ≡ true → is_ordered (rest_part i k) ≡ true
rest-ordered i k o = terms-ordered (rest_part i k) (chosen-terms (λ c. int_rem_euclid c (pos k)) i.terms _ (rest-chosen k i.terms) (ordered-terms i o))

pub rest-below : (c : ℤ) (k : ℕ) → 0 < k → is_remainder k (int_rem_euclid c (pos k)) ≡ true
rest-below (pos n) k h = grind arith
rest-below (negsuc n) k h = grind arith

item-remainder : (k : ℕ) (z : Bool) (t : Item Atom) (rest : List (Item Atom)) → is_remainder k t.coefficient ≡ true → all_remainders k rest ≡ true
    → all_remainders k (item_if z t rest) ≡ true
item-remainder k true t rest q h = h
item-remainder k false t rest q h = and_from _ _ q h

pub rest-remainders : (k : ℕ) (ts : List (Item Atom)) → 0 < k → all_remainders k (rest_terms k ts) ≡ true
rest-remainders k [] h = refl
rest-remainders k (t ∷ ts) h = item-remainder k (int_eq (int_rem_euclid t.coefficient (pos k)) (pos 0))
    (record { atom = t.atom; coefficient = int_rem_euclid t.coefficient (pos k) }) (rest_terms k ts) (rest-below t.coefficient k h) (rest-remainders k ts h)

-- a remainder by 1 is 0
by_one : (c : ℤ) → is_remainder 1 c ≡ true → int_eq c (pos 0) ≡ true
by_one (pos n) h = grind arith
by_one (negsuc n) h = absurd (cc)

quotient_atom-ordered : (ts : List (Item Atom)) (c : ℤ) (k : ℕ) → 0 < k → k ≤ 2147483647 → is_ordered (record { terms = ts; constant = c }) ≡ true
    → all_remainders k ts ≡ true → is_remainder k c ≡ true → is_ordered (quotient_atom ts c k) ≡ true
quotient_atom-ordered [] c k p q o rs r = literal-ordered (pos 0)
quotient_atom-ordered (t ∷ ts) c k p q o rs r =
    let i : Items = record { terms = t ∷ ts; constant = c } in
    let first : is_remainder k t.coefficient ≡ true = (and_parts (is_remainder k t.coefficient) (all_remainders k ts) rs).0 in
    let nonzero : int_eq t.coefficient (pos 0) ≡ false = (ordered-terms i o).1.0.1 in
    let two : nat_le 2 k ≡ true = at_least_two k t.coefficient p first nonzero in
    let high : nat_le k 2147483647 ≡ true = high_is k q in
    atom-ordered (Div i k) (every-Div atom_good items_good i k ∙ and_from (atom_good (Div i k)) (is_ordered i)
    (good-Div i k ∙ and_from _ _ two (and_from _ _ high (and_from _ _ rs r))) o)
  where
    high_is : (k : ℕ) → k ≤ 2147483647 → nat_le k 2147483647 ≡ true
    high_is k h = grind arith

    at_least_two : (k : ℕ) (c : ℤ) → 0 < k → is_remainder k c ≡ true → int_eq c (pos 0) ≡ false → nat_le 2 k ≡ true
    at_least_two k (pos n) p r z = grind arith
    at_least_two k (negsuc n) p r z = absurd (cc)

-- the floor quotient of a normal form is one, but for the limits
pub quotient-ordered : (i : Items) (k : ℕ) → 0 < k → k ≤ 2147483647 → is_ordered i ≡ true → is_ordered (quotient_of i k) ≡ true
quotient-ordered i k p q o =
    sum-ordered (whole_part i k) (quotient_atom (rest_part i k).terms (rest_part i k).constant k) (whole-ordered i k o)
    (quotient_atom-ordered (rest_part i k).terms (rest_part i k).constant k p q (rest-ordered i k o) (rest-remainders k i.terms p) (rest-below i.constant k p))
