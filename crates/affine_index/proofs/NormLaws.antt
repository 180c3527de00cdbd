-- How large the numbers of a sum, a multiple, a product and a quotient are. The size of a form is counted in whole and begun k's.
use Rattle.std.proofs.Common.{◌≡◌, ℕ, suc, ◌+◌, ◌*◌, ◌-◌, ◌/◌, ◌<◌, ◌≤◌, List, [], ◌∷◌, refl, Bool, true, false, arith}
use Rattle.std.specs.Prelude.{ℤ, pos, negsuc, ◌+ℤ◌, ◌*ℤ◌}
use Rattle.std.specs.Int.{int_div_euclid}
use Rattle.std.specs.Int.RustNames.{unsigned_abs}
use Rattle.std.specs.Ordering.{int_eq}
use Rattle.std.specs.declared.cmp.Ordering.{Ordering}
use Rattle.std.specs.declared.cmp.Ordering.TheVariants.{Less, Equal, Greater}
use Rattle.std.proofs.lemmas.Int.{ints, unsigned_abs-mul}
use Rattle.std.proofs.Math.Nat.{div-le_of_le-mul, div-lt_iff_lt-mul}
use Rattle.affine_index.specs.Form.{of_atom}
use Rattle.affine_index.specs.Order.{atom_order}
use Rattle.affine_index.specs.Product.{atom_product, atom_products, atom_times, product_of, term_products}
use Rattle.affine_index.specs.Quotient.{quotient_atom, quotient_of, rest_part, whole_part, whole_terms}
use Rattle.affine_index.specs.Sum.{add_up, item_if, merged, onto, onto_by, scaled, scaled_if, scaled_terms, sum_of}
use Rattle.affine_index.specs.Wide.{norm, terms_norm}
use Rattle.affine_index.specs.declared.form.Atom.{Atom}
use Rattle.affine_index.specs.declared.form.Item.{Item}
use Rattle.affine_index.specs.declared.form.Items.{Items}

abs-sum : (a b : ℤ) → unsigned_abs (a +ℤ b) ≤ unsigned_abs a + unsigned_abs b
abs-sum a b = grind (arith, ints)

-- how many k's a number takes, the last of them begun
abbrev pub begun : ℕ → ℕ → ℕ
begun k n = (n + (k - 1)) / k

begun-up : (k n : ℕ) → 0 < k → n ≤ k * begun k n
begun-up k n h = omega arith

pub begun-least : (k n m : ℕ) → 0 < k → n ≤ k * m → begun k n ≤ m
begun-least k n m h p =
    let room : n + (k - 1) < (m + 1) * k = omega (arith, p) in
    let less : (n + (k - 1)) / k < m + 1 = (div-lt_iff_lt-mul h).1 room in
    omega (arith, less)

begun-sum : (k a b n : ℕ) → 0 < k → n ≤ a + b → begun k n ≤ begun k a + begun k b
begun-sum k a b n h p = begun-least k n (begun k a + begun k b) h (omega (arith, begun-up k a h, begun-up k b h, p))

begun-zero : (k : ℕ) → 0 < k → begun k 0 ≡ 0
begun-zero k h = omega (arith, begun-least k 0 0 h (omega arith))

-- the size of items and of a form in k's
module _ (k : ℕ) (h : 0 < k) where
  abbrev pub parts : List (Item Atom) → ℕ
  parts [] = 0
  parts (t ∷ ts) = begun k (unsigned_abs t.coefficient) + parts ts

  abbrev pub size : Items → ℕ
  size i = parts i.terms + begun k (unsigned_abs i.constant)

  item_if-parts : (z : Bool) (t : Item Atom) (rest : List (Item Atom)) → parts (item_if z t rest) ≤ begun k (unsigned_abs t.coefficient) + parts rest
  item_if-parts true t rest = omega arith
  item_if-parts false t rest = omega arith

  onto-parts : (a : Item Atom) (as' bs : List (Item Atom)) → ((cs : List (Item Atom)) → parts (merged as' cs) ≤ parts as' + parts cs)
      → parts (onto a (merged as') bs) ≤ begun k (unsigned_abs a.coefficient) + parts as' + parts bs
  onto-parts a as' [] f = omega (arith, f [])
  onto-parts a as' (b ∷ bs) f = by_order (atom_order a.atom b.atom) (onto-parts a as' bs f)
    where
      by_order : (o : Ordering) → parts (onto a (merged as') bs) ≤ begun k (unsigned_abs a.coefficient) + parts as' + parts bs
          → parts (onto_by o a (merged as') b bs (onto a (merged as') bs)) ≤ begun k (unsigned_abs a.coefficient) + parts as' + parts (b ∷ bs)
      by_order Less later = omega (arith, f (b ∷ bs))
      by_order Greater later = omega (arith, later)
      by_order Equal later =
          omega (
            arith,
            f bs,
            item_if-parts (int_eq (a.coefficient +ℤ b.coefficient) (pos 0)) (record { atom = a.atom; coefficient = a.coefficient +ℤ b.coefficient })
                (merged as' bs),
            begun-sum k (unsigned_abs a.coefficient) (unsigned_abs b.coefficient) (unsigned_abs (a.coefficient +ℤ b.coefficient)) h
                (abs-sum a.coefficient b.coefficient),
          )

  pub merged-parts : (as' bs : List (Item Atom)) → parts (merged as' bs) ≤ parts as' + parts bs
  merged-parts [] bs = omega arith
  merged-parts (a ∷ as') bs = onto-parts a as' bs (merged-parts as')

  pub sum-size : (a b : Items) → size (sum_of a b) ≤ size a + size b
  sum-size a b = omega (
    arith,
    merged-parts a.terms b.terms,
    begun-sum k (unsigned_abs a.constant) (unsigned_abs b.constant) (unsigned_abs (a.constant +ℤ b.constant)) h (abs-sum a.constant b.constant),
  )

  begun-times : (c d : ℤ) → unsigned_abs c ≤ k → begun k (unsigned_abs (c *ℤ d)) ≤ unsigned_abs d
  begun-times c d p = begun-least k (unsigned_abs (c *ℤ d)) (unsigned_abs d) h
      (omega (arith, unsigned_abs-mul c d, times-most (unsigned_abs c) k (unsigned_abs d) p))
    where
      times-most : (a b c : ℕ) → a ≤ b → a * c ≤ b * c
      times-most a b c p = grind arith

  scaled-parts : (c : ℤ) (ts : List (Item Atom)) → unsigned_abs c ≤ k → parts (scaled_terms c ts) ≤ terms_norm ts
  scaled-parts c [] p = omega arith
  scaled-parts c (t ∷ ts) p = omega (arith, begun-times c t.coefficient p, scaled-parts c ts p)

  scaled_if-size : (z : Bool) (c : ℤ) (i : Items) → unsigned_abs c ≤ k → size (scaled_if z c i) ≤ norm i
  scaled_if-size true c i p = omega (arith, begun-zero k h)
  scaled_if-size false c i p = omega (arith, scaled-parts c i.terms p, begun-times c i.constant p)

  -- a form at most k times has at most as many k's as the form has ones
  pub scaled-size : (c : ℤ) (i : Items) → unsigned_abs c ≤ k → size (scaled c i) ≤ norm i
  scaled-size c i p = scaled_if-size (int_eq c (pos 0)) c i p

  whole-begun : (c : ℤ) → unsigned_abs (int_div_euclid c (pos k)) ≤ begun k (unsigned_abs c)
  whole-begun (pos n) = div-le_of_le-mul k (begun-up k n h)
  whole-begun (negsuc n) =
      let up : n < begun k (suc n) * k = omega (arith, begun-up k (suc n) h) in
      let less : n / k < begun k (suc n) = (div-lt_iff_lt-mul h).1 up in
      omega (arith, less)

  item_if-norm : (z : Bool) (t : Item Atom) (rest : List (Item Atom)) → terms_norm (item_if z t rest) ≤ unsigned_abs t.coefficient + terms_norm rest
  item_if-norm true t rest = omega arith
  item_if-norm false t rest = omega arith

  whole-norm : (ts : List (Item Atom)) → terms_norm (whole_terms k ts) ≤ parts ts
  whole-norm [] = omega arith
  whole-norm (t ∷ ts) =
      let q = int_div_euclid t.coefficient (pos k) in
      omega (arith, item_if-norm (int_eq q (pos 0)) (record { atom = t.atom; coefficient = q }) (whole_terms k ts), whole-begun t.coefficient, whole-norm ts)

  pub whole_part-norm : (i : Items) → norm (whole_part i k) ≤ size i
  whole_part-norm i = omega (arith, whole-norm i.terms, whole-begun i.constant)

one_is : 0 < 1
one_is = omega arith

begun-one : (n : ℕ) → begun 1 n ≡ n
begun-one n = omega arith

parts-one : (ts : List (Item Atom)) → parts 1 one_is ts ≡ terms_norm ts
parts-one [] = refl
parts-one (t ∷ ts) = (λ i. begun-one (unsigned_abs t.coefficient) i + parts-one ts i)

size-one : (i : Items) → size 1 one_is i ≡ norm i
size-one i = (λ k. parts-one i.terms k + begun-one (unsigned_abs i.constant) k)

pub merged-norm : (as' bs : List (Item Atom)) → terms_norm (merged as' bs) ≤ terms_norm as' + terms_norm bs
merged-norm as' bs = omega (arith, merged-parts 1 one_is as' bs, parts-one as', parts-one bs, parts-one (merged as' bs))

pub sum-norm : (a b : Items) → norm (sum_of a b) ≤ norm a + norm b
sum-norm a b = omega (arith, sum-size 1 one_is a b, size-one a, size-one b, size-one (sum_of a b))

scaled_terms-norm : (c : ℤ) (ts : List (Item Atom)) → terms_norm (scaled_terms c ts) ≡ unsigned_abs c * terms_norm ts
scaled_terms-norm c [] = omega arith
scaled_terms-norm c (t ∷ ts) = omega (arith, unsigned_abs-mul c t.coefficient, scaled_terms-norm c ts)

scaled_if-norm : (z : Bool) (c : ℤ) (i : Items) → norm (scaled_if z c i) ≤ unsigned_abs c * norm i
scaled_if-norm true c i = omega arith
scaled_if-norm false c i = omega (arith, scaled_terms-norm c i.terms, unsigned_abs-mul c i.constant)

pub scaled-norm : (c : ℤ) (i : Items) → norm (scaled c i) ≤ unsigned_abs c * norm i
scaled-norm c i = scaled_if-norm (int_eq c (pos 0)) c i

pub atom-norm : (a : Atom) → norm (of_atom a) ≡ 1
atom-norm a = refl

-- the sizes of forms, each with its coefficient
abbrev pub each_norm : List (Item Items) → ℕ
each_norm [] = 0
each_norm (t ∷ ts) = unsigned_abs t.coefficient * norm t.atom + each_norm ts

pub add_up-norm : (ts : List (Item Items)) (start : Items) → norm (add_up ts start) ≤ norm start + each_norm ts
add_up-norm [] start = omega arith
add_up-norm (t ∷ ts) start = omega
    (arith, add_up-norm ts (sum_of start (scaled t.coefficient t.atom)), sum-norm start (scaled t.coefficient t.atom), scaled-norm t.coefficient t.atom)

atom_products-norm : (x : Atom) (ts : List (Item Atom)) → each_norm (atom_products x ts) ≡ terms_norm ts
atom_products-norm x [] = refl
atom_products-norm x (t ∷ ts) = omega (arith, atom_products-norm x ts, atom-norm (atom_product x t.atom))

pub atom_times-norm : (x : Atom) (b : Items) → norm (atom_times x b) ≤ norm b
atom_times-norm x b = omega (
  arith,
  add_up-norm (atom_products x b.terms) (scaled b.constant (of_atom x)),
  atom_products-norm x b.terms,
  scaled-norm b.constant (of_atom x),
  atom-norm x,
)

times-most : (c m n : ℕ) → m ≤ n → c * m ≤ c * n
times-most c m n p = grind arith

term_products-norm : (ts : List (Item Atom)) (b : Items) → each_norm (term_products ts b) ≤ terms_norm ts * norm b
term_products-norm [] b = omega arith
term_products-norm (t ∷ ts) b =
    omega (arith, term_products-norm ts b, times-most (unsigned_abs t.coefficient) (norm (atom_times t.atom b)) (norm b) (atom_times-norm t.atom b))

pub product-norm : (a b : Items) → norm (product_of a b) ≤ norm a * norm b
product-norm a b = omega (arith, add_up-norm (term_products a.terms b) (scaled a.constant b), term_products-norm a.terms b, scaled-norm a.constant b)

pub quotient_atom-norm : (ts : List (Item Atom)) (c : ℤ) (k : ℕ) → norm (quotient_atom ts c k) ≤ 1
quotient_atom-norm [] c k = omega arith
quotient_atom-norm (t ∷ ts) c k = omega arith

-- the quotient has at most as many ones as the form has k's, and one
pub quotient-size : (i : Items) (k : ℕ) (h : 0 < k) → norm (quotient_of i k) ≤ size k h i + 1
quotient-size i k h =
    omega (
      arith,
      sum-norm (whole_part i k) (quotient_atom (rest_part i k).terms (rest_part i k).constant k),
      whole_part-norm k h i,
      quotient_atom-norm (rest_part i k).terms (rest_part i k).constant k,
    )

begun-most : (k n : ℕ) → 0 < k → begun k n ≤ n
begun-most k n h = begun-least k n n h (more k n h)
  where
    more : (k n : ℕ) → 0 < k → n ≤ k * n
    more k n h = grind arith

parts-most : (k : ℕ) (h : 0 < k) (ts : List (Item Atom)) → parts k h ts ≤ terms_norm ts
parts-most k h [] = omega arith
parts-most k h (t ∷ ts) = omega (arith, begun-most k (unsigned_abs t.coefficient) h, parts-most k h ts)

pub whole-most : (i : Items) (k : ℕ) → 0 < k → norm (whole_part i k) ≤ norm i
whole-most i k h = omega (arith, whole_part-norm k h i, parts-most k h i.terms, begun-most k (unsigned_abs i.constant) h)
