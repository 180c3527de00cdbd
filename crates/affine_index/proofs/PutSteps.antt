-- What the calls owe one another where forms are put for variables.
use Rattle.std.proofs.Common.{◌≡◌, ℕ, zero, suc, ◌+◌, ◌*◌, ◌^◌, ◌<◌, ◌≤◌, ◌⊎◌, inl, inr, List, [], ◌∷◌, length, map, drop, get_or, refl, ap, sym, ◌∙◌, subst}
use Rattle.std.proofs.Common.{true, arith, nat_le}
use Rattle.std.specs.Prelude.{ℤ, pos, negsuc}
use Rattle.std.specs.Int.RustNames.{unsigned_abs}
use Rattle.std.proofs.lemmas.Bool.{and_from, and_parts}
use Rattle.affine_index.specs.Count.{atom_count, items_count, terms_count, total}
use Rattle.affine_index.specs.Every.{terms_every}
use Rattle.affine_index.specs.Form.{literal_form}
use Rattle.affine_index.specs.Normal.{all_remainders, atom_good, atom_is_ordered, coefficient_fits, coefficients_fit, has_items, is_normal, is_ordered}
use Rattle.affine_index.specs.Normal.{is_remainder, is_short, items_good, terms_fit}
use Rattle.affine_index.specs.Product.{product_of, product_of_all}
use Rattle.affine_index.specs.Put.{put_all, put_atom, put_terms}
use Rattle.affine_index.specs.Sum.{scaled, sum_of}
use Rattle.affine_index.specs.Wide.{norm}
use Rattle.affine_index.proofs.CountLaws.{count-Div, count-Mul}
use Rattle.affine_index.proofs.Factors.{OneVar, Ordered, mul_parts}
use Rattle.affine_index.proofs.Induction.{Each}
use Rattle.affine_index.proofs.Lists.{drop-item}
use Rattle.affine_index.proofs.NormLaws.{scaled-norm}
use Rattle.affine_index.proofs.PutLaws.{put-items}
use Rattle.affine_index.proofs.PutNorm.{atom_small, factors_norm, fit_is, normal-norm, normal_parts, terms_most}
use Rattle.affine_index.proofs.PutOrdered.{divisor_bounds}
use Rattle.affine_index.proofs.ReadyLaws.{ordered-Div, ordered-items}
use Rattle.affine_index.proofs.Sorted.{EachItem, ordered-terms}
use Rattle.affine_index.specs.declared.form.Atom.{Atom}
use Rattle.affine_index.specs.declared.form.Atom.TheVariants.{Div, Mul}
use Rattle.affine_index.specs.declared.form.Item.{Item}
use Rattle.affine_index.specs.declared.form.Items.{Items}

remainder_fits : (k : ℕ) (z : ℤ) → k ≤ 2147483647 → is_remainder k z ≡ true → coefficient_fits z ≡ true
remainder_fits k (pos n) h r = grind arith
remainder_fits k (negsuc n) h r = absurd (cc)

remainders_fit : (k : ℕ) (ts : List (Item Atom)) → k ≤ 2147483647 → all_remainders k ts ≡ true → terms_fit ts ≡ true
remainders_fit k [] h r = refl
remainders_fit k (t ∷ ts) h r =
    let rs = and_parts (is_remainder k t.coefficient) (all_remainders k ts) r in
    and_from (coefficient_fits t.coefficient) (terms_fit ts) (remainder_fits k t.coefficient h rs.0) (remainders_fit k ts h rs.1)

short_from : (n : ℕ) → n ≤ 128 → nat_le n 128 ≡ true
short_from n h = grind arith

-- the dividend of a short normal form is a normal form
pub dividend-normal : (i : Items) (k : ℕ) → Ordered (Div i k) → atom_count (Div i k) ≤ 128 → is_normal i ≡ true
dividend-normal i k o n =
    let parts = ordered-Div i k o in
    let bounds = divisor_bounds i k parts.0 in
    let a = and_parts (nat_le 2 k) _ parts.0 in
    let b = and_parts (nat_le k 2147483647) _ a.1 in
    let c = and_parts (has_items i.terms) _ b.1 in
    let d = and_parts (all_remainders k i.terms) (is_remainder k i.constant) c.1 in
    let few : items_count i ≤ 128 = omega (arith, count-Div i k, n) in
    and_from (is_ordered i) _ parts.1 (and_from (coefficients_fit i) (is_short i)
    (and_from (terms_fit i.terms) (coefficient_fits i.constant) (remainders_fit k i.terms bounds.1 d.0) (remainder_fits k i.constant bounds.1 d.1))
    (short_from (items_count i) few))

pub divisor-positive : (i : Items) (k : ℕ) → Ordered (Div i k) → 0 < k
divisor-positive i k o = (divisor_bounds i k (ordered-Div i k o).0).0

pub factors-few : (fs : List Atom) → atom_count (Mul fs) ≤ 128 → total (map atom_count fs) ≤ 128
factors-few fs h = omega (arith, count-Mul fs, h)

each-at : (P : Atom → Type 0) (fs : List Atom) (at : ℕ) (d : Atom) → Each P fs → at < length fs → P (get_or fs at d)
each-at P [] at d h lt = absurd (omega arith)
each-at P (f ∷ fs) zero d h lt = h.0
each-at P (f ∷ fs) (suc at) d h lt = each-at P fs at d h.1 (omega arith)

pub factor-ordered : (fs : List Atom) (at : ℕ) (x : Atom) → Ordered (Mul fs) → at < length fs → x ≡ get_or fs at x → Ordered x
factor-ordered fs at x o h e = subst Ordered (sym e) (each-at Ordered fs at x (mul_parts fs o).good.ordered h)

total-drop : (fs : List Atom) (at : ℕ) → total (map atom_count (drop at fs)) ≤ total (map atom_count fs)
total-drop [] zero = omega arith
total-drop [] (suc at) = omega arith
total-drop (f ∷ fs) zero = omega arith
total-drop (f ∷ fs) (suc at) = omega (arith, total-drop fs at)

pub factor-few : (fs : List Atom) (at : ℕ) (x : Atom) → total (map atom_count fs) ≤ 128 → at < length fs → x ≡ get_or fs at x → atom_count x ≤ 128
factor-few fs at x n h e = omega (arith, total-drop fs at, ap (λ gs. total (map atom_count gs)) (drop-item fs at x h e), n)

each-drop : (P : Atom → Type 0) (fs : List Atom) (at : ℕ) → Each P fs → Each P (drop at fs)
each-drop P [] zero h = tt
each-drop P [] (suc at) h = tt
each-drop P (f ∷ fs) zero h = h
each-drop P (f ∷ fs) (suc at) h = each-drop P fs at h.1

one-drop : (fs : List Atom) (at : ℕ) → OneVar fs → OneVar (drop at fs)
one-drop [] zero h = tt
one-drop [] (suc at) h = tt
one-drop (f ∷ fs) zero h = h
one-drop (f ∷ fs) (suc at) h = one-drop fs at h.1

pub product-next : (f : ℕ → Items) (fs : List Atom) (at : ℕ) (x : Atom) (form forms : Items) → at < length fs → x ≡ get_or fs at x → form ≡ put_atom f x
    → forms ≡ product_of_all (map (put_atom f) (drop (at + 1) fs))
    → product_of form forms ≡ product_of_all (map (put_atom f) (drop at fs))
product-next f fs at x form forms h e p q = (λ k. product_of (p k) (q k)) ∙ ap (λ gs. product_of_all (map (put_atom f) gs)) (sym (drop-item fs at x h e))

most : (m n c d : ℕ) → m ≤ c → n ≤ d → m * n ≤ c * d
most m n c d p q = grind arith

module _ (f : ℕ → Items) (normal : (v : ℕ) → is_normal (f v) ≡ true) where
  two : 2 ≤ 2 ^ 48
  two = omega arith

  small : (v : ℕ) → norm (f v) ≤ 2 ^ 48
  small v = normal-norm (f v) (normal v)

  pub put_atom-norm : (a : Atom) → Ordered a → atom_count a ≤ 128 → norm (put_atom f a) ≤ 2 ^ 55
  put_atom-norm a o n = omega (arith, atom_small f (2 ^ 48) two small a o, n)

  all_small : (fs : List Atom) → Each Ordered fs → Each (λ a. Ordered a → norm (put_atom f a) ≤ atom_count a * 2 ^ 48) fs
  all_small [] o = tt
  all_small (g ∷ gs) o = (atom_small f (2 ^ 48) two small g, all_small gs o.1)

  pub factors-small : (fs : List Atom) (at : ℕ) → Ordered (Mul fs) → total (map atom_count fs) ≤ 128
      → norm (product_of_all (map (put_atom f) (drop at fs))) ≤ 2 ^ 55
  factors-small fs at o n =
      let parts = mul_parts fs o in
      let os = each-drop Ordered fs at parts.good.ordered in
      by (factors_norm f (2 ^ 48) two small (drop at fs) os (one-drop fs at parts.one) (all_small (drop at fs) os))
    where
      by : (norm (product_of_all (map (put_atom f) (drop at fs))) ≤ 1)
          ⊎ (norm (product_of_all (map (put_atom f) (drop at fs))) ≤ total (map atom_count (drop at fs)) * 2 ^ 48)
          → norm (product_of_all (map (put_atom f) (drop at fs))) ≤ 2 ^ 55
      by (inl h) = omega (arith, h)
      by (inr h) = omega (arith, h, total-drop fs at, n)

  pub product-room : (form forms : Items) (a : Atom) (fs : List Atom) (at : ℕ) → form ≡ put_atom f a → forms ≡ product_of_all (map (put_atom f) (drop at fs))
      → Ordered a → atom_count a ≤ 128 → Ordered (Mul fs) → total (map atom_count fs) ≤ 128
      → (norm form * norm forms < 2 ^ 127) × (norm forms < 2 ^ 127)
  product-room form forms a fs at p q oa na o n =
      let first : norm form ≤ 2 ^ 55 = omega (arith, ap norm p, put_atom-norm a oa na) in
      let second : norm forms ≤ 2 ^ 55 = omega (arith, ap norm q, factors-small fs at o n) in
      let both : norm form * norm forms ≤ 2 ^ 55 * 2 ^ 55 = most (norm form) (norm forms) (2 ^ 55) (2 ^ 55) first second in
      (omega (arith, both), omega (arith, second))

  coefficients-most : (ts : List (Item Atom)) → terms_fit ts ≡ true → EachItem (λ t. unsigned_abs t.coefficient ≤ 2 ^ 40) ts
  coefficients-most [] h = tt
  coefficients-most (t ∷ ts) h = let hs = and_parts (coefficient_fits t.coefficient) (terms_fit ts) h in (fit_is t.coefficient hs.0, coefficients-most ts hs.1)

  pub put_all-norm : (i : Items) → is_normal i ≡ true → norm (put_all f i) ≤ 2 ^ 96
  put_all-norm i h =
      let p = normal_parts i h in
      omega (
        arith,
        ap norm (put-items f i),
        terms_most f (2 ^ 48) two small (2 ^ 40) i.terms (literal_form i.constant) (coefficients-most i.terms p.fits) (ordered-terms i p.ordered).1,
        p.constant,
        p.short,
      )

  pub dividend-room : (i form : Items) → is_normal i ≡ true → form ≡ put_all f i → norm form + 1 < 2 ^ 127
  dividend-room i form h e = omega (arith, ap norm e, put_all-norm i h)

every-drop : (ts : List (Item Atom)) (at : ℕ) → terms_every atom_good items_good ts ≡ true → terms_every atom_good items_good (drop at ts) ≡ true
every-drop [] zero h = h
every-drop [] (suc at) h = h
every-drop (t ∷ ts) zero h = h
every-drop (t ∷ ts) (suc at) h = every-drop ts at (and_parts (atom_is_ordered t.atom) (terms_every atom_good items_good ts) h).1

fit-drop : (ts : List (Item Atom)) (at : ℕ) → terms_fit ts ≡ true → terms_fit (drop at ts) ≡ true
fit-drop [] zero h = h
fit-drop [] (suc at) h = h
fit-drop (t ∷ ts) zero h = h
fit-drop (t ∷ ts) (suc at) h = fit-drop ts at (and_parts (coefficient_fits t.coefficient) (terms_fit ts) h).1

count-drop : (ts : List (Item Atom)) (at : ℕ) → terms_count (drop at ts) ≤ terms_count ts
count-drop [] zero = omega arith
count-drop [] (suc at) = omega arith
count-drop (t ∷ ts) zero = omega arith
count-drop (t ∷ ts) (suc at) = omega (arith, count-drop ts at)

-- what is known of an item of a list
pub record ItemFacts (t : Item Atom) : Type 0 where
  pub ordered : Ordered t.atom
  pub coefficient : unsigned_abs t.coefficient ≤ 2 ^ 40
  pub short : atom_count t.atom ≤ 128

pub item_facts : (ts : List (Item Atom)) (at : ℕ) (t : Item Atom) → at < length ts → t ≡ get_or ts at t → terms_every atom_good items_good ts ≡ true
    → terms_fit ts ≡ true → terms_count ts ≤ 128 → ItemFacts t
item_facts ts at t h e o f n =
    let d = drop-item ts at t h e in
    let os = and_parts (atom_is_ordered t.atom) (terms_every atom_good items_good (drop (at + 1) ts))
    (sym (ap (terms_every atom_good items_good) d) ∙ every-drop ts at o) in
    let fs = and_parts (coefficient_fits t.coefficient) (terms_fit (drop (at + 1) ts)) (sym (ap terms_fit d) ∙ fit-drop ts at f) in
    record { ordered = os.0; coefficient = fit_is t.coefficient fs.0; short = omega (arith, count-drop ts at, ap terms_count d, n) }

pub put_terms-next : (f : ℕ → Items) (ts : List (Item Atom)) (at : ℕ) (t : Item Atom) (start : Items) → at < length ts → t ≡ get_or ts at t
    → put_terms f (drop (at + 1) ts) (sum_of start (scaled t.coefficient (put_atom f t.atom))) ≡ put_terms f (drop at ts) start
put_terms-next f ts at t start h e = ap (λ us. put_terms f us start) (sym (drop-item ts at t h e))

-- how large the sum of items so far may be, with those that are left
abbrev pub room : List (Item Atom) → ℕ
room ts = 2 ^ 40 * (terms_count ts * 2 ^ 48)

module _ (f : ℕ → Items) (normal : (v : ℕ) → is_normal (f v) ≡ true) where
  pub item-size : (t : Item Atom) → ItemFacts t → norm (scaled t.coefficient (put_atom f t.atom)) ≤ 2 ^ 40 * (atom_count t.atom * 2 ^ 48)
  item-size t g =
      omega (
        arith,
        scaled-norm t.coefficient (put_atom f t.atom),
        most (unsigned_abs t.coefficient) (norm (put_atom f t.atom)) (2 ^ 40) (atom_count t.atom * 2 ^ 48) g.coefficient
            (atom_small f (2 ^ 48) (omega arith) (λ v. normal-norm (f v) (normal v)) t.atom g.ordered),
      )

  pub room-next : (ts : List (Item Atom)) (at : ℕ) (t : Item Atom) → at < length ts → t ≡ get_or ts at t → ItemFacts t
      → norm (scaled t.coefficient (put_atom f t.atom)) + room (drop (at + 1) ts) ≤ room (drop at ts)
  room-next ts at t h e g = omega (arith, item-size t g, ap terms_count (drop-item ts at t h e))

  pub scaled-fits : (t : Item Atom) (form : Items) → ItemFacts t → form ≡ put_atom f t.atom → unsigned_abs t.coefficient * norm form < 2 ^ 127
  scaled-fits t form g e =
      omega (
        arith,
        ap (λ i. unsigned_abs t.coefficient * norm i) e,
        most (unsigned_abs t.coefficient) (norm (put_atom f t.atom)) (2 ^ 40) (2 ^ 55) g.coefficient (put_atom-norm f normal t.atom g.ordered g.short),
      )

pub product-drop : (f : ℕ → Items) (fs : List Atom) {m n : ℕ} → m ≡ n
    → product_of_all (map (put_atom f) (drop m fs)) ≡ product_of_all (map (put_atom f) (drop n fs))
product-drop f fs e = ap (λ n. product_of_all (map (put_atom f) (drop n fs))) e

-- what is known of the items of a normal form
pub form-terms : (i : Items) → is_normal i ≡ true → (terms_every atom_good items_good i.terms ≡ true) × (terms_fit i.terms ≡ true)
    × (coefficient_fits i.constant ≡ true) × (terms_count i.terms ≤ 128)
form-terms i h =
    let a = and_parts (is_ordered i) _ h in
    let b = and_parts (coefficients_fit i) (is_short i) a.1 in
    let c = and_parts (terms_fit i.terms) (coefficient_fits i.constant) b.0 in
    ((ordered-items i a.0).1, c.0, c.1, (normal_parts i h).short)
