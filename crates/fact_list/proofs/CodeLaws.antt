-- What the code that makes facts rests on.
use Rattle.std.proofs.Common.{◌≡◌, ℕ, zero, suc, ◌+◌, ◌^◌, ◌<◌, ◌≤◌, List, [], ◌∷◌, map, refl, ap, sym, ◌∙◌, Bool, true, false, ◌&&◌, ◌++◌, nat_le, nat_lt}
use Rattle.std.proofs.Common.{Option, Some, None, arith}
use Rattle.std.specs.Prelude.{ℤ, pos, negsuc, if◌then◌else◌, slice_get}
use Rattle.std.specs.Int.RustNames.{unsigned_abs}
use Rattle.std.specs.Ordering.{int_eq}
use Rattle.std.proofs.lemmas.Bool.{and_from, and_parts}
use Rattle.affine_index.specs.Count.{atom_count, items_count, total}
use Rattle.affine_index.specs.Normal.{all_remainders, atom_good, coefficient_fits, coefficients_fit, has_items, holds_var, is_normal, is_ordered, is_remainder}
use Rattle.affine_index.specs.Normal.{is_short, items_good, layer_good, terms_fit}
use Rattle.affine_index.specs.Product.{product_of}
use Rattle.affine_index.proofs.CountLaws.{count-Div, count-Mul, count-Size, count-Var, count-items}
use Rattle.affine_index.proofs.EveryLaws.{every-Size, every-Var}
use Rattle.affine_index.proofs.Factors.{Ordered, mul_parts}
use Rattle.affine_index.proofs.Induction.{Each}
use Rattle.affine_index.proofs.PutOrdered.{divisor_bounds}
use Rattle.affine_index.proofs.ReadyLaws.{ordered-Div, out-Div, out-Mul, out-Size, out-Var}
use Rattle.affine_index.proofs.Sorted.{ordered-terms, terms-ordered}
use Rattle.affine_index.specs.declared.form.Atom.{Atom}
use Rattle.affine_index.specs.declared.form.Atom.TheVariants.{Size, Var, Div, Mul}
use Rattle.affine_index.specs.declared.form.Item.{Item}
use Rattle.affine_index.specs.declared.form.Items.{Items}
use Rattle.fact_list.specs.Facts.{NormalAtom, above_quotient, below_next_quotient, extent_at, where_normal, normal_product, layer_limits, limit_if, limits_of}
use Rattle.fact_list.specs.Facts.{quotient_limits, single, size_limits, var_limits}
use Rattle.fact_list.specs.declared.facts.Facts.{Facts}
use Rattle.fact_list.specs.declared.role.Side.TheVariants.{Lower, Upper}

-- a form that is kept
pub kept-ok : (x r : Items) → r ≡ x → is_normal r ≡ true → Some r ≡ where_normal x
kept-ok x r e h = by (is_normal x) (sym (ap is_normal e) ∙ h)
  where
    by : (b : Bool) → b ≡ true → Some r ≡ (if b then Some x else None)
    by true f = ap Some e
    by false f = absurd (cc)

none-kept : (x : Items) → is_normal x ≡ false → None ≡ where_normal x
none-kept x h = by (is_normal x) h
  where
    by : (b : Bool) → b ≡ false → None ≡ (if b then Some x else None)
    by true f = absurd (cc)
    by false f = refl

and-false : (a b c : Bool) → b ≡ false → (a && (b && c)) ≡ false
and-false true b c e = ap (λ z. z && c) e
and-false false b c e = refl

and-last : (a b c : Bool) → c ≡ false → (a && (b && c)) ≡ false
and-last true true c e = e
and-last true false c e = refl
and-last false b c e = refl

-- forms that are left out
pub kept-large : (x : Items) → coefficients_fit x ≡ false → None ≡ where_normal x
kept-large x h = none-kept x (and-false (is_ordered x) (coefficients_fit x) (is_short x) h)

pub kept-long : (x : Items) → is_short x ≡ false → None ≡ where_normal x
kept-long x h = none-kept x (and-last (is_ordered x) (coefficients_fit x) (is_short x) h)

-- a product of forms that do not both hold a variable
pub product-apart : (a b : Items) (o : Option Items) → (holds_var a && holds_var b) ≡ false → o ≡ where_normal (product_of a b) → o ≡ normal_product a b
product-apart a b o e h = by (holds_var a && holds_var b) e
  where
    by : (z : Bool) → z ≡ false → o ≡ (if z then None else where_normal (product_of a b))
    by true f = absurd (cc)
    by false f = h

pub product-both : (a b : Items) → (holds_var a && holds_var b) ≡ true → None ≡ normal_product a b
product-both a b e = by (holds_var a && holds_var b) e
  where
    by : (z : Bool) → z ≡ true → None ≡ (if z then None else where_normal (product_of a b))
    by true f = refl
    by false f = absurd (cc)

short_from : (n : ℕ) → n ≤ 128 → nat_le n 128 ≡ true
short_from n h = grind arith

short_is : (n : ℕ) → nat_le n 128 ≡ true → n ≤ 128
short_is n h = grind arith

-- a multiple of an atom of a normal form
pub single-normal : (c : ℤ) (a : Atom) (z : ℤ) → NormalAtom a → int_eq c (pos 0) ≡ false → coefficient_fits c ≡ true → coefficient_fits z ≡ true
    → is_normal (single c a z) ≡ true
single-normal c a z n e f g =
    let i = single c a z in
    and_from (is_ordered i) (coefficients_fit i && is_short i) (terms-ordered i ((tt, tt), ((n.0, e), tt)))
    (and_from (coefficients_fit i) (is_short i) (and_from (coefficient_fits c && true) (coefficient_fits z) (and_from (coefficient_fits c) true f refl) g)
    (short_from (items_count i) (omega (arith, count-items i, n.1))))

-- another constant
pub single-other : (c : ℤ) (a : Atom) (z : ℤ) → is_normal (single c a (pos 0)) ≡ true → coefficient_fits z ≡ true → is_normal (single c a z) ≡ true
single-other c a z h g =
    let i = single c a (pos 0) in
    let j = single c a z in
    let p = and_parts (is_ordered i) (coefficients_fit i && is_short i) h in
    let q = and_parts (coefficients_fit i) (is_short i) p.1 in
    let w = and_parts (terms_fit i.terms) (coefficient_fits (pos 0)) q.0 in
    and_from (is_ordered j) (coefficients_fit j && is_short j) (terms-ordered j (ordered-terms i p.0))
    (and_from (coefficients_fit j) (is_short j) (and_from (terms_fit i.terms) (coefficient_fits z) w.0 g)
    (ap (λ (n : ℕ). nat_le n 128) (count-items j ∙ sym (count-items i)) ∙ q.1))

large_is : (z : ℤ) → 2 ^ 40 < unsigned_abs z → coefficient_fits z ≡ false
large_is z h = grind arith

small_is : (z : ℤ) → unsigned_abs z ≤ 2 ^ 40 → coefficient_fits z ≡ true
small_is z h = grind arith

-- a constant that is too large
pub single-large : (c : ℤ) (a : Atom) (z : ℤ) → 2 ^ 40 < unsigned_abs z → None ≡ where_normal (single c a z)
single-large c a z h = kept-large (single c a z) (last (coefficient_fits c && true) (coefficient_fits z) (large_is z h))
  where
    last : (a b : Bool) → b ≡ false → (a && b) ≡ false
    last true b e = e
    last false b e = refl

pub single-small : (c : ℤ) (a : Atom) (z : ℤ) → is_normal (single c a (pos 0)) ≡ true → unsigned_abs z ≤ 2 ^ 40 → is_normal (single c a z) ≡ true
single-small c a z h l = single-other c a z h (small_is z l)

-- the atoms of a size and of a variable
pub size-atom : (k : ℕ) → NormalAtom (Size k)
size-atom k = (every-Size atom_good items_good k ∙ ap layer_good (out-Size k), omega (arith, count-Size k))

pub var-atom : (k : ℕ) → NormalAtom (Var k)
var-atom k = (every-Var atom_good items_good k ∙ ap layer_good (out-Var k), omega (arith, count-Var k))

pub size-once : (k : ℕ) → is_normal (single (pos 1) (Size k) (pos 0)) ≡ true
size-once k = single-normal (pos 1) (Size k) (pos 0) (size-atom k) refl refl refl

pub size-less : (k : ℕ) → is_normal (single (negsuc 0) (Size k) (pos 0)) ≡ true
size-less k = single-normal (negsuc 0) (Size k) (pos 0) (size-atom k) refl refl refl

pub var-next : (k : ℕ) → is_normal (single (pos 1) (Var k) (pos 1)) ≡ true
var-next k = single-normal (pos 1) (Var k) (pos 1) (var-atom k) refl refl refl

remainder_fits : (k : ℕ) (c : ℤ) → k ≤ 2147483647 → is_remainder k c ≡ true → coefficient_fits c ≡ true
remainder_fits k (pos n) l h = small_is (pos n) (omega (arith, below n k h))
  where
    below : (n k : ℕ) → nat_lt n k ≡ true → n < k
    below n k h = grind arith
remainder_fits k (negsuc n) l h = absurd (cc)

remainders_fit : (k : ℕ) (ts : List (Item Atom)) → k ≤ 2147483647 → all_remainders k ts ≡ true → terms_fit ts ≡ true
remainders_fit k [] l h = refl
remainders_fit k (t ∷ ts) l h =
    let p = and_parts (is_remainder k t.coefficient) (all_remainders k ts) h in
    and_from (coefficient_fits t.coefficient) (terms_fit ts) (remainder_fits k t.coefficient l p.0) (remainders_fit k ts l p.1)

pub record DividendParts (i : Items) (k : ℕ) : Type 0 where
  pub some : 0 < k
  pub most : k ≤ 2147483647
  pub normal : is_normal i ≡ true

-- a quotient of a normal form is one of a normal form
pub dividend : (i : Items) (k : ℕ) → NormalAtom (Div i k) → DividendParts i k
dividend i k n =
    let parts = ordered-Div i k n.0 in
    let bounds = divisor_bounds i k parts.0 in
    let a = and_parts (nat_le 2 k) _ parts.0 in
    let b = and_parts (nat_le k 2147483647) _ a.1 in
    let c = and_parts (has_items i.terms) _ b.1 in
    let d = and_parts (all_remainders k i.terms) (is_remainder k i.constant) c.1 in
    record {
      some = bounds.0;
      most = bounds.1;
      normal = and_from (is_ordered i) (coefficients_fit i && is_short i) parts.1
          (and_from (coefficients_fit i) (is_short i)
          (and_from (terms_fit i.terms) (coefficient_fits i.constant) (remainders_fit k i.terms bounds.1 d.0) (remainder_fits k i.constant bounds.1 d.1))
          (short_from (items_count i) (omega (arith, count-Div i k, n.1))));
    }

pub dividend-normal : (i : Items) (k : ℕ) → NormalAtom (Div i k) → is_normal i ≡ true
dividend-normal i k n = (dividend i k n).normal

positive_other : (k : ℕ) → 0 < k → int_eq (pos k) (pos 0) ≡ false
positive_other k h = grind arith

pub quotient-times : (i : Items) (k z : ℕ) → NormalAtom (Div i k) → z < k + 1 → is_normal (single (pos k) (Div i k) (pos z)) ≡ true
quotient-times i k z n h =
    let d = dividend i k n in
    single-normal (pos k) (Div i k) (pos z) n (positive_other k d.some) (small_is (pos k) (omega (arith, d.most))) (small_is (pos z) (omega (arith, d.most, h)))

-- the two bounds of a quotient by a number above 0
pub quotient-limits_is : (i : Items) (k : ℕ) → 0 < k
    → quotient_limits i k ≡ limit_if Upper (where_normal (above_quotient i k)) ++ limit_if Lower (where_normal (below_next_quotient i k))
quotient-limits_is i zero h = absurd (omega arith)
quotient-limits_is i (suc k) h = refl

pub above-none : (i : Items) (k : ℕ) → NormalAtom (Div i k) → 0 < k
above-none i k n = (dividend i k n).some

-- the bounds of an atom by its kind
pub limits-Size : (f : Facts) (k : ℕ) → limits_of f (Size k) ≡ size_limits k (slice_get f.sizes k)
limits-Size f k = ap (layer_limits f) (out-Size k)

pub limits-Var : (f : Facts) (v : ℕ) → limits_of f (Var v) ≡ var_limits v (extent_at f.path v)
limits-Var f v = ap (layer_limits f) (out-Var v)

pub limits-Div : (f : Facts) (i : Items) (k : ℕ) → limits_of f (Div i k) ≡ quotient_limits i k
limits-Div f i k = ap (layer_limits f) (out-Div i k)

pub limits-Mul : (f : Facts) (fs : List Atom) → limits_of f (Mul fs) ≡ []
limits-Mul f fs = ap (layer_limits f) (out-Mul fs)

-- the factors of a product of a normal form
each-normal : (fs : List Atom) → Each Ordered fs → total (map atom_count fs) ≤ 128 → Each NormalAtom fs
each-normal [] o h = tt
each-normal (f ∷ fs) o h = ((o.0, omega arith), each-normal fs o.1 (omega arith))

pub factors-normal : (fs : List Atom) → NormalAtom (Mul fs) → Each NormalAtom fs
factors-normal fs n = each-normal fs (mul_parts fs n.0).good.ordered (omega (arith, count-Mul fs, n.1))

-- a normal form is in order, and holds few atoms
pub form-short : (i : Items) → is_normal i ≡ true → (is_ordered i ≡ true) × (items_count i ≤ 128)
form-short i h =
    let a = and_parts (is_ordered i) (coefficients_fit i && is_short i) h in
    let b = and_parts (coefficients_fit i) (is_short i) a.1 in
    (a.0, short_is (items_count i) b.1)

pub ruleset form_laws = (single-small, single-large, kept-ok, kept-large, kept-long)

pub ruleset limit_laws = (size-once, size-less, var-next, limits-Size, limits-Var, limits-Div, limits-Mul, dividend-normal, above-none)
