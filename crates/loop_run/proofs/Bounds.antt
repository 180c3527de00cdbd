-- The value of a well formed index expression is below 2^63 where all numbers fit.
use Rattle.std.proofs.Common.{◌≡◌, ◌<◌, ◌≤◌, ℕ, zero, suc, ◌^◌, Bool, true, false, ◌&&◌, nat_lt, if◌then◌else◌, List, [], ◌∷◌, ◌++◌, get_or, refl, arith}
use Rattle.std.specs.Prelude.{ℤ, pos, negsuc, ◌+ℤ◌, ◌-ℤ◌, ◌*ℤ◌, ◌/◌, ◌%◌, int_lt}
use Rattle.std.proofs.lemmas.Bool.{and_from, and_parts, lt-ltb, ltb-true}
use Rattle.std.proofs.Math.Nat.{div-le_self, mod-le}
use Rattle.loop_lang.specs.declared.index.Iexp.{Iexp}
use Rattle.loop_lang.specs.declared.index.Iexp as form
use Rattle.loop_lang.specs.Syntax.{index_sum, index_difference, index_product, index_quotient, index_remainder, index_larger}
use Rattle.loop_lang.specs.Reckoning.{Overflow, Reckoned, Value, Fails, checked, with_value, on_both, of_dividend, larger, reckon}
use Rattle.loop_lang.specs.Form.{is_literal, is_divisor, index_formed}
use Rattle.loop_run.specs.Fits.{all_fit}

-- a value is below 2^63
abbrev pub is_bound : Reckoned → Bool
is_bound (Value (pos n)) = nat_lt n (2 ^ 63)
is_bound (Value (negsuc n)) = true
is_bound (Fails k) = true

if-bound : (b : Bool) (n : ℕ) → nat_lt n (2 ^ 63) ≡ b → is_bound (if b then Value (pos n) else Fails Overflow) ≡ true
if-bound true n e = e
if-bound false n e = refl

if-negative : (b : Bool) (n : ℕ) → is_bound (if b then Value (negsuc n) else Fails Overflow) ≡ true
if-negative true n = refl
if-negative false n = refl

checked-bound : (z : ℤ) → is_bound (checked z) ≡ true
checked-bound (pos n) = if-bound (nat_lt n (2 ^ 63)) n refl
checked-bound (negsuc n) = if-negative (nat_lt n (2 ^ 63)) n

both-bound : (f : ℤ → ℤ → Reckoned) → ((a b : ℤ) → is_bound (f a b) ≡ true) → (x y : Reckoned) → is_bound (on_both f x y) ≡ true
both-bound f h (Value a) (Value b) = h a b
both-bound f h (Value a) (Fails k) = refl
both-bound f h (Fails k) y = refl

if-larger : (c : Bool) (a b : ℤ) → is_bound (Value a) ≡ true → is_bound (Value b) ≡ true → is_bound (Value (if c then a else b)) ≡ true
if-larger true a b p q = p
if-larger false a b p q = q

larger-bound : (x y : Reckoned) → is_bound x ≡ true → is_bound y ≡ true → is_bound (on_both (λ a b. Value (larger a b)) x y) ≡ true
larger-bound (Value a) (Value b) p q = if-larger (int_lt b a) a b p q
larger-bound (Value a) (Fails k) p q = refl
larger-bound (Fails k) y p q = refl

dividend-bound : (f : ℕ → ℕ) → ((n : ℕ) → f n ≤ n) → (x : Reckoned) → is_bound x ≡ true → is_bound (with_value x (of_dividend f)) ≡ true
dividend-bound f h (Value (pos n)) p = let l = ltb-true n (2 ^ 63) p in let g = h n in lt-ltb (f n) (2 ^ 63) (omega (arith, l, g))
dividend-bound f h (Value (negsuc n)) p = refl
dividend-bound f h (Fails k) p = refl

literal-bound : (n : ℤ) → is_literal n ≡ true → is_bound (Value n) ≡ true
literal-bound (pos n) h = h
literal-bound (negsuc n) h = refl

pub number-below : (ns : List ℕ) (k : ℕ) → all_fit ns ≡ true → nat_lt (get_or ns k 0) (2 ^ 63) ≡ true
number-below [] k h = refl
number-below (n ∷ ns) zero h = (and_parts (nat_lt n (2 ^ 63)) (all_fit ns) h).0
number-below (n ∷ ns) (suc k) h = number-below ns k (and_parts (nat_lt n (2 ^ 63)) (all_fit ns) h).1

module _ (sizes : ℕ) (in_length : Bool) (s r : List ℕ) (fs : all_fit s ≡ true) (fr : all_fit r ≡ true) where
  pub bound-is : (e : Iexp) (d : ℕ) → index_formed sizes in_length e d ≡ true → is_bound (reckon e s r) ≡ true
  bound-is (form.Lit n) d h = literal-bound n h
  bound-is (form.Size k) d h = number-below s k fs
  bound-is (form.Loop k) d h = number-below r k fr
  bound-is (index_sum a b) d h = both-bound (λ x y. checked (x +ℤ y)) (λ x y. checked-bound (x +ℤ y)) (reckon a s r) (reckon b s r)
  bound-is (index_difference a b) d h = both-bound (λ x y. checked (x -ℤ y)) (λ x y. checked-bound (x -ℤ y)) (reckon a s r) (reckon b s r)
  bound-is (index_product a b) d h = both-bound (λ x y. checked (x *ℤ y)) (λ x y. checked-bound (x *ℤ y)) (reckon a s r) (reckon b s r)
  bound-is (index_quotient a k) d h =
      dividend-bound (λ n. n / k) (λ n. div-le_self n k) (reckon a s r) (bound-is a d (and_parts (index_formed sizes in_length a d) (is_divisor k) h).0)
  bound-is (index_remainder a k) d h =
      dividend-bound (λ n. n % k) (λ n. mod-le n k) (reckon a s r) (bound-is a d (and_parts (index_formed sizes in_length a d) (is_divisor k) h).0)
  bound-is (index_larger a b) d h =
      let whole = (and_parts in_length (index_formed sizes in_length a d && index_formed sizes in_length b d) h).1 in
      let parts = and_parts (index_formed sizes in_length a d) (index_formed sizes in_length b d) whole in
      larger-bound (reckon a s r) (reckon b s r) (bound-is a d parts.0) (bound-is b d parts.1)

pub fits-one_more : (r : List ℕ) (i : ℕ) → all_fit r ≡ true → i < 2 ^ 63 → all_fit (r ++ i ∷ []) ≡ true
fits-one_more [] i h l = and_from (nat_lt i (2 ^ 63)) true (lt-ltb i (2 ^ 63) l) refl
fits-one_more (n ∷ ns) i h l =
    let parts = and_parts (nat_lt n (2 ^ 63)) (all_fit ns) h in
    and_from (nat_lt n (2 ^ 63)) (all_fit (ns ++ i ∷ [])) parts.0 (fits-one_more ns i parts.1 l)
