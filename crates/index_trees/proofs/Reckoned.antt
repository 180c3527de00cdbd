-- What index arithmetic in 64 signed bits gives is the value of the tree.
use Rattle.std.proofs.Common.{◌≡◌, ℕ, ◌/◌, ◌%◌, ◌^◌, refl, ap, ◌∙◌, Bool, true, false, nat_lt, if◌then◌else◌}
use Rattle.std.specs.Prelude.{ℤ, pos, negsuc, ◌+ℤ◌, ◌-ℤ◌, ◌*ℤ◌}
use Rattle.std.specs.Int.{int_div_euclid, int_rem_euclid}
use Rattle.loop_lang.specs.declared.index.Iexp.{Lit, Size, Loop}
use Rattle.loop_lang.specs.Syntax.{index_sum, index_difference, index_product, index_quotient, index_remainder, index_larger}
use Rattle.loop_lang.specs.Reckoning.{Reckoned, Value, Fails, Overflow, checked, larger, of_dividend, on_both, reckon, with_value}
use Rattle.index_trees.specs.Value.{ReckonedIsTheValue}

same_value : {x z : ℤ} → Value x ≡ Value z → z ≡ x
same_value e = cc

checked-is : (x z : ℤ) → checked x ≡ Value z → z ≡ x
checked-is (pos n) z h = by (nat_lt n (2 ^ 63)) h
  where
    by : (b : Bool) → (if b then Value (pos n) else Fails Overflow) ≡ Value z → z ≡ pos n
    by true h = same_value h
    by false h = absurd (cc)
checked-is (negsuc n) z h = by (nat_lt n (2 ^ 63)) h
  where
    by : (b : Bool) → (if b then Value (negsuc n) else Fails Overflow) ≡ Value z → z ≡ negsuc n
    by true h = same_value h
    by false h = absurd (cc)

-- both operands are reckoned
both-are : (f : ℤ → ℤ → Reckoned) (x y : Reckoned) (z : ℤ) → on_both f x y ≡ Value z → (a : ℤ) × (b : ℤ) × (x ≡ Value a) × (y ≡ Value b) × (f a b ≡ Value z)
both-are f (Value a) (Value b) z h = (a, b, refl, refl, h)
both-are f (Value a) (Fails k) z h = absurd (cc)
both-are f (Fails k) y z h = absurd (cc)

-- so is a dividend, which is not negative
dividend-is : (f : ℕ → ℕ) (x : Reckoned) (z : ℤ) → with_value x (of_dividend f) ≡ Value z → (n : ℕ) × (x ≡ Value (pos n)) × (z ≡ pos (f n))
dividend-is f (Value (pos n)) z h = (n, refl, same_value h)
dividend-is f (Value (negsuc n)) z h = absurd (cc)
dividend-is f (Fails k) z h = absurd (cc)

pub reckoned-value : ReckonedIsTheValue
reckoned-value (Lit n) s r z h = same_value h
reckoned-value (Size k) s r z h = same_value h
reckoned-value (Loop d) s r z h = same_value h
reckoned-value (index_sum a b) s r z h =
    let p = both-are (λ x y. checked (x +ℤ y)) (reckon a s r) (reckon b s r) z h in
    let x = reckoned-value a s r p.0 p.2 in
    let y = reckoned-value b s r p.1 p.3 in
    checked-is (p.0 +ℤ p.1) z p.4 ∙ (λ i. x i +ℤ y i)
reckoned-value (index_difference a b) s r z h =
    let p = both-are (λ x y. checked (x -ℤ y)) (reckon a s r) (reckon b s r) z h in
    let x = reckoned-value a s r p.0 p.2 in
    let y = reckoned-value b s r p.1 p.3 in
    checked-is (p.0 -ℤ p.1) z p.4 ∙ (λ i. x i -ℤ y i)
reckoned-value (index_product a b) s r z h =
    let p = both-are (λ x y. checked (x *ℤ y)) (reckon a s r) (reckon b s r) z h in
    let x = reckoned-value a s r p.0 p.2 in
    let y = reckoned-value b s r p.1 p.3 in
    checked-is (p.0 *ℤ p.1) z p.4 ∙ (λ i. x i *ℤ y i)
reckoned-value (index_quotient a k) s r z h =
    let p = dividend-is (λ n. n / k) (reckon a s r) z h in
    p.2 ∙ ap (λ x. int_div_euclid x (pos k)) (reckoned-value a s r (pos p.0) p.1)
reckoned-value (index_remainder a k) s r z h =
    let p = dividend-is (λ n. n % k) (reckon a s r) z h in
    p.2 ∙ ap (λ x. int_rem_euclid x (pos k)) (reckoned-value a s r (pos p.0) p.1)
reckoned-value (index_larger a b) s r z h =
    let p = both-are (λ x y. Value (larger x y)) (reckon a s r) (reckon b s r) z h in
    let x = reckoned-value a s r p.0 p.2 in
    let y = reckoned-value b s r p.1 p.3 in
    same_value p.4 ∙ (λ i. larger (x i) (y i))
