-- What index arithmetic in 64 signed bits gives, and whether tests hold.
use Rattle.std.specs.Prelude.{ℕ, ◌/◌, ◌%◌, ◌^◌, ℤ, pos, negsuc, ◌+ℤ◌, ◌-ℤ◌, ◌*ℤ◌, Bool, if◌then◌else◌, not, nat_lt, int_lt, ◌&&◌, List, [], ◌∷◌, get_or}
use Rattle.affine_index.specs.declared.cond.Rel.{Rel}
use Rattle.affine_index.specs.declared.cond.Rel.TheVariants.{Lt, Le, Gt, Ge, Eq}
use Rattle.loop_lang.specs.declared.index.Iexp.{Iexp, Lit, Size, Loop}
use Rattle.loop_lang.specs.declared.index.Test.{Test}
use Rattle.loop_lang.specs.Syntax.{index_sum, index_difference, index_product, index_quotient, index_remainder, index_larger}

-- what index arithmetic may meet
pub data Trouble : Type 0 where
  -- a result that leaves 64 signed bits
  Overflow : Trouble
  NegativeDividend : Trouble

pub data Reckoned : Type 0 where
  Value : ℤ → Reckoned
  Fails : Trouble → Reckoned

-- a result, where it fits 64 signed bits
abbrev pub checked : ℤ → Reckoned
checked (pos n) = if nat_lt n (2 ^ 63) then Value (pos n) else Fails Overflow
checked (negsuc n) = if nat_lt n (2 ^ 63) then Value (negsuc n) else Fails Overflow

abbrev pub with_value : Reckoned → (ℤ → Reckoned) → Reckoned
with_value (Value a) f = f a
with_value (Fails k) f = Fails k

-- an operator on the left operand, then the right one
abbrev pub on_both : (ℤ → ℤ → Reckoned) → Reckoned → Reckoned → Reckoned
on_both f x y = with_value x (λ a. with_value y (λ b. f a b))

-- a quotient or remainder, of a dividend that is not negative
abbrev pub of_dividend : (ℕ → ℕ) → ℤ → Reckoned
of_dividend f (pos n) = Value (pos (f n))
of_dividend f (negsuc n) = Fails NegativeDividend

abbrev pub larger : ℤ → ℤ → ℤ
larger a b = if int_lt b a then a else b

-- the value of an index expression, for sizes s and loop variables r from the outermost
abbrev pub reckon : Iexp → List ℕ → List ℕ → Reckoned
reckon (Lit n) s r = Value n
reckon (Size k) s r = Value (pos (get_or s k 0))
reckon (Loop d) s r = Value (pos (get_or r d 0))
reckon (index_sum a b) s r = on_both (λ x y. checked (x +ℤ y)) (reckon a s r) (reckon b s r)
reckon (index_difference a b) s r = on_both (λ x y. checked (x -ℤ y)) (reckon a s r) (reckon b s r)
reckon (index_product a b) s r = on_both (λ x y. checked (x *ℤ y)) (reckon a s r) (reckon b s r)
reckon (index_quotient a k) s r = with_value (reckon a s r) (of_dividend (λ n. n / k))
reckon (index_remainder a k) s r = with_value (reckon a s r) (of_dividend (λ n. n % k))
reckon (index_larger a b) s r = on_both (λ x y. Value (larger x y)) (reckon a s r) (reckon b s r)

-- whether tests hold
pub data Verdict : Type 0 where
  Holds : Verdict
  IsFalse : Verdict
  Breaks : Trouble → Verdict

abbrev pub compare : Rel → ℤ → ℤ → Bool
compare Lt a b = int_lt a b
compare Le a b = not (int_lt b a)
compare Gt a b = int_lt b a
compare Ge a b = not (int_lt a b)
compare Eq a b = not (int_lt a b) && not (int_lt b a)

abbrev pub compared : Rel → Reckoned → Reckoned → Verdict
compared rel (Fails k) y = Breaks k
compared rel (Value a) (Fails k) = Breaks k
compared rel (Value a) (Value b) = if compare rel a b then Holds else IsFalse

abbrev pub and_also : Verdict → Verdict → Verdict
and_also Holds v = v
and_also IsFalse v = IsFalse
and_also (Breaks k) v = Breaks k

-- the tests in order, up to the first that is false or meets a trouble
abbrev pub tested : List Test → List ℕ → List ℕ → Verdict
tested [] s r = Holds
tested (c ∷ cs) s r = and_also (compared c.rel (reckon c.left s r) (reckon c.right s r)) (tested cs s r)
