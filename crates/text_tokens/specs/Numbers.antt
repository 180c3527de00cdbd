-- The value of a number's digits.
use Rattle.std.specs.Prelude.{ℕ, ◌+◌, ◌-◌, ◌*◌, ◌^◌, if◌then◌else◌, [], ◌∷◌, Option, Some, None, nat_lt}
use Rattle.text_tokens.specs.Kinds.{Text}

-- the value of digits that follow this value
unfoldable pub value_from : ℕ → Text → ℕ
value_from n [] = n
value_from n (b ∷ z) = value_from (n * 10 + (b - 48)) z

-- a number of 64 bits
abbrev pub fitting : ℕ → Option ℕ
fitting n = if nat_lt n (2 ^ 64) then Some n else None

-- the value of these digits, if it is below 2^64
unfoldable pub number : Text → Option ℕ
number z = fitting (value_from 0 z)
