-- The decimal digits of a number are cut and read as that number.
use Rattle.std.proofs.Common.{◌≡◌, ℕ, ◌^◌, ◌<◌, Some, None, cond, ap, rules}
use Rattle.std.specs.Prelude.{decimal}
use Rattle.std.proofs.lemmas.Bool.{lt-ltb}
use Rattle.std.proofs.lemmas.Str.Parse.{IsNumeralModel, numerals_by_fold}
use Rattle.std.proofs.lemmas.Fmt.{digits_decimal, digits_value-decimal}
use Rattle.text_tokens.specs.Numbers.{number, value_from}
use Rattle.text_tokens.proofs.Lexed.{AreDigits}

pub own : IsNumeralModel AreDigits (value_from 0)
unfolding value_from
own = numerals_by_fold _ (search rules) value_from (search rules)

pub number_decimal : (n : ℕ) → n < 2 ^ 64 → number (decimal n) ≡ Some n
unfolding number
number_decimal n small =
    let v = digits_value-decimal own n small in
    rw v (ap (λ t. cond t (Some n) None) (lt-ltb n (2 ^ 64) small))

pub decimal_digits : (n : ℕ) → n < 2 ^ 64 → AreDigits (decimal n)
decimal_digits n small = digits_decimal own n small
