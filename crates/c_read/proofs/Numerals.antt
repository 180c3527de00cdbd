-- When digits are those of a number.
use Rattle.std.proofs.Common.{◌≡◌, ℕ, ◌+◌, ◌<◌, ◌≤◌, ◌^◌, ◌&&◌, Bool, true, false, nat_lt}
use Rattle.std.proofs.Common.{if◌then◌else◌, Option, Some, None, Result, Ok, Err, refl, sym, ap, ◌∙◌, arith}
use Rattle.std.specs.Prelude.{decimal}
use Rattle.std.specs.Str.{bytes_eq}
use Rattle.text_tokens.specs.Kinds.{Text}
use Rattle.text_tokens.specs.Numbers.{fitting, number, value_from}
use Rattle.reader_laws.specs.declared.fault.Fault.TheVariants.{BadSyntax}
use Rattle.c_read.specs.Names.{is_numeral, numeral}
use Rattle.c_read.specs.Parts.{is_printed}

at_least : (a b : ℕ) → nat_lt a b ≡ false → b ≤ a
at_least a b h = grind arith

not_below : (a b : ℕ) → b ≤ a → nat_lt a b ≡ false
not_below a b h = grind arith

is_less : (a b : ℕ) → a < b → nat_lt a b ≡ true
is_less a b h = grind arith

large : (n : ℕ) → fitting n ≡ None → 2 ^ 64 ≤ n
large n h = by (nat_lt n (2 ^ 64)) refl h
  where
    by : (b : Bool) → nat_lt n (2 ^ 64) ≡ b → (if b then Some n else None) ≡ None → 2 ^ 64 ≤ n
    by true e h = absurd cc
    by false e h = at_least n (2 ^ 64) e

some : (m n : ℕ) → fitting m ≡ Some n → m ≡ n
some m n h = by (nat_lt m (2 ^ 64)) h
  where
    by : (b : Bool) → (if b then Some m else None) ≡ Some n → m ≡ n
    by true h = cc
    by false h = absurd cc

and_false : (b : Bool) → (b && false) ≡ false
and_false true = refl
and_false false = refl

refused : (limit : ℕ) (t : Text) → is_numeral limit t ≡ false → numeral limit t ≡ Err BadSyntax
refused limit t h = λ j. if h j then Ok (value_from 0 t) else Err BadSyntax

pub numeral_none : (t : Text) (largest : ℕ) → largest < 2 ^ 64 → number t ≡ None → numeral (largest + 1) t ≡ Err BadSyntax
unfolding number
numeral_none t largest l h =
    let m = large (value_from 0 t) h in
    refused (largest + 1) t ((λ j. bytes_eq t (decimal (value_from 0 t)) && not_below (value_from 0 t) (largest + 1) (omega arith) j)
    ∙ and_false (bytes_eq t (decimal (value_from 0 t))))

pub numeral_other : (t : Text) (largest n : ℕ) → number t ≡ Some n → is_printed t n ≡ false → numeral (largest + 1) t ≡ Err BadSyntax
unfolding number
numeral_other t largest n h g =
    let e = some (value_from 0 t) n h in
    refused (largest + 1) t (λ j. ((ap (λ m. bytes_eq t (decimal m)) e ∙ g) j) && nat_lt (value_from 0 t) (largest + 1))

pub numeral_large : (t : Text) (largest n : ℕ) → number t ≡ Some n → largest < n → numeral (largest + 1) t ≡ Err BadSyntax
unfolding number
numeral_large t largest n h g =
    let e = some (value_from 0 t) n h in
    refused (largest + 1) t ((λ j. bytes_eq t (decimal (value_from 0 t)) && not_below (value_from 0 t) (largest + 1) (omega arith) j)
    ∙ and_false (bytes_eq t (decimal (value_from 0 t))))

pub numeral_some : (t : Text) (largest n : ℕ) → number t ≡ Some n → is_printed t n ≡ true → n ≤ largest → numeral (largest + 1) t ≡ Ok n
unfolding number
numeral_some t largest n h g l =
    let e = some (value_from 0 t) n h in
    (λ j. if (ap (λ m. bytes_eq t (decimal m)) e ∙ g) j && is_less (value_from 0 t) (largest + 1) (omega arith) j then Ok (value_from 0 t) else Err BadSyntax)
    ∙ ap (λ m. Ok m) e

pub numeral_zero : (t : Text) (limit : ℕ) → limit ≡ 0 → numeral limit t ≡ Err BadSyntax
numeral_zero t limit h = refused limit t ((λ j. bytes_eq t (decimal (value_from 0 t)) && not_below (value_from 0 t) limit (omega arith) j)
    ∙ and_false (bytes_eq t (decimal (value_from 0 t))))
