-- What single words of a script mean, and the limits of its numbers.
use Rattle.std.specs.Prelude.{ℕ, ◌^◌, ◌||◌, nat_lt, if◌then◌else◌, List, [], ◌∷◌, ◌++◌, Option, Some, None, Result, Ok, Err, codes}
use Rattle.std.specs.Str.{bytes_eq}
use Rattle.text_tokens.specs.Kinds.{Text}
use Rattle.text_tokens.specs.Numbers.{number}
use Rattle.reader_laws.specs.declared.fault.Fault.{Fault}
use Rattle.reader_laws.specs.declared.fault.Fault.TheVariants.{BadSyntax, NumberTooLarge}

-- the version, which has one spelling
abbrev pub version_one : Text → Result (Unit {0}) Fault
version_one t = if bytes_eq t (codes "1") then Ok tt else Err BadSyntax

abbrev pub within : ℕ → ℕ → Option ℕ → Result ℕ Fault
within low high None = Err NumberTooLarge
within low high (Some n) = if nat_lt n low || nat_lt high n then Err NumberTooLarge else Ok n

-- a number from low to high
abbrev pub number_in : ℕ → ℕ → Text → Result ℕ Fault
number_in low high t = within low high (number t)

-- a number of an index
abbrev pub word_value : Text → Result ℕ Fault
word_value = number_in 0 18446744073709551615

-- a number of a path, of a goal, or of a fact
abbrev pub count_value : Text → Result ℕ Fault
count_value = number_in 0 4294967295

-- a divisor of an index
abbrev pub divisor_value : Text → Result ℕ Fault
divisor_value = number_in 1 2147483647

-- the size of a multiplier
abbrev pub multiplier_value : Text → Result ℕ Fault
multiplier_value = number_in 0 2147483648

-- how many steps a script may have
unfoldable pub most_steps : ℕ
most_steps = 1000

-- more items of a list, and more operators of a chain, than a text has
unfoldable pub most_items : ℕ
most_items = 2 ^ 63

-- one item more, at the end
abbrev pub with_last : {A : Type 0} → List A → A → List A
with_last xs x = xs ++ x ∷ []
