-- Given text, as a relation of words to sizes and inputs: for each size, then for each input, `NAME : NUMBERS ;`.
use Rattle.std.specs.Prelude.{◌≡◌, ℕ, if◌then◌else◌, List, [], ◌∷◌, Option, Some, None, Result, Ok, Err}
use Rattle.std.specs.Str.{IsUtf8, bytes_eq}
use Rattle.text_tokens.specs.declared.kind.Kind.TheVariants as k
use Rattle.text_tokens.specs.declared.kind.Language.TheVariants as language
use Rattle.text_tokens.specs.Kinds.{Text}
use Rattle.text_tokens.specs.Numbers.{number}
use Rattle.text_tokens.specs.Words.{Word, words_of}
use Rattle.reader_laws.specs.declared.fault.Fault.{Fault}
use Rattle.reader_laws.specs.declared.fault.Fault.TheVariants.{BadSyntax, NumberTooLarge}
use Rattle.reader_laws.specs.Steps.{no_value}
use Rattle.reader_laws.specs.Grammar.{IsWordOf, IsNothing, Both}
use Rattle.loop_run.specs.declared.given.Given.{Given}

-- this name and no other
abbrev pub named : Text → Text → Result (Unit {0}) Fault
named name t = if bytes_eq t name then Ok tt else Err BadSyntax

abbrev pub if_fitting : Option ℕ → Result ℕ Fault
if_fitting (Some n) = Ok n
if_fitting None = Err NumberTooLarge

-- a number below 2^64; zeros may stand in front
abbrev pub word_value : Text → Result ℕ Fault
word_value t = if_fitting (number t)

-- numbers, one word each
abbrev pub AreNumbers : List Word → List ℕ → Type 0
AreNumbers [] [] = Unit {0}
AreNumbers [] (n ∷ ns) = ⊥
AreNumbers (w ∷ ws) [] = ⊥
AreNumbers (w ∷ ws) (n ∷ ns) = (w.kind ≡ k.Number) × (word_value w.text ≡ Ok n) × AreNumbers ws ns

-- `NAME :`
abbrev pub IsHeading : Text → List Word → Unit {0} → Type 0
IsHeading name = Both (IsWordOf k.Name (named name)) (λ _. IsWordOf k.Colon no_value)

-- `NAME : NUMBER ;`
abbrev pub IsSize : Text → List Word → ℕ → Type 0
IsSize name = Both (IsHeading name) (λ _. Both (IsWordOf k.Number word_value) (λ n. Both (IsWordOf k.Semi no_value) (λ _. IsNothing n)))

-- `NAME : NUMBERS ;`
abbrev pub IsInput : Text → List Word → List ℕ → Type 0
IsInput name = Both (IsHeading name) (λ _. Both AreNumbers (λ ns. Both (IsWordOf k.Semi no_value) (λ _. IsNothing ns)))

-- the sizes of these names, in order
abbrev pub AreSizes : List Text → List Word → List ℕ → Type 0
AreSizes [] = IsNothing []
AreSizes (t ∷ ts) = Both (IsSize t) (λ n. Both (AreSizes ts) (λ ns. IsNothing (n ∷ ns)))

-- the inputs of these names, in order
abbrev pub AreInputs : List Text → List Word → List (List ℕ) → Type 0
AreInputs [] = IsNothing []
AreInputs (t ∷ ts) = Both (IsInput t) (λ ns. Both (AreInputs ts) (λ nss. IsNothing (ns ∷ nss)))

-- what the words give to sizes and inputs of these names
abbrev pub IsGiven : List Text → List Text → List Word → Given → Type 0
IsGiven sizes inputs = Both (AreSizes sizes) (λ ns. Both (AreInputs inputs) (λ nss. IsNothing (record { sizes = ns; inputs = nss })))

-- what the bytes give to sizes and inputs of these names
abbrev pub GivenText : List Text → List Text → Text → Given → Type 0
GivenText sizes inputs z g = IsUtf8 z × IsGiven sizes inputs (words_of language.Data z) g
