-- The words before the word of a fault are the beginning of a given text.
use Rattle.std.proofs.Common.{◌≡◌, true, List, [], ◌∷◌, Ok, refl}
use Rattle.std.specs.Str.{bytes_eq}
use Rattle.std.proofs.lemmas.Slice.Eq.{bytes_eq-Decides}
use Rattle.text_tokens.specs.declared.kind.Kind.TheVariants as k
use Rattle.text_tokens.specs.Kinds.{Text}
use Rattle.text_tokens.specs.Numbers.{number, value_from}
use Rattle.reader_laws.specs.Steps.{◌>>=◌, pure, no_value}
use Rattle.reader_laws.specs.Levels.{word_in}
use Rattle.reader_laws.specs.Grammar.{IsWordOf, IsNothing, Both}
use Rattle.reader_laws.proofs.LevelLaws.{lawful_word_in}
use Rattle.given_text.specs.Given.{named, word_value, AreNumbers, IsHeading, IsSize, IsInput, AreSizes, AreInputs, IsGiven}
use Rattle.given_text.specs.Reading.{heading, numbers, size, input, sizes, inputs, given}
use Rattle.given_text.proofs.Begins.{Begins, begins_pure, begins_word, begins_both}
use Rattle.given_text.proofs.NumberLaws.{lawful_numbers, begins_numbers}
use Rattle.given_text.proofs.GivenLaws.{lawful_heading, lawful_size, lawful_input, lawful_sizes, lawful_inputs}

same_bytes : (t : Text) → bytes_eq t t ≡ true
same_bytes t = (bytes_eq-Decides t t).1 refl

named_read : (t : Text) → named t t ≡ Ok tt
named_read t = rw (same_bytes t) refl

-- the digit 0
zero_read : word_value (48 ∷ []) ≡ Ok 0
unfolding number value_from
zero_read = refl

begins_heading : (name : Text) → Begins (heading name) (IsHeading name)
unfolding heading
begins_heading name =
    begins_both (word_in 1 k.Name (named name)) (λ _. word_in 1 k.Colon no_value) (IsWordOf k.Name (named name)) (λ _. IsWordOf k.Colon no_value)
    (lawful_word_in 1 k.Name (named name) (λ (z : k.Name ≡ k.End). cc)).sound (begins_word 1 k.Name (named name) name tt (named_read name))
    (λ _. begins_word 1 k.Colon no_value [] tt refl)

begins_ended : {A : Type 0} (x : A) → Begins (word_in 1 k.Semi no_value >>= λ _. pure x) (Both (IsWordOf k.Semi no_value) (λ _. IsNothing x))
begins_ended x = begins_both (word_in 1 k.Semi no_value) (λ _. pure x) (IsWordOf k.Semi no_value) (λ _. IsNothing x)
    (lawful_word_in 1 k.Semi no_value (λ (z : k.Semi ≡ k.End). cc)).sound (begins_word 1 k.Semi no_value [] tt refl) (λ _. begins_pure x)

begins_size : (name : Text) → Begins (size name) (IsSize name)
unfolding size
begins_size name = begins_both (heading name) (λ _. word_in 1 k.Number word_value >>= λ n. (word_in 1 k.Semi no_value >>= λ _. pure n)) (IsHeading name)
    (λ _. Both (IsWordOf k.Number word_value) (λ n. Both (IsWordOf k.Semi no_value) (λ _. IsNothing n))) (lawful_heading name).sound (begins_heading name)
    (λ _. begins_both (word_in 1 k.Number word_value) (λ n. word_in 1 k.Semi no_value >>= λ _. pure n) (IsWordOf k.Number word_value)
    (λ n. Both (IsWordOf k.Semi no_value) (λ _. IsNothing n)) (lawful_word_in 1 k.Number word_value (λ (z : k.Number ≡ k.End). cc)).sound
    (begins_word 1 k.Number word_value (48 ∷ []) 0 zero_read) (λ n. begins_ended n))

begins_input : (name : Text) → Begins (input name) (IsInput name)
unfolding input
begins_input name = begins_both (heading name) (λ _. numbers [] >>= λ ns. (word_in 1 k.Semi no_value >>= λ _. pure ns)) (IsHeading name)
    (λ _. Both AreNumbers (λ ns. Both (IsWordOf k.Semi no_value) (λ _. IsNothing ns))) (lawful_heading name).sound (begins_heading name)
    (λ _. begins_both (numbers []) (λ ns. word_in 1 k.Semi no_value >>= λ _. pure ns) AreNumbers (λ ns. Both (IsWordOf k.Semi no_value) (λ _. IsNothing ns))
    lawful_numbers.sound begins_numbers (λ ns. begins_ended ns))

begins_sizes : (ts : List Text) → Begins (sizes ts) (AreSizes ts)
begins_sizes [] = begins_pure []
begins_sizes (t ∷ ts) =
    begins_both (size t) (λ n. sizes ts >>= λ ns. pure (n ∷ ns)) (IsSize t) (λ n. Both (AreSizes ts) (λ ns. IsNothing (n ∷ ns))) (lawful_size t).sound
    (begins_size t)
    (λ n. begins_both (sizes ts) (λ ns. pure (n ∷ ns)) (AreSizes ts) (λ ns. IsNothing (n ∷ ns)) (lawful_sizes ts).sound (begins_sizes ts)
    (λ ns. begins_pure (n ∷ ns)))

begins_inputs : (ts : List Text) → Begins (inputs ts) (AreInputs ts)
begins_inputs [] = begins_pure []
begins_inputs (t ∷ ts) =
    begins_both (input t) (λ ns. inputs ts >>= λ nss. pure (ns ∷ nss)) (IsInput t) (λ ns. Both (AreInputs ts) (λ nss. IsNothing (ns ∷ nss)))
    (lawful_input t).sound
    (begins_input t)
    (λ ns. begins_both (inputs ts) (λ nss. pure (ns ∷ nss)) (AreInputs ts) (λ nss. IsNothing (ns ∷ nss)) (lawful_inputs ts).sound (begins_inputs ts)
    (λ nss. begins_pure (ns ∷ nss)))

pub begins_given : (ss is : List Text) → Begins (given ss is) (IsGiven ss is)
unfolding given
begins_given ss is = begins_both (sizes ss) (λ ns. inputs is >>= λ nss. pure (record { sizes = ns; inputs = nss })) (AreSizes ss)
    (λ ns. Both (AreInputs is) (λ nss. IsNothing (record { sizes = ns; inputs = nss }))) (lawful_sizes ss).sound (begins_sizes ss)
    (λ ns. begins_both (inputs is) (λ nss. pure (record { sizes = ns; inputs = nss })) (AreInputs is)
    (λ nss. IsNothing (record { sizes = ns; inputs = nss })) (lawful_inputs is).sound (begins_inputs is)
    (λ nss. begins_pure (record { sizes = ns; inputs = nss })))
