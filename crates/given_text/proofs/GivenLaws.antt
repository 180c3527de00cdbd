-- Given text is read as its grammar says.
use Rattle.std.proofs.Common.{◌≡◌, List, [], ◌∷◌, refl}
use Rattle.text_tokens.specs.declared.kind.Kind.TheVariants as k
use Rattle.text_tokens.specs.Kinds.{Text}
use Rattle.reader_laws.specs.Steps.{◌>>=◌, pure, no_value}
use Rattle.reader_laws.specs.Levels.{word_in}
use Rattle.reader_laws.specs.Grammar.{IsWordOf, IsNothing, Both}
use Rattle.reader_laws.proofs.Lawful.{Lawful, never, lawful_both, lawful_pure}
use Rattle.reader_laws.proofs.LevelLaws.{lawful_word_in, word_in_then, lawful_closed}
use Rattle.given_text.specs.Given.{named, word_value, AreNumbers, IsHeading, IsSize, IsInput, AreSizes, AreInputs, IsGiven}
use Rattle.given_text.specs.Reading.{heading, numbers, size, input, sizes, inputs, given}
use Rattle.given_text.proofs.NumberLaws.{is_number, other_number, lawful_numbers}

pub lawful_heading : (name : Text) → Lawful (heading name) (IsHeading name) never
unfolding heading
lawful_heading name = word_in_then 1 k.Name (named name) (λ _. word_in 1 k.Colon no_value) (λ _. IsWordOf k.Colon no_value) never (λ (z : k.Name ≡ k.End). cc)
    (λ _. lawful_word_in 1 k.Colon no_value (λ (z : k.Colon ≡ k.End). cc))

pub lawful_size : (name : Text) → Lawful (size name) (IsSize name) never
unfolding size
lawful_size name =
    lawful_both (heading name) (λ _. word_in 1 k.Number word_value >>= λ n. (word_in 1 k.Semi no_value >>= λ _. pure n)) (IsHeading name)
    (λ _. Both (IsWordOf k.Number word_value) (λ n. Both (IsWordOf k.Semi no_value) (λ _. IsNothing n))) never never (lawful_heading name)
    (λ _. word_in_then 1 k.Number word_value (λ n. word_in 1 k.Semi no_value >>= λ _. pure n) (λ n. Both (IsWordOf k.Semi no_value) (λ _. IsNothing n)) never
    (λ (z : k.Number ≡ k.End). cc)
    (λ n. word_in_then 1 k.Semi no_value (λ _. pure n) (λ _. IsNothing n) never (λ (z : k.Semi ≡ k.End). cc) (λ _. lawful_pure n never)))
    (λ _ ws y j is e. refl)

pub lawful_input : (name : Text) → Lawful (input name) (IsInput name) never
unfolding input
lawful_input name =
    lawful_both (heading name) (λ _. numbers [] >>= λ ns. (word_in 1 k.Semi no_value >>= λ _. pure ns)) (IsHeading name)
    (λ _. Both AreNumbers (λ ns. Both (IsWordOf k.Semi no_value) (λ _. IsNothing ns))) never never (lawful_heading name)
    (λ _. lawful_closed 1 k.Semi (numbers []) AreNumbers is_number (λ (z : k.Semi ≡ k.End). cc) (other_number k.Semi (λ (z : k.Semi ≡ k.Number). cc))
    lawful_numbers)
    (λ _ ws y j is e. refl)

pub lawful_sizes : (ts : List Text) → Lawful (sizes ts) (AreSizes ts) never
lawful_sizes [] = lawful_pure [] never
lawful_sizes (t ∷ ts) =
    lawful_both (size t) (λ n. sizes ts >>= λ ns. pure (n ∷ ns)) (IsSize t) (λ n. Both (AreSizes ts) (λ ns. IsNothing (n ∷ ns))) never never (lawful_size t)
    (λ n. lawful_both (sizes ts) (λ ns. pure (n ∷ ns)) (AreSizes ts) (λ ns. IsNothing (n ∷ ns)) never never (lawful_sizes ts)
    (λ ns. lawful_pure (n ∷ ns) never) (λ _ ws y j is e. refl))
    (λ _ ws y j is e. refl)

pub lawful_inputs : (ts : List Text) → Lawful (inputs ts) (AreInputs ts) never
lawful_inputs [] = lawful_pure [] never
lawful_inputs (t ∷ ts) =
    lawful_both (input t) (λ ns. inputs ts >>= λ nss. pure (ns ∷ nss)) (IsInput t) (λ ns. Both (AreInputs ts) (λ nss. IsNothing (ns ∷ nss))) never never
    (lawful_input t)
    (λ ns. lawful_both (inputs ts) (λ nss. pure (ns ∷ nss)) (AreInputs ts) (λ nss. IsNothing (ns ∷ nss)) never never (lawful_inputs ts)
    (λ nss. lawful_pure (ns ∷ nss) never) (λ _ ws y j is e. refl))
    (λ _ ws y j is e. refl)

pub lawful_given : (ss is : List Text) → Lawful (given ss is) (IsGiven ss is) never
unfolding given
lawful_given ss is =
    lawful_both (sizes ss) (λ ns. inputs is >>= λ nss. pure (record { sizes = ns; inputs = nss })) (AreSizes ss)
    (λ ns. Both (AreInputs is) (λ nss. IsNothing (record { sizes = ns; inputs = nss }))) never never (lawful_sizes ss)
    (λ ns. lawful_both (inputs is) (λ nss. pure (record { sizes = ns; inputs = nss })) (AreInputs is)
    (λ nss. IsNothing (record { sizes = ns; inputs = nss })) never never (lawful_inputs is)
    (λ nss. lawful_pure (record { sizes = ns; inputs = nss }) never) (λ _ ws y j of e. refl))
    (λ _ ws y j of e. refl)
