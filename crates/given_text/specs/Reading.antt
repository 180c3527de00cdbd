-- How given text is read.
use Rattle.std.specs.Prelude.{ℕ, if◌then◌else◌, List, [], ◌∷◌, ◌++◌, Result, Ok, Err}
use Rattle.text_tokens.specs.declared.kind.Kind.TheVariants as k
use Rattle.text_tokens.specs.Kinds.{Text, same_kind}
use Rattle.text_tokens.specs.Words.{Word}
use Rattle.reader_laws.specs.declared.fault.Fault.{Fault}
use Rattle.reader_laws.specs.declared.fault.ReadError.TheVariants.{Refused}
use Rattle.reader_laws.specs.Steps.{Outcome, Parser, ◌>>=◌, pure, no_value}
use Rattle.reader_laws.specs.Levels.{word_in}
use Rattle.loop_run.specs.declared.given.Given.{Given}
use Rattle.given_text.specs.Given.{named, word_value}

-- `NAME :`
unfoldable pub heading : Text → Parser (Unit {0})
heading name = word_in 1 k.Name (named name) >>= λ _. word_in 1 k.Colon no_value

-- one number more, or a number that is too large
abbrev pub with_number : Result ℕ Fault → Word → (ℕ → Outcome (List ℕ)) → Outcome (List ℕ)
with_number (Ok n) w more = more n
with_number (Err fault) w more = Err (Refused fault w.place)

-- the numbers at the front of these words, after those that are found
abbrev pub numbers_from : ℕ → List ℕ → List Word → Outcome (List ℕ)
numbers_from end found [] = Ok (found, record { words = []; end = end })
numbers_from end found (w ∷ ws) =
    if same_kind w.kind k.Number then with_number (word_value w.text) w (λ n. numbers_from end (found ++ n ∷ []) ws)
    else Ok (found, record { words = w ∷ ws; end = end })

unfoldable pub numbers : List ℕ → Parser (List ℕ)
numbers found = λ i. numbers_from i.end found i.words

-- `NAME : NUMBER ;`
unfoldable pub size : Text → Parser ℕ
size name = heading name >>= λ _. (word_in 1 k.Number word_value >>= λ n. (word_in 1 k.Semi no_value >>= λ _. pure n))

-- `NAME : NUMBERS ;`
unfoldable pub input : Text → Parser (List ℕ)
input name = heading name >>= λ _. (numbers [] >>= λ ns. (word_in 1 k.Semi no_value >>= λ _. pure ns))

-- the sizes of these names, in order
abbrev pub sizes : List Text → Parser (List ℕ)
sizes [] = pure []
sizes (t ∷ ts) = size t >>= λ n. (sizes ts >>= λ ns. pure (n ∷ ns))

-- the inputs of these names, in order
abbrev pub inputs : List Text → Parser (List (List ℕ))
inputs [] = pure []
inputs (t ∷ ts) = input t >>= λ ns. (inputs ts >>= λ nss. pure (ns ∷ nss))

unfoldable pub given : List Text → List Text → Parser Given
given ss is = sizes ss >>= λ ns. (inputs is >>= λ nss. pure (record { sizes = ns; inputs = nss }))
