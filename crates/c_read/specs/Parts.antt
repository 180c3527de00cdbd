-- What readers of C are put together from.
use Rattle.std.specs.Prelude.{ℕ, zero, suc, ◌+◌, Bool, if◌then◌else◌, List, [], ◌∷◌, length, Option, Some, None, Result, Ok, Err, decimal}
use Rattle.std.specs.Str.{bytes_eq}
use Rattle.text_tokens.specs.declared.kind.Kind.{Kind}
use Rattle.text_tokens.specs.Kinds.{Text}
use Rattle.text_tokens.specs.Spelled.{Token}
use Rattle.text_tokens.specs.Words.{Word, peek}
use Rattle.reader_laws.specs.declared.fault.Fault.{Fault}
use Rattle.reader_laws.specs.declared.fault.Fault.TheVariants.{BadSyntax}
use Rattle.reader_laws.specs.Steps.{Parser, ◌>>=◌, ◌>>◌, a_word, open_level, pure, take_word}
use Rattle.reader_laws.specs.Chain.{Links, go_on, joined}

-- the text of a word is this
abbrev pub spelled : Text → Text → Result (Unit {0}) Fault
spelled t u = if bytes_eq u t then Ok tt else Err BadSyntax

abbrev pub exactly : Token → Parser (Unit {0})
exactly t = a_word t.kind (spelled t.text)

-- these tokens, one after another
abbrev pub expect_all : List Token → Parser (Unit {0})
expect_all [] = pure tt
expect_all (t ∷ ts) = exactly t >> expect_all ts

-- what is read between these tokens
abbrev pub around : {A : Type 0} → List Token → List Token → Parser A → Parser A
around before after p = expect_all before >>= (λ u. p >>= (λ x. expect_all after >>= (λ v. pure x)))

-- likewise, where the tokens after the first ones begin with one that opens a level
abbrev pub opened : {A : Type 0} → ℕ → List Token → List Token → List Token → Parser A → Parser A
opened levels front before after p = expect_all front >>= (λ u. open_level levels >> around before after p)

-- what a function makes of what is read; where it makes nothing, the fault stands at the first word
abbrev pub checked : {A B : Type 0} → (A → Result B Fault) → Parser A → Parser B
checked f p = λ i. (p >>= (λ x. joined (peek i) (f x) pure)) i

-- an operator with what stands to its right, where one comes
abbrev pub optional : {A B O : Type 0} → Links A B O → (O → Parser B) → A → Parser A
optional links operand left = λ i. go_on (links.operator (peek i).kind) left
    (λ o. (open_level (links.room 0) >> (take_word >> operand o)) >>= (λ right. joined (peek i) (links.join o left right) pure)) i

-- what is read step by step while the next word says so, and then to its end; so many steps at most
abbrev pub until_by : {A B : Type 0} → (Word → Bool) → (A → Parser A) → (A → Parser B) → ℕ → A → Parser B
until_by goes turn final zero = final
until_by goes turn final (suc n) = λ a i. if goes (peek i) then (turn a >>= until_by goes turn final n) i else final a i

-- with as many steps as there are words
abbrev pub until : {A B : Type 0} → (Word → Bool) → (A → Parser A) → (A → Parser B) → A → Parser B
until goes turn final = λ a i. until_by goes turn final (length i.words + 1) a i

-- this is how the number is printed
abbrev pub is_printed : Text → ℕ → Bool
is_printed t n = bytes_eq t (decimal n)
