-- The steps that every reader is made of. A reader is a function on the words that are left: it answers a value and the words that are then left, or the first
-- fault.
use Rattle.std.specs.Prelude.{◌≡◌, ◌≢◌, ℕ, zero, suc, if◌then◌else◌, List, Option, Some, None, Result, Ok, Err, [], ◌∷◌, ◌+◌}
use Rattle.std.specs.Str.{bytes_eq}
use Rattle.text_tokens.specs.declared.kind.Kind.{Kind}
use Rattle.text_tokens.specs.declared.kind.Kind.TheVariants.{Bad}
use Rattle.text_tokens.specs.declared.kind.Language.{Language}
use Rattle.text_tokens.specs.Kinds.{Text, same_kind}
use Rattle.text_tokens.specs.Words.{Input, input, peek, next, is_nil}
use Rattle.reader_laws.specs.declared.fault.Fault.{Fault}
use Rattle.reader_laws.specs.declared.fault.Fault.TheVariants.{BadToken, TooDeep, BadSyntax}
use Rattle.reader_laws.specs.declared.fault.ReadError.{ReadError}
use Rattle.reader_laws.specs.declared.fault.ReadError.TheVariants.{Memory, Refused}

-- a value and what is left, or the first fault
abbrev pub Outcome : Type 0 → Type 0
Outcome A = Result (A × Input) ReadError

abbrev pub Parser : Type 0 → Type 0
Parser A = Input → Outcome A

-- what is done with the value and with what is left
abbrev pub and_then : {A B : Type 0} → Outcome A → (A → Parser B) → Outcome B
and_then (Ok p) f = f p.0 p.1
and_then (Err e) f = Err e

-- one reader, and then one that knows what the first has read
infixl 10 ◌>>=◌
abbrev pub ◌>>=◌ : {A B : Type 0} → Parser A → (A → Parser B) → Parser B
p >>= f = λ i. and_then (p i) f

-- one reader, and then another
infixl 10 ◌>>◌
abbrev pub ◌>>◌ : {A B : Type 0} → Parser A → Parser B → Parser B
p >> q = p >>= (λ _. q)

-- reads nothing
abbrev pub pure : {A : Type 0} → A → Parser A
pure a = λ i. Ok (a, i)

-- the next word has this fault
unfoldable pub refusal : Fault → Input → ReadError
refusal fault i = Refused fault (peek i).place

abbrev pub refuse : {A : Type 0} → Fault → Parser A
refuse fault = λ i. Err (refusal fault i)

-- the kind and the text of the next word
abbrev pub kind : Input → Kind
kind i = (peek i).kind

abbrev pub text : Input → Text
text i = (peek i).text

-- no rule reads the next word
unfoldable pub misplaced : Input → ReadError
misplaced i = refusal (if same_kind (kind i) Bad then BadToken else BadSyntax) i

abbrev pub unexpected : {A : Type 0} → Parser A
unexpected = λ i. Err (misplaced i)

-- takes the next word, whatever it is
abbrev pub take_word : Parser Text
take_word = λ i. Ok (text i, next i)

-- a level for what the next word opens, where so many are left
abbrev pub open_level : ℕ → Parser (Unit {0})
open_level zero = refuse TooDeep
open_level (suc levels) = pure tt

-- the next word, which has this value or this fault
abbrev pub read_as : {A : Type 0} → Result A Fault → Parser A
read_as (Ok x) = take_word >> pure x
read_as (Err fault) = refuse fault

-- a word of this kind, whose text is read so
unfoldable pub a_word : {A : Type 0} → Kind → (Text → Result A Fault) → Parser A
a_word a reads = λ i. if same_kind (kind i) a then read_as (reads (text i)) i else unexpected i

-- the text of the word says nothing
abbrev pub no_value : Text → Result (Unit {0}) Fault
no_value t = Ok tt

-- the text of the word itself
abbrev pub itself : Text → Result Text Fault
itself t = Ok t

-- where the name is among these, the first of which is at this place
abbrev pub place_from : ℕ → Text → List Text → Option ℕ
place_from at name [] = None
place_from at name (n ∷ ns) = if bytes_eq name n then Some at else place_from (at + 1) name ns

-- the end of the text
unfoldable pub finish : Parser (Unit {0})
finish = λ i. if is_nil i.words then Ok (tt, i) else unexpected i

-- ---- a whole text

abbrev pub value_of : {A : Type 0} → Outcome A → Result A ReadError
value_of (Ok p) = Ok p.0
value_of (Err e) = Err e

abbrev pub to_end : {A : Type 0} → Parser A → Parser A
to_end p = p >>= λ x. finish >> pure x

-- what the reader makes of a text of this language, all of it
unfoldable pub read_whole : {A : Type 0} → Language → Parser A → Text → Result A ReadError
read_whole language p z = value_of (to_end p (input language z))

-- ---- what functions that read ensure

-- of a whole text: the outcome, seen by view, unless memory fails
abbrev pub Gives : {A B : Type 0} → (A → B) → Result A ReadError → Result B ReadError → Type 0
Gives view (Ok a) outcome = outcome ≡ Ok (view a)
Gives view (Err e) outcome = e ≢ Memory → outcome ≡ Err e

-- of the words that are left: the outcome, seen by view, and what is left then, unless memory fails
abbrev pub Reads : {A B : Type 0} → (A → B) → Outcome B → Result A ReadError → Input → Type 0
Reads view outcome (Ok a) new = outcome ≡ Ok (view a, new)
Reads view outcome (Err e) new = e ≢ Memory → outcome ≡ Err e
