-- What reading given text answers.
use Rattle.std.specs.Prelude.{◌≡◌, ◌≢◌, ◌⊎◌, ℕ, if◌then◌else◌, false, List, ◌++◌, length, Result, Ok, Err}
use Rattle.std.specs.Str.{IsUtf8, is_utf8}
use Rattle.std.specs.Str.Lossy.{utf8_valid_len}
use Rattle.text_tokens.specs.declared.kind.Language.TheVariants as language
use Rattle.text_tokens.specs.Kinds.{Text}
use Rattle.text_tokens.specs.Words.{Word, words_of, next_word}
use Rattle.reader_laws.specs.declared.fault.Fault.{Fault}
use Rattle.reader_laws.specs.declared.fault.ReadError.{ReadError}
use Rattle.reader_laws.specs.declared.fault.ReadError.TheVariants as early
use Rattle.reader_laws.specs.Steps.{read_whole}
use Rattle.reader_laws.specs.Grammar.{IsRefusedAt}
use Rattle.loop_run.specs.declared.given.Given.{Given}
use Rattle.given_text.specs.declared.fault.GivenFault.{GivenFault}
use Rattle.given_text.specs.declared.fault.GivenFault.TheVariants.{BadData, Memory}
use Rattle.given_text.specs.Given.{IsGiven}
use Rattle.given_text.specs.Reading.{given}

-- each fault is that no given text goes on with its word
abbrev pub answered : Result Given ReadError → Result Given GivenFault
answered (Ok g) = Ok g
answered (Err early.Memory) = Err Memory
answered (Err (early.Refused fault place)) = Err (BadData place)

-- an answer, which is this one unless memory fails
abbrev pub Answers : Result Given GivenFault → Result Given GivenFault → Type 0
Answers (Ok g) outcome = outcome ≡ Ok g
Answers (Err fault) outcome = fault ≢ Memory → outcome ≡ Err fault

-- Words of the text stand before the one at this place, or before its end, and some words go on after them to a given text.
pub record IsFirst (sizes inputs : List Text) (z : Text) (place : ℕ) : Type 0 where
  pub front : List Word
  pub rest : List Word
  pub words : words_of language.Data z ≡ front ++ rest
  pub stands : place ≡ (next_word (length z) rest).place
  pub more : List Word
  pub value : Given
  pub begins : IsGiven sizes inputs (front ++ more) value

-- sizes and inputs of these names
module _ (sizes inputs : List Text) where
  unfoldable pub read_text : Text → Result Given GivenFault
  read_text z = answered (read_whole language.Data (given sizes inputs) z)

  -- what the bytes give, or the first place at which they are no given text; what is no UTF-8 is refused before all else
  unfoldable pub read_bytes : Text → Result Given GivenFault
  read_bytes z = if is_utf8 z then read_text z else Err (BadData (utf8_valid_len z))

  -- the words as far as the one that stands here are the beginning of no given text
  abbrev pub LeavesGrammar : Text → ℕ → Type 0
  LeavesGrammar z place = (fault : Fault) × IsRefusedAt language.Data (IsGiven sizes inputs) z fault place

  -- the longest front that is UTF-8 ends here
  abbrev pub LeavesUtf8 : Text → ℕ → Type 0
  LeavesUtf8 z place = (is_utf8 z ≡ false) × (place ≡ utf8_valid_len z)

  -- the cause of a refusal: the bytes leave UTF-8 here, or all is UTF-8 and the words leave the grammar here; want of memory has none
  abbrev pub IsRefusedText : Text → GivenFault → Type 0
  IsRefusedText z (BadData place) = LeavesUtf8 z place ⊎ (IsUtf8 z × LeavesGrammar z place)
  IsRefusedText z Memory = Unit {0}

  -- a refusal is the first: the words before its place are the beginning of a given text
  abbrev pub IsFirstFault : Text → GivenFault → Type 0
  IsFirstFault z (BadData place) = LeavesUtf8 z place ⊎ IsFirst sizes inputs z place
  IsFirstFault z Memory = Unit {0}
