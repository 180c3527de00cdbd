-- First means first: the words before the place at which a text is refused are the beginning of a text, where kinds, levels and numbers of 32 bits do not
-- count.
use Rattle.std.specs.Prelude.{◌≡◌, ℕ, List, ◌++◌, length, Err}
use Rattle.text_tokens.specs.Kinds.{Text}
use Rattle.text_tokens.specs.Words.{Word, next_word}
use Rattle.loop_lang.specs.declared.stmt.Prog.{Prog}
use Rattle.reader_laws.specs.declared.fault.Fault.{Fault}
use Rattle.reader_laws.specs.declared.fault.ReadError.TheVariants.{Refused}
use Rattle.c_words.specs.Words.{c_words}
use Rattle.c_text.specs.Statement.{CText}
use Rattle.c_read.specs.Units.{read_text}
use Rattle.c_first_fault.specs.Shape.{IsShaped}

-- a word of the text, or its end, is at this place, and the words before it go on
pub record IsFirst (z : Text) (place : ℕ) : Type 0 where
  pub front : List Word
  pub rest : List Word
  pub words : c_words z ≡ front ++ rest
  pub stands : place ≡ (next_word (length z) rest).place
  pub more : List Word
  pub goes : IsShaped (front ++ more)

-- each fault of the reader of texts is such a place
abbrev pub FaultsAreFirst : Text → Type 0
FaultsAreFirst z = (fault : Fault) (place : ℕ) → read_text z ≡ Err (Refused fault place) → IsFirst z place

-- the words of each C text are such words
abbrev pub TextsAreShaped : Text → Type 0
TextsAreShaped z = (p : Prog) → CText z p → IsShaped (c_words z)
