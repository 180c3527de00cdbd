-- Which texts stand for no program, and where this is decided.
use Rattle.std.specs.Prelude.{◌≡◌, ℕ, List, ◌++◌, length, Err}
use Rattle.text_tokens.specs.Kinds.{Text}
use Rattle.text_tokens.specs.Words.{Word, is_nil, next_word}
use Rattle.loop_lang.specs.declared.stmt.Prog.{Prog}
use Rattle.reader_laws.specs.declared.fault.Fault.{Fault}
use Rattle.reader_laws.specs.declared.fault.ReadError.TheVariants.{Refused}
use Rattle.reader_laws.specs.Grammar.{Stands}
use Rattle.c_words.specs.Words.{c_words}
use Rattle.c_text.specs.Statement.{CText}
use Rattle.c_read.specs.Units.{read_text}

-- The words as far as the next one, which decides it, are the beginning of no text; a wrong kind stands at a word before, any other fault at the next one.
pub record IsRefusedAt (z : Text) (fault : Fault) (place : ℕ) : Type 0 where
  pub front : List Word
  pub rest : List Word
  pub words : c_words z ≡ front ++ rest
  pub at : Stands fault place front (next_word (length z) rest)
  pub refused : (other : Text) (more : List Word) → c_words other ≡ front ++ more → next_word (length other) more ≡ next_word (length z) rest
      → is_nil more ≡ is_nil rest
      → (p : Prog) → CText other p → ⊥

-- each fault of the reader of texts is such a place
abbrev pub AreRefused : Text → Type 0
AreRefused z = (fault : Fault) (place : ℕ) → read_text z ≡ Err (Refused fault place) → IsRefusedAt z fault place
