-- Why a C text was not read.
use Rattle.std.specs.Prelude.{◌≡◌, ℕ, Err}
use Rattle.text_tokens.specs.Kinds.{Text}
use Rattle.loop_lang.specs.declared.stmt.Prog.{Prog}
use Rattle.reader_laws.specs.declared.fault.Fault.{Fault}
use Rattle.reader_laws.specs.declared.fault.ReadError.TheVariants.{Refused}
use Rattle.c_text.specs.Statement.{CText}
use Rattle.c_read.specs.Refused.{IsRefusedAt}
use Rattle.c_read.specs.Units.{read_text}
use Rattle.c_first_fault.specs.First.{IsFirst}
use Rattle.c_reader.specs.declared.fault.CFault.{CFault}
use Rattle.c_reader.specs.declared.fault.CFault.TheVariants as f

-- no other program is the text's
abbrev pub IsOfNoOther : Text → Prog → Type 0
IsOfNoOther z p = (q : Prog) → CText z q → q ≡ p

-- the reader of texts, a function of words, refuses the text there; want of memory says nothing of it
abbrev pub IsToldBy : Text → CFault → Type 0
IsToldBy z (f.BadC at) = (fault : Fault) × (read_text z ≡ Err (Refused fault at))
IsToldBy z f.Memory = Unit {0}

-- The first fault of the text stands there. No program is the text's; the words before the place go on, and as far as the word that decides it they are
-- the beginning of no text.
pub record IsBadAt (z : Text) (at : ℕ) : Type 0 where
  pub fault : Fault
  pub told : read_text z ≡ Err (Refused fault at)
  pub none : (p : Prog) → CText z p → ⊥
  pub refused : IsRefusedAt z fault at
  pub first : IsFirst z at

-- want of memory says nothing of the text
abbrev pub IsFault : Text → CFault → Type 0
IsFault z (f.BadC at) = IsBadAt z at
IsFault z f.Memory = Unit {0}
