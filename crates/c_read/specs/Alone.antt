-- A text that stands for one program and for no other.
use Rattle.std.specs.Prelude.{◌≡◌, Ok}
use Rattle.text_tokens.specs.Kinds.{Text}
use Rattle.loop_lang.specs.declared.stmt.Prog.{Prog}
use Rattle.loop_lang.specs.Form.{IsWellFormed}
use Rattle.c_text.specs.Statement.{CText}
use Rattle.c_read.specs.Units.{read_text}

pub record IsTextOfAlone (z : Text) (p : Prog) : Type 0 where
  pub is : CText z p
  pub alone : (q : Prog) → CText z q → q ≡ p
  -- the reader of texts finds it
  pub reads : read_text z ≡ Ok p

-- what stands for a program is found, and what is found stands for it
abbrev pub IsExact : Text → Type 0
IsExact z = (p : Prog) → (CText z p → read_text z ≡ Ok p) × (read_text z ≡ Ok p → CText z p)

-- what a text stands for is well formed
abbrev pub IsOfFormed : Text → Type 0
IsOfFormed z = (p : Prog) → CText z p → IsWellFormed p
