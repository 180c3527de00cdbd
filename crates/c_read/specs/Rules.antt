-- Rules that the readers' laws name beside those of the grammar.
use Rattle.std.specs.Prelude.{◌≡◌, List, Result, Ok}
use Rattle.text_tokens.specs.Words.{Word}
use Rattle.reader_laws.specs.declared.fault.Fault.{Fault}

-- what a function makes of what the rule says
abbrev pub Checked : {A B : Type 0} → (A → Result B Fault) → (List Word → A → Type 0) → List Word → B → Type 0
Checked {A = A} f rule ws y = (x : A) × rule ws x × (f x ≡ Ok y)

-- what one of several rules says
abbrev pub Chosen : {F A : Type 0} → (F → List Word → A → Type 0) → List Word → A → Type 0
Chosen {F = F} rules ws x = (form : F) × rules form ws x
