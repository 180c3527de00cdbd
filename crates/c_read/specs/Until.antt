-- What is said step by step, and then to its end: any number of steps.
use Rattle.std.specs.Prelude.{ℕ, zero, suc, List}
use Rattle.text_tokens.specs.Words.{Word}
use Rattle.reader_laws.specs.Grammar.{Both}

-- so many steps
abbrev pub UntilBy : {A B : Type 0} → (A → List Word → A → Type 0) → (A → List Word → B → Type 0) → ℕ → A → List Word → B → Type 0
UntilBy turns finals zero a = finals a
UntilBy turns finals (suc n) a = Both (turns a) (λ b. UntilBy turns finals n b)

abbrev pub Until : {A B : Type 0} → (A → List Word → A → Type 0) → (A → List Word → B → Type 0) → A → List Word → B → Type 0
Until turns finals a ws y = (n : ℕ) × UntilBy turns finals n a ws y
