-- The law of a reader and its rule that is carried through the grammar: the words before the word of each fault go on.
use Rattle.std.proofs.Common.{◌≡◌, ◌⊎◌, ℕ, List, [], Err}
use Rattle.text_tokens.specs.Words.{Word, Input, peek}
use Rattle.reader_laws.specs.declared.fault.Fault.{Fault}
use Rattle.reader_laws.specs.declared.fault.ReadError.TheVariants.{Refused}
use Rattle.reader_laws.specs.Steps.{Parser}
use Rattle.reader_laws.proofs.Outcomes.{ahead}
use Rattle.first_fault.specs.First.{Few, Continues}

-- the word at this place, and the words before it, which are none or go on
pub record Cut {A : Type 0} (rule : List Word → A → Type 0) (T : A → Type 0) (i : Input) (place : ℕ) : Type 0 where
  pub front : List Word
  pub at : Input
  pub words : i ≡ ahead front at
  pub stands : place ≡ (peek at).place
  pub goes : (front ≡ []) ⊎ (Few front → Continues rule T front)

abbrev pub Begins : {A : Type 0} → Parser A → (List Word → A → Type 0) → (A → Type 0) → Type 0
Begins p rule T = (i : Input) (fault : Fault) (place : ℕ) → p i ≡ Err (Refused fault place) → Cut rule T i place
