-- First means first: the words before the word at which a fault stands are the beginning of something that the rule allows.
use Rattle.std.specs.Prelude.{◌≡◌, ◌+◌, ◌<◌, ◌*◌, ◌^◌, ℕ, suc, List, ◌++◌, length, Err}
use Rattle.text_tokens.specs.declared.kind.Language.{Language}
use Rattle.text_tokens.specs.Kinds.{Text}
use Rattle.text_tokens.specs.Words.{Word, words_of, next_word}
use Rattle.reader_laws.specs.declared.fault.Fault.{Fault}
use Rattle.reader_laws.specs.declared.fault.ReadError.TheVariants.{Refused}
use Rattle.reader_laws.specs.Steps.{Parser, read_whole}
use Rattle.source_grammar.specs.Scope.{Scope, extent_name, index_name}
use Rattle.source_grammar.specs.Index.{Level, IsIndex}
use Rattle.source_grammar.specs.ReadIndex.{index}
use Rattle.source_grammar.specs.Conditions.{IsCondition}
use Rattle.source_grammar.specs.ReadConditions.{condition}
use Rattle.source_grammar.specs.Terms.{Place, IsTerm}
use Rattle.source_grammar.specs.ReadTerms.{term}

-- not more words than a file has
abbrev pub Few : List Word → Type 0
Few ws = 2 * length ws + 4 < 2 ^ 63

-- words that go on after these: both together are in the rule, with a value of this sort; a rule looks at kinds and texts, not at places
pub record Continues {A : Type 0} (rule : List Word → A → Type 0) (T : A → Type 0) (front : List Word) : Type 0 where
  pub rest : List Word
  pub value : A
  pub is : rule (front ++ rest) value
  pub has : T value

abbrev pub Any : {A : Type 0} → A → Type 0
Any x = Unit {0}

-- a word of the text, or its end, is at this place, and the words before it are the beginning of something that the rule allows
pub record IsFirst {A : Type 0} (language : Language) (rule : List Word → A → Type 0) (z : Text) (place : ℕ) : Type 0 where
  pub front : List Word
  pub rest : List Word
  pub words : words_of language z ≡ front ++ rest
  pub stands : place ≡ (next_word (length z) rest).place
  pub goes : Few front → Continues rule Any front

-- Each fault of the reader stands where the words before it begin something that the rule allows; a fault of what an operator joins, before the operator.
abbrev pub FaultsAreFirst : {A : Type 0} → Language → Parser A → (List Word → A → Type 0) → Type 0
FaultsAreFirst language p rule = (z : Text) (fault : Fault) (place : ℕ) → read_whole language p z ≡ Err (Refused fault place) → IsFirst language rule z place

-- of an index expression, at each level, where so many levels may still be opened
abbrev pub IndexFaultsAreFirst : Type 0
IndexFaultsAreFirst = (language : Language) (scope : Scope) (levels : ℕ) (level : Level)
    → FaultsAreFirst language (index (index_name scope) levels level) (IsIndex (index_name scope) levels level)

-- of an extent or amount, whose names are those of sizes
abbrev pub ExtentFaultsAreFirst : Type 0
ExtentFaultsAreFirst = (language : Language) (scope : Scope) (levels : ℕ) (level : Level)
    → FaultsAreFirst language (index (extent_name scope) levels level) (IsIndex (extent_name scope) levels level)

-- of a condition of a guard, whose names are those of sizes and index variables
abbrev pub ConditionFaultsAreFirst : Type 0
ConditionFaultsAreFirst = (language : Language) (scope : Scope) (levels : ℕ)
    → FaultsAreFirst language (condition (index_name scope) levels) (IsCondition (index_name scope) levels)

-- of a condition of an assume, whose names are those of sizes
abbrev pub AssumeFaultsAreFirst : Type 0
AssumeFaultsAreFirst = (language : Language) (scope : Scope) (levels : ℕ)
    → FaultsAreFirst language (condition (extent_name scope) levels) (IsCondition (extent_name scope) levels)

-- Of a term at each place, with one level more: at a word that opens a level where none is left, as the parenthesis of `flatten(`, no text with as many
-- levels goes on.
abbrev pub TermFaultsAreFirst : Type 0
TermFaultsAreFirst = (language : Language) (levels : ℕ) (place : Place) (scope : Scope)
    → FaultsAreFirst language (term levels place scope) (IsTerm (suc levels) place scope)
