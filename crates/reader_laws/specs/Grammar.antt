-- What a rule of a grammar allows, apart from how it is read: which words stand for which value. A rule is a relation of words to values.
use Rattle.std.specs.Prelude.{◌≡◌, ◌⊎◌, ◌<◌, ℕ, zero, suc, List, [], ◌∷◌, ◌++◌, length, Some, Result, Ok}
use Rattle.text_tokens.specs.declared.kind.Kind.{Kind}
use Rattle.text_tokens.specs.declared.kind.Language.{Language}
use Rattle.text_tokens.specs.Kinds.{Text}
use Rattle.text_tokens.specs.Words.{Word, words_of, next_word, is_nil}
use Rattle.reader_laws.specs.declared.fault.Fault.TheVariants.{NotAffine, CoefficientTooLarge, IndexTooLong}
use Rattle.reader_laws.specs.declared.fault.ReadError.{ReadError}
use Rattle.reader_laws.specs.declared.fault.ReadError.TheVariants.{Memory, Refused}
use Rattle.reader_laws.specs.declared.fault.Fault.{Fault}
use Rattle.reader_laws.specs.Chain.{Links, signed}

-- one after the other
pub record Both {A B : Type 0} (first : List Word → A → Type 0) (then : A → List Word → B → Type 0) (ws : List Word) (y : B) : Type 0 where
  pub value : A
  pub front : List Word
  pub rest : List Word
  pub words : ws ≡ front ++ rest
  pub is_first : first front value
  pub is_then : then value rest y

-- an operator, what it joins to x, and what follows
pub record Link {A B O : Type 0} (links : Links A B O) (operands : ℕ → A → O → List Word → B → Type 0) (n : ℕ) (follows : A → List Word → A → Type 0) (left : A)
    (ws : List Word) (x : A) : Type 0 where
  pub word : Word
  pub front : List Word
  pub rest : List Word
  pub sign : O
  pub right : B
  pub value : A
  pub words : ws ≡ word ∷ front ++ rest
  pub is : links.operator word.kind ≡ Some sign
  pub room : 0 < links.room n
  pub is_operand : operands n left sign front right
  pub joins : links.join sign left right ≡ Ok value
  pub is_rest : follows value rest x

-- what may follow `left`, so many operators at most
abbrev pub IsChain : {A B O : Type 0} → Links A B O → (ℕ → A → O → List Word → B → Type 0) → ℕ → A → List Word → A → Type 0
IsChain links operands zero left ws x = (ws ≡ []) × (x ≡ left)
IsChain links operands (suc n) left ws x = ((ws ≡ []) × (x ≡ left)) ⊎ Link links operands n (λ value. IsChain links operands n value) left ws x

-- items, each after a word of this kind, so many at most, added to `left`
abbrev pub IsRepeated : {A B : Type 0} → Kind → (A → B → A) → (A → List Word → B → Type 0) → ℕ → A → List Word → A → Type 0
IsRepeated a add rule n left = IsChain (signed a add) (λ m x o. rule x) n left

-- a word of this kind, whose text reads as x
pub record IsWordOf {A : Type 0} (a : Kind) (reads : Text → Result A Fault) (ws : List Word) (x : A) : Type 0 where
  pub word : Word
  pub is : word.kind ≡ a
  pub reads_as : reads word.text ≡ Ok x
  pub words : ws ≡ word ∷ []

-- no word, for this value
abbrev pub IsNothing : {A : Type 0} → A → List Word → A → Type 0
IsNothing a ws x = (ws ≡ []) × (x ≡ a)

-- one level further in
abbrev pub Opened : {A : Type 0} → ℕ → (List Word → A → Type 0) → List Word → A → Type 0
Opened levels rule ws x = (0 < levels) × rule ws x

-- the rule that the kind of the first word chooses
abbrev pub OneOf : {A : Type 0} → (Kind → List Word → A → Type 0) → List Word → A → Type 0
OneOf rules ws x = (kd : Kind) × rules kd ws x

-- ---- whole texts

-- a fault of what an operator joins, which stands at the operator
abbrev pub IsOfJoining : Fault → Type 0
IsOfJoining NotAffine = Unit {0}
IsOfJoining CoefficientTooLarge = Unit {0}
IsOfJoining IndexTooLong = Unit {0}
IsOfJoining _ = ⊥

-- the place of one of these words
abbrev pub IsPlaceIn : ℕ → List Word → Type 0
IsPlaceIn place [] = ⊥
IsPlaceIn place (v ∷ vs) = (place ≡ v.place) ⊎ IsPlaceIn place vs

-- A fault stands at the word that decided it, w; one of joining may stand at a word before.
abbrev pub Stands : Fault → ℕ → List Word → Word → Type 0
Stands fault place front w = (place ≡ w.place) ⊎ (IsOfJoining fault × IsPlaceIn place front)

-- The words as far as the next one, which decides it, are the beginning of no text of the rule.
pub record IsRefusedAt {A : Type 0} (language : Language) (rule : List Word → A → Type 0) (z : Text) (fault : Fault) (place : ℕ) : Type 0 where
  pub front : List Word
  pub rest : List Word
  pub words : words_of language z ≡ front ++ rest
  pub at : Stands fault place front (next_word (length z) rest)
  pub refused : (other : Text) (more : List Word) → words_of language other ≡ front ++ more → next_word (length other) more ≡ next_word (length z) rest
      → is_nil more ≡ is_nil rest
      → (x : A) → rule (words_of language other) x → ⊥

-- the cause of a refusal; want of memory has none
abbrev pub IsRefused : {A : Type 0} → Language → (List Word → A → Type 0) → Text → ReadError → Type 0
IsRefused language rule z Memory = Unit {0}
IsRefused language rule z (Refused fault place) = IsRefusedAt language rule z fault place

-- the first word is of this kind
abbrev pub BeginsWith : Kind → List Word → Type 0
BeginsWith kd [] = ⊥
BeginsWith kd (w ∷ ws) = w.kind ≡ kd

-- the rule, where its first word is of this kind
abbrev pub Starting : {A : Type 0} → Kind → (List Word → A → Type 0) → List Word → A → Type 0
Starting kd rule ws x = rule ws x × BeginsWith kd ws
