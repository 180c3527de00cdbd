-- A chain of operators that groups to the left, whatever is joined.
use Rattle.std.specs.Prelude.{ℕ, zero, suc, if◌then◌else◌, Option, Some, None, Result, Ok, Err}
use Rattle.text_tokens.specs.declared.kind.Kind.{Kind}
use Rattle.text_tokens.specs.Kinds.{same_kind}
use Rattle.text_tokens.specs.Words.{Word, peek}
use Rattle.reader_laws.specs.declared.fault.Fault.{Fault}
use Rattle.reader_laws.specs.declared.fault.Fault.TheVariants.{TooDeep}
use Rattle.reader_laws.specs.declared.fault.ReadError.TheVariants.{Refused}
use Rattle.reader_laws.specs.Steps.{Parser, ◌>>=◌, ◌>>◌, pure, refuse, take_word, open_level}

-- What a chain of values in A is made of: its operators are in O, and what stands to the right of one is in B.
pub record Links (A B O : Type 0) : Type 0 where
  pub operator : Kind → Option O
  -- how many levels may be opened, where so many operators may still come
  pub room : ℕ → ℕ
  pub join : O → A → B → Result A Fault

-- a fault of the joining stands at the operator
abbrev pub joined : {A : Type 0} → Word → Result A Fault → (A → Parser A) → Parser A
joined w (Ok x) more = more x
joined w (Err fault) more = λ i. Err (Refused fault w.place)

-- the end of a chain, or one operator more
abbrev pub go_on : {A O : Type 0} → Option O → A → (O → Parser A) → Parser A
go_on None left more = pure left
go_on (Some o) left more = more o

-- what follows `left`, so many operators at most; what each joins is read by `operand`
unfoldable pub chain : {A B O : Type 0} → Links A B O → (ℕ → A → O → Parser B) → ℕ → A → Parser A
chain links operand zero left = λ i. go_on (links.operator (peek i).kind) left (λ _. refuse TooDeep) i
chain links operand (suc n) left = λ i. go_on (links.operator (peek i).kind) left (λ o.
    open_level (links.room n) >> (take_word >> (operand n left o >>= λ right. joined (peek i) (links.join o left right) (chain links operand n)))) i

-- words of this kind
abbrev pub sign : Kind → Kind → Option (Unit {0})
sign a kd = if same_kind kd a then Some tt else None

-- what follows each word of this kind is added, and adding never fails
unfoldable pub signed : {A B : Type 0} → Kind → (A → B → A) → Links A B (Unit {0})
signed a add = record { operator = sign a; room = λ n. 1; join = λ o x y. Ok (add x y) }

-- items, each after a word of this kind, so many at most, added to what is there
unfoldable pub repeated : {A B : Type 0} → Kind → (A → B → A) → (A → Parser B) → ℕ → A → Parser A
repeated a add item n left = chain (signed a add) (λ m x o. item x) n left
