-- The grammar of C's expressions: which words stand for which index, word or tests.
use Rattle.std.specs.Prelude.{◌≡◌, ◌<◌, ◌^◌, ℕ, zero, suc, Bool, true, ℤ, pos, List, [], ◌∷◌, ◌++◌, Option, Some, None, Result, Ok, Err, codes}
use Rattle.affine_index.specs.declared.cond.Rel.{Rel}
use Rattle.affine_index.specs.declared.cond.Rel.TheVariants.{Lt, Le, Gt, Ge, Eq}
use Rattle.text_tokens.specs.declared.kind.Kind.{Kind}
use Rattle.text_tokens.specs.declared.kind.Kind.TheVariants as k
use Rattle.text_tokens.specs.Words.{Word}
use Rattle.loop_lang.specs.declared.index.Iexp.{Iexp, Lit, Size, Loop}
use Rattle.loop_lang.specs.declared.index.Test.{Test}
use Rattle.loop_lang.specs.declared.word.Buf.{Buf}
use Rattle.loop_lang.specs.declared.word.Buf.TheVariants.{Input, Output, Scratch}
use Rattle.loop_lang.specs.declared.word.Wexp.{Wexp}
use Rattle.loop_lang.specs.declared.word.Wexp as word
use Rattle.loop_lang.specs.Syntax.{index_sum, index_difference, index_product, index_quotient, index_remainder}
use Rattle.loop_lang.specs.Syntax.{index_larger, word_sum, word_difference, word_product, word_choice}
use Rattle.c_print.specs.declared.level.Level.{Level}
use Rattle.c_print.specs.declared.level.Level.TheVariants.{Choice, Sum, Product, Part}
use Rattle.c_print.specs.Index.{size_name, loop_name}
use Rattle.c_print.specs.Word.{buffer_name}
use Rattle.reader_laws.specs.declared.fault.Fault.{Fault}
use Rattle.reader_laws.specs.declared.fault.Fault.TheVariants.{NotAffine}
use Rattle.reader_laws.specs.Chain.{Links}
use Rattle.reader_laws.specs.Grammar.{Both, IsChain, Opened}
use Rattle.text_tokens.specs.Spelled.{Token, name_token, number_token}
use Rattle.c_words.specs.Tokens.{AndAnd, Question, sign}
use Rattle.c_text.specs.Rules.{Around, IsToken, Made}

-- what an operator joins is of the wrong kind, or a whole expression is; the readers' fault of joining stands for it
pattern abbrev pub WrongKind : Fault
WrongKind = NotAffine

-- an expression has one of three kinds
pub data Value : Type 0 where
  OfIndex : Iexp → Value
  OfWord : Wexp → Value
  -- comparisons that must all hold
  OfTests : List Test → Value

-- what may be named
pub record Scope : Type 0 where
  pub sizes : ℕ
  pub inputs : ℕ
  pub outputs : ℕ
  pub scratch : ℕ
  -- how many loops there are around
  pub loops : ℕ
  -- whether it is the length of a buffer, where `top` may stand
  pub in_length : Bool

-- ---- operators

pub data Operator : Type 0 where
  Plus : Operator
  Minus : Operator
  Times : Operator
  Over : Operator
  Modulo : Operator

-- by a literal above 0
abbrev pub by_literal : (ℕ → Iexp) → ℤ → Result Value Fault
by_literal make (pos (suc n)) = Ok (OfIndex (make (suc n)))
by_literal make n = Err WrongKind

-- what an operator makes of two values, where their kinds are right
abbrev pub join : Operator → Value → Value → Result Value Fault
join Plus (OfIndex a) (OfIndex b) = Ok (OfIndex (index_sum a b))
join Minus (OfIndex a) (OfIndex b) = Ok (OfIndex (index_difference a b))
join Times (OfIndex a) (OfIndex b) = Ok (OfIndex (index_product a b))
join Over (OfIndex a) (OfIndex (Lit n)) = by_literal (index_quotient a) n
join Modulo (OfIndex a) (OfIndex (Lit n)) = by_literal (index_remainder a) n
join Plus (OfWord a) (OfWord b) = Ok (OfWord (word_sum a b))
join Minus (OfWord a) (OfWord b) = Ok (OfWord (word_difference a b))
join Times (OfWord a) (OfWord b) = Ok (OfWord (word_product a b))
join o a b = Err WrongKind

-- a comparison of two indices
abbrev pub compared : Rel → Value → Value → Result Value Fault
compared r (OfIndex a) (OfIndex b) = Ok (OfTests (record { left = a; rel = r; right = b } ∷ []))
compared r a b = Err WrongKind

-- tests joined by `&&` are one list
abbrev pub joined : Value → Value → Result Value Fault
joined (OfTests a) (OfTests b) = Ok (OfTests (a ++ b))
joined a b = Err WrongKind

-- a choice of two words by tests
abbrev pub chosen : Value → Value × Value → Result Value Fault
chosen (OfTests cs) (OfWord a, OfWord b) = Ok (OfWord (word_choice cs a b))
chosen c p = Err WrongKind

abbrev pub sum_operator : Kind → Option Operator
sum_operator k.Plus = Some Plus
sum_operator k.Minus = Some Minus
sum_operator kd = None

abbrev pub product_operator : Kind → Option Operator
product_operator k.Star = Some Times
product_operator k.Slash = Some Over
product_operator k.Percent = Some Modulo
product_operator kd = None

abbrev pub relation : Kind → Option Rel
relation k.Less = Some Lt
relation k.LessEqual = Some Le
relation k.Greater = Some Gt
relation k.GreaterEqual = Some Ge
relation k.Equal = Some Eq
relation kd = None

abbrev pub and_sign : Kind → Option (Unit {0})
and_sign AndAnd = Some tt
and_sign kd = None

abbrev pub choice_sign : Kind → Option (Unit {0})
choice_sign Question = Some tt
choice_sign kd = None

-- each of `+ - * / %` opens a level until its right operand ends
unfoldable pub sums : ℕ → Links Value Value Operator
sums levels = record { operator = sum_operator; room = λ n. levels; join = join }

unfoldable pub products : ℕ → Links Value Value Operator
products levels = record { operator = product_operator; room = λ n. levels; join = join }

-- comparisons and `&&` open none
unfoldable pub relations : Links Value Value Rel
relations = record { operator = relation; room = λ n. 1; join = compared }

unfoldable pub ands : Links Value Value (Unit {0})
ands = record { operator = and_sign; room = λ n. 1; join = λ o a b. joined a b }

-- `?` opens a level until the choice ends
unfoldable pub choices : ℕ → Links Value (Value × Value) (Unit {0})
choices levels = record { operator = choice_sign; room = λ n. levels; join = λ o a b. chosen a b }

-- the 1,001st operator of a chain counts as opening level 1,001
unfoldable pub max_chain : ℕ
max_chain = 1000

-- ---- what stands alone

pub data PartForm : Type 0 where
  IndexLiteral : PartForm
  WordLiteral : PartForm
  SizeName : PartForm
  LoopName : PartForm
  Element : PartForm
  Larger : PartForm
  Parenthesized : PartForm
  Converted : PartForm

abbrev pub index_literal : ℕ → Value
index_literal n = OfIndex (Lit (pos n))

abbrev pub word_literal : ℕ → Value
word_literal n = OfWord (word.Lit n)

abbrev pub size_value : ℕ → Value
size_value n = OfIndex (Size n)

abbrev pub loop_value : ℕ → Value
loop_value n = OfIndex (Loop n)

abbrev pub load_value : Buf × Iexp → Value
load_value e = OfWord (word.Load e.0 e.1)

abbrev pub larger_value : Iexp × Iexp → Value
larger_value e = OfIndex (index_larger e.0 e.1)

abbrev pub converted_value : Iexp → Value
converted_value i = OfWord (word.OfIndex i)

-- the buffer is there
abbrev pub HasBuffer : Scope → Buf → Type 0
HasBuffer s (Input n) = n < s.inputs
HasBuffer s (Output n) = n < s.outputs
HasBuffer s (Scratch n) = n < s.scratch

-- a number below a bound
abbrev pub IsNumber : ℕ → List Word → ℕ → Type 0
IsNumber limit = IsToken number_token (λ n. n < limit)

-- an expression of kind index, word or tests
abbrev pub Index : (List Word → Value → Type 0) → List Word → Iexp → Type 0
Index rule ws i = rule ws (OfIndex i)

abbrev pub AWord : (List Word → Value → Type 0) → List Word → Wexp → Type 0
AWord rule ws w = rule ws (OfWord w)

abbrev pub Tests : (List Word → Value → Type 0) → List Word → List Test → Type 0
Tests rule ws cs = rule ws (OfTests cs)

-- `below` is what a level below holds, and `levels` is how many may still be opened
module _ (scope : Scope) (below : Level → List Word → Value → Type 0) (levels : ℕ) where
  -- `( .. )` one level further in, behind these tokens
  abbrev pub InParens : {A : Type 0} → List Token → (List Word → A → Type 0) → List Word → A → Type 0
  InParens before rule = Opened levels (Around (before ++ sign k.LParen ∷ []) (sign k.RParen ∷ []) rule)

  -- `[ .. ]` likewise
  abbrev pub InBrackets : {A : Type 0} → (List Word → A → Type 0) → List Word → A → Type 0
  InBrackets rule = Opened levels (Around (sign k.LBracket ∷ []) (sign k.RBracket ∷ []) rule)

  abbrev pub IsBuffer : List Word → Buf → Type 0
  IsBuffer = IsToken (λ b. name_token (buffer_name b)) (HasBuffer scope)

  -- a place of a buffer
  abbrev pub IsElement : List Word → Buf × Iexp → Type 0
  IsElement = Both IsBuffer (λ b. Made (λ i. (b, i)) (InBrackets (Index (below Choice))))

  abbrev pub IsTwo : List Word → Iexp × Iexp → Type 0
  IsTwo = Both (Index (below Choice)) (λ a. Made (λ b. (a, b)) (Around (sign k.Comma ∷ []) [] (Index (below Choice))))

  abbrev pub IsLarger : List Word → Iexp × Iexp → Type 0
  IsLarger ws e = (scope.in_length ≡ true) × InParens (name_token (codes "top") ∷ []) IsTwo ws e

  abbrev pub IsPartBy : PartForm → List Word → Value → Type 0
  IsPartBy IndexLiteral = Made index_literal (InParens (name_token (codes "INT64_C") ∷ []) (IsNumber (2 ^ 63)))
  IsPartBy WordLiteral = Made word_literal (InParens (name_token (codes "UINT64_C") ∷ []) (IsNumber (2 ^ 64)))
  IsPartBy SizeName = Made size_value (IsToken (λ n. name_token (size_name n)) (λ n. n < scope.sizes))
  IsPartBy LoopName = Made loop_value (IsToken (λ n. name_token (loop_name n)) (λ n. n < scope.loops))
  IsPartBy Element = Made load_value IsElement
  IsPartBy Larger = Made larger_value IsLarger
  IsPartBy Parenthesized = InParens [] (below Choice)
  IsPartBy Converted = Made converted_value (InParens (sign k.LParen ∷ name_token (codes "uint64_t") ∷ sign k.RParen ∷ []) (Index (below Choice)))

  abbrev pub IsPart : List Word → Value → Type 0
  IsPart ws x = (form : PartForm) × IsPartBy form ws x

  -- ---- chains, from the tightest operator

  abbrev pub IsProduct : List Word → Value → Type 0
  IsProduct = Both IsPart (λ x. IsChain (products levels) (λ n a o. below Part) max_chain x)

  abbrev pub IsSum : List Word → Value → Type 0
  IsSum = Both IsProduct (λ x. IsChain (sums levels) (λ n a o. below Product) max_chain x)

  -- one comparison at most
  abbrev pub IsRelation : List Word → Value → Type 0
  IsRelation = Both IsSum (λ x. IsChain relations (λ n a o. IsSum) 1 x)

  -- any number of comparisons
  abbrev pub AreMore : Value → List Word → Value → Type 0
  AreMore x ws y = (n : ℕ) × IsChain ands (λ m a o. IsRelation) n x ws y

  abbrev pub IsAnd : List Word → Value → Type 0
  IsAnd = Both IsRelation AreMore

  -- the two sides of a choice
  abbrev pub IsSides : List Word → Value × Value → Type 0
  IsSides = Both (below Choice) (λ a. Made (λ b. (a, b)) (Around (sign k.Colon ∷ []) [] (below Choice)))

  -- one choice at most
  abbrev pub IsChoice : List Word → Value → Type 0
  IsChoice = Both IsAnd (λ x. IsChain (choices levels) (λ n a o. IsSides) 1 x)

  abbrev pub IsByLevel : Level → List Word → Value → Type 0
  IsByLevel Choice = IsChoice
  IsByLevel Sum = IsSum
  IsByLevel Product = IsProduct
  IsByLevel Part = IsPart

-- one level further in than a place where so many levels are left
abbrev pub IsInner : Scope → ℕ → Level → List Word → Value → Type 0
IsInner scope zero place = λ ws x. ⊥
IsInner scope (suc levels) place = IsByLevel scope (IsInner scope levels) levels place

-- an expression, where so many levels are left; the place is the loosest that may stand
abbrev pub IsExpression : Scope → ℕ → Level → List Word → Value → Type 0
IsExpression scope levels place = IsByLevel scope (IsInner scope levels) levels place
