-- The grammar of terms.
use Rattle.std.specs.Prelude.{◌⊎◌, ℕ, zero, suc, ◌-◌, if◌then◌else◌, ◌==◌, nat_lt, List, ◌∷◌, Option, Some, None, Result, Ok, Err}
use Rattle.text_tokens.specs.declared.kind.Kind.{Kind}
use Rattle.text_tokens.specs.declared.kind.Kind.TheVariants as k
use Rattle.text_tokens.specs.Kinds.{Text}
use Rattle.text_tokens.specs.Numbers.{number}
use Rattle.text_tokens.specs.Words.{Word}
use Rattle.affine_index.specs.declared.aff.Aff.{Aff}
use Rattle.term_tree.specs.declared.term.Term.{Term, Lit, TVar, WordOf}
use Rattle.term_tree.specs.Syntax.{index, gen, sum, guard, let_in, add, sub, mul, concat, flatten, split, transpose, trunc_l, trunc_r, pad_l, pad_r}
use Rattle.reader_laws.specs.declared.fault.Fault.{Fault}
use Rattle.reader_laws.specs.declared.fault.Fault.TheVariants.{BadSyntax, NumberTooLarge}
use Rattle.reader_laws.specs.Steps.{itself, no_value}
use Rattle.reader_laws.specs.Chain.{Links}
use Rattle.reader_laws.specs.Grammar.{IsWordOf, IsNothing, Opened, OneOf, Both, IsChain}
use Rattle.source_grammar.specs.declared.sort.Sort.TheVariants.{OfIndex, OfTensor}
use Rattle.source_grammar.specs.Scope.{Entry, Scope, extent_name, index_name, tensor_name}
use Rattle.source_grammar.specs.Index.{IsIndex}
use Rattle.source_grammar.specs.Index.{Sum as index_sum}
use Rattle.source_grammar.specs.Conditions.{IsCondition}

-- where a term stands: any term, a sum or difference, a product, a factor
pub data Place : Type 0 where
  Whole : Place
  Sum : Place
  Product : Place
  Factor : Place

-- ---- single words

abbrev pub word_if : Option ℕ → Result ℕ Fault
word_if None = Err NumberTooLarge
word_if (Some n) = Ok n

abbrev pub word_value : Text → Result ℕ Fault
word_value t = word_if (number t)

abbrev pub tile_if : Option ℕ → Result ℕ Fault
tile_if None = Err NumberTooLarge
tile_if (Some n) = if n == 0 then Err BadSyntax else (if nat_lt 2147483647 n then Err NumberTooLarge else Ok n)

-- a tile size
abbrev pub tile_value : Text → Result ℕ Fault
tile_value t = tile_if (number t)

-- ---- operators

abbrev pub sum_sign : Kind → Option (Term → Term → Term)
sum_sign k.Plus = Some add
sum_sign k.Minus = Some sub
sum_sign _ = None

abbrev pub product_sign : Kind → Option (Term → Term → Term)
product_sign k.Star = Some mul
product_sign _ = None

abbrev pub bracket : Kind → Option (Unit {0})
bracket k.LBracket = Some tt
bracket _ = None

abbrev pub apply : (Term → Term → Term) → Term → Term → Result Term Fault
apply f a b = Ok (f a b)

-- each operator opens a level until its right operand ends
unfoldable pub sums : ℕ → Links Term Term (Term → Term → Term)
sums levels = record { operator = sum_sign; room = λ n. levels; join = apply }

unfoldable pub products : ℕ → Links Term Term (Term → Term → Term)
products levels = record { operator = product_sign; room = λ n. levels; join = apply }

-- a pair of brackets opens a level, which counts until the chain ends: where n pairs more may come, n levels are left within this one
unfoldable pub brackets : Links Term Aff (Unit {0})
brackets = record { operator = bracket; room = λ n. suc n; join = λ o a x. Ok (index a x) }

-- the 1,001st operator of a chain counts as opening level 1,001
unfoldable pub max_chain : ℕ
max_chain = 1000

abbrev pub index_entry : Text → Entry
index_entry t = record { name = t; sort = OfIndex }

abbrev pub tensor_entry : Text → Entry
tensor_entry t = record { name = t; sort = OfTensor }

-- `below` is what a level below holds
module _ (below : Place → Scope → List Word → Term → Type 0) (levels : ℕ) (scope : Scope) where
  abbrev pub IsExtent : List Word → Aff → Type 0
  IsExtent = IsIndex (extent_name scope) (levels - 1) index_sum

  -- ---- forms that bind or guard

  abbrev pub IsLoop : Kind → (Aff → Term → Term) → List Word → Term → Type 0
  IsLoop kd make = Opened levels
      (Both (IsWordOf kd no_value)
      (λ _. Both (IsWordOf k.Name itself) (λ name. Both (IsWordOf k.Less no_value) (λ _. Both IsExtent (λ n. Both (IsWordOf k.Dot no_value) (λ _.
      Both (below Whole (index_entry name ∷ scope)) (λ e. IsNothing (make n e))))))))

  abbrev pub IsGuard : List Word → Term → Type 0
  IsGuard = Opened levels
      (Both (IsWordOf k.Guard no_value)
      (λ _. Both (IsCondition (index_name scope) (levels - 1))
      (λ c. Both (IsWordOf k.Dot no_value) (λ _. Both (below Whole scope) (λ e. IsNothing (guard c e))))))

  abbrev pub IsLet : List Word → Term → Type 0
  IsLet = Opened levels
      (Both (IsWordOf k.Let no_value)
      (λ _. Both (IsWordOf k.Name itself) (λ name. Both (IsWordOf k.Assign no_value) (λ _. Both (below Whole scope) (λ a. Both (IsWordOf k.In no_value) (λ _.
      Both (below Whole (tensor_entry name ∷ scope)) (λ e. IsNothing (let_in a e))))))))

  abbrev pub IsBinderBy : Kind → List Word → Term → Type 0
  IsBinderBy k.Gen = IsLoop k.Gen gen
  IsBinderBy k.Sum = IsLoop k.Sum sum
  IsBinderBy k.Guard = IsGuard
  IsBinderBy k.Let = IsLet
  IsBinderBy kd = λ ws x. ⊥

  -- ---- what stands alone

  -- `( .. )` one level further in
  abbrev pub InParens : {A : Type 0} → (List Word → A → Type 0) → List Word → A → Type 0
  InParens rule = Opened levels (Both (IsWordOf k.LParen no_value) (λ _. Both rule (λ x. Both (IsWordOf k.RParen no_value) (λ _. IsNothing x))))

  abbrev pub IsOf : Kind → (Term → Term) → List Word → Term → Type 0
  IsOf kd make = Both (IsWordOf kd no_value) (λ _. InParens (Both (below Whole scope) (λ e. IsNothing (make e))))

  abbrev pub IsJoin : List Word → Term → Type 0
  IsJoin = Both (IsWordOf k.Concat no_value)
      (λ _. InParens (Both (below Whole scope) (λ a. Both (IsWordOf k.Comma no_value) (λ _. Both (below Whole scope) (λ e. IsNothing (concat a e))))))

  abbrev pub IsSplit : List Word → Term → Type 0
  IsSplit = Both (IsWordOf k.Split no_value)
      (λ _. InParens (Both (IsWordOf k.Number tile_value) (λ d. Both (IsWordOf k.Comma no_value) (λ _. Both (below Whole scope) (λ e. IsNothing (split d e))))))

  abbrev pub IsTrim : Kind → (Aff → Term → Term) → List Word → Term → Type 0
  IsTrim kd make = Both (IsWordOf kd no_value)
      (λ _. InParens (Both IsExtent (λ n. Both (IsWordOf k.Comma no_value) (λ _. Both (below Whole scope) (λ e. IsNothing (make n e))))))

  abbrev pub IsWordForm : List Word → Term → Type 0
  IsWordForm = Both (IsWordOf k.Word no_value) (λ _. InParens (Both (IsIndex (index_name scope) (levels - 1) index_sum) (λ x. IsNothing (WordOf x))))

  abbrev pub IsPrimaryBy : Kind → List Word → Term → Type 0
  IsPrimaryBy k.Number = Both (IsWordOf k.Number word_value) (λ w. IsNothing (Lit w))
  IsPrimaryBy k.Name = Both (IsWordOf k.Name (tensor_name scope)) (λ q. IsNothing (TVar q))
  IsPrimaryBy k.LParen = InParens (below Whole scope)
  IsPrimaryBy k.Flatten = IsOf k.Flatten flatten
  IsPrimaryBy k.Transpose = IsOf k.Transpose transpose
  IsPrimaryBy k.Concat = IsJoin
  IsPrimaryBy k.Split = IsSplit
  IsPrimaryBy k.TruncL = IsTrim k.TruncL trunc_l
  IsPrimaryBy k.TruncR = IsTrim k.TruncR trunc_r
  IsPrimaryBy k.PadL = IsTrim k.PadL pad_l
  IsPrimaryBy k.PadR = IsTrim k.PadR pad_r
  IsPrimaryBy k.Word = IsWordForm
  IsPrimaryBy kd = λ ws x. ⊥

  -- ---- chains

  abbrev pub IsInBrackets : ℕ → List Word → Aff → Type 0
  IsInBrackets n = Both (IsIndex (index_name scope) n index_sum) (λ x. Both (IsWordOf k.RBracket no_value) (λ _. IsNothing x))

  abbrev pub IsFactor : List Word → Term → Type 0
  IsFactor = Both (OneOf IsPrimaryBy) (λ x. IsChain brackets (λ n a o. IsInBrackets n) levels x)

  abbrev pub IsProduct : List Word → Term → Type 0
  IsProduct = Both IsFactor (λ x. IsChain (products levels) (λ n a o. below Factor scope) max_chain x)

  abbrev pub IsSum : List Word → Term → Type 0
  IsSum = Both IsProduct (λ x. IsChain (sums levels) (λ n a o. below Product scope) max_chain x)

  -- a form that binds or guards, or else a chain
  abbrev pub IsWhole : List Word → Term → Type 0
  IsWhole ws x = OneOf IsBinderBy ws x ⊎ IsSum ws x

  abbrev pub IsByPlace : Place → List Word → Term → Type 0
  IsByPlace Whole = IsWhole
  IsByPlace Sum = IsSum
  IsByPlace Product = IsProduct
  IsByPlace Factor = IsFactor

-- a term, where so many levels are left
abbrev pub IsInner : ℕ → Place → Scope → List Word → Term → Type 0
IsInner zero place scope = λ ws x. ⊥
IsInner (suc levels) place scope = IsByPlace (IsInner levels) levels scope place

abbrev pub IsTerm : ℕ → Place → Scope → List Word → Term → Type 0
IsTerm levels place scope = IsByPlace (IsInner levels) levels scope place
