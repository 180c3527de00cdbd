-- The grammar of index expressions: which words stand for which form.
use Rattle.std.specs.Prelude.{ℕ, zero, suc, ◌^◌, pos, if◌then◌else◌, ◌==◌, nat_lt, List, Option, Some, None, Result, Ok, Err}
use Rattle.std.specs.Int.RustNames.{unsigned_abs}
use Rattle.text_tokens.specs.declared.kind.Kind.{Kind}
use Rattle.text_tokens.specs.declared.kind.Kind.TheVariants as k
use Rattle.text_tokens.specs.Kinds.{Text}
use Rattle.text_tokens.specs.Numbers.{number}
use Rattle.text_tokens.specs.Words.{Word}
use Rattle.affine_index.specs.Form.{literal_form}
use Rattle.affine_index.specs.Quotient.{quotient_of, remainder_of}
use Rattle.affine_index.specs.Sum.{difference_of, sum_of}
use Rattle.affine_index.specs.declared.form.Items.{Items}
use Rattle.reader_laws.specs.declared.fault.Fault.{Fault}
use Rattle.reader_laws.specs.declared.fault.Fault.TheVariants.{BadSyntax, NumberTooLarge}
use Rattle.reader_laws.specs.Steps.{no_value}
use Rattle.reader_laws.specs.Chain.{Links}
use Rattle.reader_laws.specs.Grammar.{IsWordOf, IsNothing, Opened, OneOf, Both, IsChain}
use Rattle.source_grammar.specs.declared.operator.Operator.{Operator}
use Rattle.source_grammar.specs.declared.operator.Operator.TheVariants.{Plus, Minus, Times, Over, Modulo}
use Rattle.source_grammar.specs.Limits.{literal_of, multiplied, tested}

-- how tight the operator of an index is: a sum or difference, a product, quotient or remainder, a part that stands alone
pub data Level : Type 0 where
  Sum : Level
  Product : Level
  Part : Level

-- what an operator makes of two forms
abbrev pub join : Operator → Items → Items → Result Items Fault
join Plus a b = tested (sum_of a b)
join Minus a b = tested (difference_of a b)
join Times a b = multiplied a b
join Over a b = tested (quotient_of a (unsigned_abs b.constant))
join Modulo a b = tested (remainder_of a (unsigned_abs b.constant))

-- ---- single words

abbrev pub literal_if : Option ℕ → Result Items Fault
literal_if None = Err NumberTooLarge
literal_if (Some n) = literal_of n

abbrev pub literal_value : Text → Result Items Fault
literal_value t = literal_if (number t)

abbrev pub divisor_if : Option ℕ → Result Items Fault
divisor_if None = Err NumberTooLarge
divisor_if (Some n) = if n == 0 then Err BadSyntax else (if nat_lt 2147483647 n then Err NumberTooLarge else Ok (literal_form (pos n)))

abbrev pub divisor_value : Text → Result Items Fault
divisor_value t = divisor_if (number t)

-- ---- operators

abbrev pub sum_operator : Kind → Option Operator
sum_operator k.Plus = Some Plus
sum_operator k.Minus = Some Minus
sum_operator _ = None

abbrev pub product_operator : Kind → Option Operator
product_operator k.Star = Some Times
product_operator k.Slash = Some Over
product_operator k.Percent = Some Modulo
product_operator _ = None

-- an operator of a sum
abbrev pub IsSign : Operator → Type 0
IsSign Plus = Unit {0}
IsSign Minus = Unit {0}
IsSign _ = ⊥

-- operators of an index open no level
unfoldable pub sums : Links Items Items Operator
sums = record { operator = sum_operator; room = λ n. 1; join = join }

unfoldable pub products : Links Items Items Operator
products = record { operator = product_operator; room = λ n. 1; join = join }

-- more operators than a text has
unfoldable pub max_text : ℕ
max_text = 2 ^ 63

-- ---- the grammar; `names` gives the form of a name, `below` is what a level below holds, and `levels` is how many may still be opened

module _ (names : Text → Result Items Fault) (below : Level → List Word → Items → Type 0) (levels : ℕ) where
  abbrev pub IsParenthesized : List Word → Items → Type 0
  IsParenthesized = Opened levels (Both (IsWordOf k.LParen no_value) (λ _. Both (below Sum) (λ x. Both (IsWordOf k.RParen no_value) (λ _. IsNothing x))))

  abbrev pub IsNegated : List Word → Items → Type 0
  IsNegated = Opened levels (Both (IsWordOf k.Minus no_value) (λ _. Both (below Part) (λ x. IsNothing (difference_of (literal_form (pos 0)) x))))

  abbrev pub IsPartBy : Kind → List Word → Items → Type 0
  IsPartBy k.Number = IsWordOf k.Number literal_value
  IsPartBy k.Name = IsWordOf k.Name names
  IsPartBy k.LParen = IsParenthesized
  IsPartBy k.Minus = IsNegated
  IsPartBy _ = λ ws x. ⊥

  abbrev pub IsPart : List Word → Items → Type 0
  IsPart = OneOf IsPartBy

  abbrev pub IsRight : Operator → List Word → Items → Type 0
  IsRight Over = IsWordOf k.Number divisor_value
  IsRight Modulo = IsWordOf k.Number divisor_value
  IsRight _ = IsPart

  abbrev pub IsProduct : List Word → Items → Type 0
  IsProduct = Both IsPart (λ x. IsChain products (λ n a o. IsRight o) max_text x)

  abbrev pub IsSum : List Word → Items → Type 0
  IsSum = Both IsProduct (λ x. IsChain sums (λ n a o. IsProduct) max_text x)

  abbrev pub IsByLevel : Level → List Word → Items → Type 0
  IsByLevel Sum = IsSum
  IsByLevel Product = IsProduct
  IsByLevel Part = IsPart

abbrev pub IsInner : (Text → Result Items Fault) → ℕ → Level → List Word → Items → Type 0
IsInner names zero level = λ ws x. ⊥
IsInner names (suc levels) level = IsByLevel names (IsInner names levels) levels level

abbrev pub IsIndex : (Text → Result Items Fault) → ℕ → Level → List Word → Items → Type 0
IsIndex names levels level = IsByLevel names (IsInner names levels) levels level
