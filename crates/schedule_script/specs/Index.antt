-- Index expressions of a script: how they are read, and their grammar. Which words stand for which tree.
use Rattle.std.specs.Prelude.{ℕ, zero, suc, List, Option, Some, None}
use Rattle.text_tokens.specs.declared.kind.Kind.{Kind}
use Rattle.text_tokens.specs.declared.kind.Kind.TheVariants as k
use Rattle.text_tokens.specs.Words.{Word}
use Rattle.reader_laws.specs.Steps.{Parser, ◌>>=◌, pure, unexpected, kind, a_word, itself, no_value}
use Rattle.reader_laws.specs.Levels.{opening}
use Rattle.reader_laws.specs.Chain.{Links, chain}
use Rattle.reader_laws.specs.Grammar.{IsWordOf, IsNothing, Opened, OneOf, Both, IsChain}
use Rattle.schedule_script.specs.declared.tree.IxTree.{IxTree, Num, Name}
use Rattle.schedule_script.specs.Syntax as tree
use Rattle.schedule_script.specs.Depth.{limited}
use Rattle.schedule_script.specs.Words.{word_value, divisor_value, most_items}

-- how tight what stands inside a part is: a sum in parentheses, or one part behind a minus
pub data Level : Type 0 where
  Sum : Level
  Part : Level

-- ---- operators

abbrev pub sum_sign : Kind → Option Kind
sum_sign k.Plus = Some k.Plus
sum_sign k.Minus = Some k.Minus
sum_sign _ = None

abbrev pub product_sign : Kind → Option Kind
product_sign k.Star = Some k.Star
product_sign k.Slash = Some k.Slash
product_sign k.Percent = Some k.Percent
product_sign _ = None

-- Operators of an index open no level. What follows one is read together with what it makes of what stands before it, which must not be too deep.
unfoldable pub sums : Links IxTree IxTree Kind
sums = record { operator = sum_sign; room = λ n. 1; join = λ o a b. limited b }

unfoldable pub products : Links IxTree IxTree Kind
products = record { operator = product_sign; room = λ n. 1; join = λ o a b. limited b }

-- ---- numbers and names

unfoldable pub number_part : Parser IxTree
number_part = a_word k.Number word_value >>= λ n. pure (Num n)

unfoldable pub name_part : Parser IxTree
name_part = a_word k.Name itself >>= λ t. pure (Name t)

abbrev pub IsNumberPart : List Word → IxTree → Type 0
IsNumberPart = Both (IsWordOf k.Number word_value) (λ n. IsNothing (Num n))

abbrev pub IsNamePart : List Word → IxTree → Type 0
IsNamePart = Both (IsWordOf k.Name itself) (λ t. IsNothing (Name t))

-- ---- how an index is read; `inside` reads what a level below holds, and `levels` is how many may still be opened

module _ (inside : Level → Parser IxTree) (levels : ℕ) where
  unfoldable pub parenthesized : Parser IxTree
  parenthesized = opening levels k.LParen >>= λ _. (inside Sum >>= λ x. (a_word k.RParen no_value >>= λ _. pure x))

  unfoldable pub negated : Parser IxTree
  negated = opening levels k.Minus >>= λ _. (inside Part >>= λ x. pure (tree.negation x))

  abbrev pub part_by : Kind → Parser IxTree
  part_by k.Number = number_part
  part_by k.Name = name_part
  part_by k.LParen = parenthesized
  part_by k.Minus = negated
  part_by _ = unexpected

  unfoldable pub part : Parser IxTree
  part = λ i. part_by (kind i) i

  -- what follows an operator of a product, joined to what stands before it
  abbrev pub factor_after : Kind → IxTree → Parser IxTree
  factor_after k.Star a = part >>= λ b. pure (tree.product a b)
  factor_after k.Slash a = a_word k.Number divisor_value >>= λ n. pure (tree.quotient a n)
  factor_after k.Percent a = a_word k.Number divisor_value >>= λ n. pure (tree.remainder a n)
  factor_after _ a = unexpected

  -- what follows in a product, so many operators at most
  abbrev pub more_factors : ℕ → IxTree → Parser IxTree
  more_factors n a = chain products (λ m b o. factor_after o b) n a

  unfoldable pub product : Parser IxTree
  product = part >>= more_factors most_items

  -- what follows a sign, joined to what stands before it
  abbrev pub summand_after : Kind → IxTree → Parser IxTree
  summand_after k.Plus a = product >>= λ b. pure (tree.sum a b)
  summand_after k.Minus a = product >>= λ b. pure (tree.difference a b)
  summand_after _ a = unexpected

  -- what follows in a sum, so many signs at most
  abbrev pub more_summands : ℕ → IxTree → Parser IxTree
  more_summands n a = chain sums (λ m b o. summand_after o b) n a

  unfoldable pub sum : Parser IxTree
  sum = product >>= more_summands most_items

  abbrev pub by_level : Level → Parser IxTree
  by_level Sum = sum
  by_level Part = part

unfoldable pub inner : ℕ → Level → Parser IxTree
inner zero level = unexpected
inner (suc levels) level = by_level (inner levels) levels level

-- an index, where so many levels are left
abbrev pub index : ℕ → Parser IxTree
index levels = sum (inner levels) levels

-- ---- the grammar; `below` is what a level below holds

module _ (below : Level → List Word → IxTree → Type 0) (levels : ℕ) where
  abbrev pub IsParenthesized : List Word → IxTree → Type 0
  IsParenthesized = Opened levels (Both (IsWordOf k.LParen no_value) (λ _. Both (below Sum) (λ x. Both (IsWordOf k.RParen no_value) (λ _. IsNothing x))))

  abbrev pub IsNegated : List Word → IxTree → Type 0
  IsNegated = Opened levels (Both (IsWordOf k.Minus no_value) (λ _. Both (below Part) (λ x. IsNothing (tree.negation x))))

  abbrev pub IsPartBy : Kind → List Word → IxTree → Type 0
  IsPartBy k.Number = IsNumberPart
  IsPartBy k.Name = IsNamePart
  IsPartBy k.LParen = IsParenthesized
  IsPartBy k.Minus = IsNegated
  IsPartBy _ = λ ws x. ⊥

  abbrev pub IsPart : List Word → IxTree → Type 0
  IsPart = OneOf IsPartBy

  abbrev pub IsFactorAfter : Kind → IxTree → List Word → IxTree → Type 0
  IsFactorAfter k.Star a = Both IsPart (λ b. IsNothing (tree.product a b))
  IsFactorAfter k.Slash a = Both (IsWordOf k.Number divisor_value) (λ n. IsNothing (tree.quotient a n))
  IsFactorAfter k.Percent a = Both (IsWordOf k.Number divisor_value) (λ n. IsNothing (tree.remainder a n))
  IsFactorAfter _ a = λ ws x. ⊥

  abbrev pub AreFactors : ℕ → IxTree → List Word → IxTree → Type 0
  AreFactors n a = IsChain products (λ m b o. IsFactorAfter o b) n a

  abbrev pub IsProduct : List Word → IxTree → Type 0
  IsProduct = Both IsPart (AreFactors most_items)

  abbrev pub IsSummandAfter : Kind → IxTree → List Word → IxTree → Type 0
  IsSummandAfter k.Plus a = Both IsProduct (λ b. IsNothing (tree.sum a b))
  IsSummandAfter k.Minus a = Both IsProduct (λ b. IsNothing (tree.difference a b))
  IsSummandAfter _ a = λ ws x. ⊥

  abbrev pub AreSummands : ℕ → IxTree → List Word → IxTree → Type 0
  AreSummands n a = IsChain sums (λ m b o. IsSummandAfter o b) n a

  abbrev pub IsSum : List Word → IxTree → Type 0
  IsSum = Both IsProduct (AreSummands most_items)

  abbrev pub IsByLevel : Level → List Word → IxTree → Type 0
  IsByLevel Sum = IsSum
  IsByLevel Part = IsPart

abbrev pub IsInner : ℕ → Level → List Word → IxTree → Type 0
IsInner zero level = λ ws x. ⊥
IsInner (suc levels) level = IsByLevel (IsInner levels) levels level

abbrev pub IsIndex : ℕ → List Word → IxTree → Type 0
IsIndex levels = IsSum (IsInner levels) levels
