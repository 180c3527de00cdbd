-- How index expressions are read.
use Rattle.std.specs.Prelude.{ℕ, zero, suc, ◌-◌, pos, Result}
use Rattle.text_tokens.specs.declared.kind.Kind.{Kind}
use Rattle.text_tokens.specs.declared.kind.Kind.TheVariants as k
use Rattle.text_tokens.specs.Kinds.{Text}
use Rattle.affine_index.specs.Form.{literal_form}
use Rattle.affine_index.specs.Sum.{difference_of}
use Rattle.affine_index.specs.declared.form.Items.{Items}
use Rattle.reader_laws.specs.declared.fault.Fault.{Fault}
use Rattle.reader_laws.specs.Steps.{Parser, ◌>>=◌, pure, unexpected, kind, no_value}
use Rattle.reader_laws.specs.Chain.{chain}
use Rattle.reader_laws.specs.Levels.{unexpected_in, word_in, opening}
use Rattle.source_grammar.specs.declared.operator.Operator.{Operator}
use Rattle.source_grammar.specs.declared.operator.Operator.TheVariants.{Over, Modulo}
use Rattle.source_grammar.specs.Index.{Level, Sum, Product, Part, literal_value, divisor_value, sums, products, max_text}

-- `inside` reads what a level below holds
module _ (names : Text → Result Items Fault) (inside : Level → Parser Items) (levels : ℕ) where
  unfoldable pub parenthesized : Parser Items
  parenthesized = opening levels k.LParen >>= λ _. (inside Sum >>= λ x. (word_in (levels - 1) k.RParen no_value >>= λ _. pure x))

  unfoldable pub negated : Parser Items
  negated = opening levels k.Minus >>= λ _. (inside Part >>= λ x. pure (difference_of (literal_form (pos 0)) x))

  abbrev pub part_by : Kind → Parser Items
  part_by k.Number = word_in levels k.Number literal_value
  part_by k.Name = word_in levels k.Name names
  part_by k.LParen = parenthesized
  part_by k.Minus = negated
  part_by _ = unexpected_in levels

  unfoldable pub part : Parser Items
  part = λ i. part_by (kind i) i

  abbrev pub right_of : Operator → Parser Items
  right_of Over = word_in levels k.Number divisor_value
  right_of Modulo = word_in levels k.Number divisor_value
  right_of _ = part

  unfoldable pub product : Parser Items
  product = part >>= λ x. chain products (λ n a o. right_of o) max_text x

  unfoldable pub sum : Parser Items
  sum = product >>= λ x. chain sums (λ n a o. product) max_text x

  abbrev pub by_level : Level → Parser Items
  by_level Sum = sum
  by_level Product = product
  by_level Part = part

unfoldable pub inner : (Text → Result Items Fault) → ℕ → Level → Parser Items
inner names zero level = unexpected
inner names (suc levels) level = by_level names (inner names levels) levels level

-- an index, where so many levels are left
abbrev pub index : (Text → Result Items Fault) → ℕ → Level → Parser Items
index names levels level = by_level names (inner names levels) levels level
