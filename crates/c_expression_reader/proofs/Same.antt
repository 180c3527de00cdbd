-- The reader as code opens it is the reader of C's expressions.
use Rattle.std.proofs.Common.{◌≡◌, ℕ, zero, suc, [], ◌∷◌, Option, Some, None, Result, Ok, Err, refl, ap, ◌∙◌}
use Rattle.std.specs.Prelude.{if◌then◌else◌, codes}
use Rattle.text_tokens.specs.declared.kind.Kind.TheVariants as k
use Rattle.text_tokens.specs.Spelled.{name_token}
use Rattle.text_tokens.specs.Words.{Input, Word, peek}
use Rattle.loop_lang.specs.declared.index.Iexp.{Iexp}
use Rattle.reader_laws.specs.declared.fault.Fault.{Fault}
use Rattle.reader_laws.specs.Steps.{Parser, ◌>>=◌, ◌>>◌, a_word, kind, no_value, open_level, pure, take_word, unexpected}
use Rattle.reader_laws.specs.Chain.{chain, go_on, joined}
use Rattle.c_words.specs.Tokens.{AndAnd, sign}
use Rattle.c_print.specs.declared.level.Level.{Level}
use Rattle.c_print.specs.declared.level.Level.TheVariants.{Choice, Sum, Product, Part}
use Rattle.c_text.specs.Expression.{Scope, Value, choice_sign, choices, chosen, converted_value, larger_value, load_value, max_chain, products, relations, sums}
use Rattle.c_text.specs.Expression as grammar
use Rattle.c_read.specs.Names.{buffer}
use Rattle.c_read.specs.Parts.{around, checked, expect_all, opened, optional, until}
use Rattle.c_read.specs.Expressions as reading
use Rattle.c_expression_reader.specs.Values.{placed}
use Rattle.c_expression_reader.specs.Expressions.{answer, by_level, checked_at, choice, converted, if_choice, in_brackets, in_parens, index_number, inner}
use Rattle.c_expression_reader.specs.Expressions.{inner_index, larger, load, loop_variable, more_tests, one_more, parenthesized, part, part_by, product}
use Rattle.c_expression_reader.specs.Expressions.{relation, second, second_side, sides, size, sum, tests, turn, two, word_number}

-- a joining at the first word
joined_same : {A : Type 0} (w : Word) (r : Result A Fault) → answer (placed w.place r) ≡ joined w r pure
joined_same w (Ok x) = refl
joined_same w (Err fault) = refl

checked_same : {A B : Type 0} (f : A → Result B Fault) (p : Parser A) → checked_at f p ≡ checked f p
checked_same f p = λ j i. (p >>= (λ x. joined_same (peek i) (f x) j)) i

module _ (scope : Scope) (below : Level → Parser Value) (levels : ℕ) where
  index_same : inner_index scope below levels ≡ reading.inner_index scope below levels
  unfolding inner_index
  index_same = checked_same reading.as_index (below Choice)

  brackets_same : in_brackets scope below levels ≡ reading.in_brackets scope below levels
  unfolding in_brackets
  brackets_same = ap (λ (p : Parser Iexp). opened levels [] (sign k.LBracket ∷ []) (sign k.RBracket ∷ []) p) index_same

  load_same : load scope below levels ≡ reading.part_by scope below levels reading.OfBuffer
  unfolding load
  load_same = ap (λ (p : Parser Iexp). (a_word k.Name (buffer scope) >>= (λ b. p >>= (λ i. pure (b, i)))) >>= (λ e. pure (load_value e))) brackets_same

  larger_same : larger scope below levels ≡ reading.part_by scope below levels reading.OfTop
  unfolding larger two second
  larger_same = ap (λ (p : Parser Iexp).
      (if scope.in_length
      then opened levels (name_token (codes "top") ∷ []) (sign k.LParen ∷ []) (sign k.RParen ∷ [])
      (p >>= (λ a. (expect_all (sign k.Comma ∷ []) >>= (λ u. p)) >>= (λ b. pure (a, b))))
      else unexpected)
      >>= (λ e. pure (larger_value e))) index_same

  converted_same : converted scope below levels ≡ reading.converted scope below levels
  unfolding converted
  converted_same = ap (λ (p : Parser Iexp). around (name_token (codes "uint64_t") ∷ sign k.RParen ∷ sign k.LParen ∷ []) (sign k.RParen ∷ []) p >>= (λ i.
      pure (converted_value i))) index_same

  parens_same : in_parens scope below levels ≡ reading.in_parens scope below levels
  unfolding in_parens parenthesized
  parens_same = ap (λ (p : Parser Value). open_level levels >> (expect_all (sign k.LParen ∷ []) >>= (λ u i.
      (if reading.converts (peek i) then p else reading.parenthesized scope below levels) i))) converted_same

  part_by_same : (s : reading.Start) → part_by scope below levels s ≡ reading.part_by scope below levels s
  unfolding index_number word_number size loop_variable
  part_by_same reading.IndexNumber = refl
  part_by_same reading.WordNumber = refl
  part_by_same reading.OfSize = refl
  part_by_same reading.OfLoop = refl
  part_by_same reading.OfBuffer = load_same
  part_by_same reading.OfTop = larger_same
  part_by_same reading.Opening = parens_same
  part_by_same reading.Nothing = refl

  part_same : part scope below levels ≡ reading.part scope below levels
  unfolding part
  part_same = λ j i. part_by_same (reading.start_of (peek i)) j i

  product_same : product scope below levels ≡ reading.product scope below levels
  unfolding product
  product_same = ap (λ (p : Parser Value). p >>= chain (products levels) (λ n a o. below Part) max_chain) part_same

  sum_same : sum scope below levels ≡ reading.sum scope below levels
  unfolding sum
  sum_same = ap (λ (p : Parser Value). p >>= chain (sums levels) (λ n a o. below Product) max_chain) product_same

  relation_same : relation scope below levels ≡ reading.relation scope below levels
  unfolding relation
  relation_same = ap (λ (p : Parser Value). p >>= chain relations (λ n a o. p) 1) sum_same

  tests_same : tests scope below levels ≡ reading.tests scope below levels
  unfolding tests more_tests one_more
  tests_same =
      (λ j. relation scope below levels >>= until reading.goes_and (λ left.
      checked_same (grammar.joined left) (a_word AndAnd no_value >>= (λ u. relation scope below levels)) j) pure)
      ∙ ap (λ (p : Parser Value). p >>= until reading.goes_and (λ left. checked (grammar.joined left) (a_word AndAnd no_value >>= (λ u. p))) pure)
      relation_same

  choice_by : (o : Option (Unit {0})) (left : Value) (i : Input)
      → go_on o left (λ o. turn levels (sides scope below levels) (chosen left)) i
      ≡ go_on o left (λ o. (open_level levels >> (take_word >> sides scope below levels)) >>= (λ right. joined (peek i) (chosen left right) pure)) i
  unfolding turn
  choice_by None left i = refl
  choice_by (Some o) left i = λ j.
      ((open_level levels >> (take_word >> sides scope below levels)) >>= (λ right. joined_same (peek i) (chosen left right) j)) i

  choice_same : choice scope below levels ≡ reading.choice scope below levels
  unfolding choice if_choice sides second_side choices
  choice_same =
      (λ j. tests scope below levels >>= (λ left i. choice_by (choice_sign (kind i)) left i j))
      ∙ ap (λ (p : Parser Value). p >>= optional (choices levels) (λ o. reading.sides scope below levels)) tests_same

  by_level_same : (place : Level) → by_level scope below levels place ≡ reading.by_level scope below levels place
  by_level_same Choice = choice_same
  by_level_same Sum = sum_same
  by_level_same Product = product_same
  by_level_same Part = part_same

pub inner_same : (scope : Scope) (levels : ℕ) → inner scope levels ≡ reading.inner scope levels
unfolding inner
inner_same scope zero = refl
inner_same scope (suc levels) =
    (λ j place. by_level_same scope (inner scope levels) levels place j)
    ∙ ap (λ (below : Level → Parser Value). reading.by_level scope below levels) (inner_same scope levels)

-- ---- what is read for callers

pub index_is : (scope : Scope) (levels : ℕ) (i : Input)
    → inner_index scope (inner scope levels) levels i ≡ checked reading.as_index (reading.inner scope levels Choice) i
index_is scope levels i = ap (λ (p : Parser Iexp). p i) (index_same scope (inner scope levels) levels)
    ∙ ap (λ (below : Level → Parser Value). checked reading.as_index (below Choice) i) (inner_same scope levels)

pub brackets_is : (scope : Scope) (levels : ℕ) (i : Input)
    → in_brackets scope (inner scope levels) levels i ≡ reading.in_brackets scope (reading.inner scope levels) levels i
brackets_is scope levels i = ap (λ (p : Parser Iexp). p i) (brackets_same scope (inner scope levels) levels)
    ∙ ap (λ (below : Level → Parser Value). reading.in_brackets scope below levels i) (inner_same scope levels)

pub tests_is : (scope : Scope) (levels : ℕ) (i : Input)
    → checked_at reading.as_tests (inner scope levels Choice) i ≡ checked reading.as_tests (reading.inner scope levels Choice) i
tests_is scope levels i = ap (λ (p : Parser _). p i) (checked_same reading.as_tests (inner scope levels Choice))
    ∙ ap (λ (below : Level → Parser Value). checked reading.as_tests (below Choice) i) (inner_same scope levels)

pub word_is : (scope : Scope) (levels : ℕ) (i : Input)
    → checked_at reading.as_word (choice scope (inner scope levels) levels) i ≡ checked reading.as_word (reading.expression scope levels Choice) i
word_is scope levels i = ap (λ (p : Parser _). p i) (checked_same reading.as_word (choice scope (inner scope levels) levels))
    ∙ ap (λ (p : Parser Value). checked reading.as_word p i) (choice_same scope (inner scope levels) levels)
    ∙ ap (λ (below : Level → Parser Value). checked reading.as_word (reading.choice scope below levels) i) (inner_same scope levels)
