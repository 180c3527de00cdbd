-- What an expression leaves is no longer than what there was; a test behind `&&` takes a word at least, so tests can be read one at a time.
use Rattle.std.proofs.Common.{◌≡◌, ◌≢◌, ℕ, zero, suc, ◌<◌, ◌^◌, Bool, true, false, cond, [], ◌∷◌, length, Option, Some, None, Result, Ok, Err, ap, ◌∙◌, arith}
use Rattle.text_tokens.specs.declared.kind.Kind.TheVariants as k
use Rattle.text_tokens.specs.Kinds.{same_kind}
use Rattle.text_tokens.specs.Words.{Input, peek}
use Rattle.reader_laws.specs.declared.fault.Fault.{Fault}
use Rattle.reader_laws.specs.declared.fault.ReadError.{ReadError}
use Rattle.reader_laws.specs.declared.fault.ReadError.TheVariants.{Memory}
use Rattle.reader_laws.specs.Steps.{Parser, ◌>>◌, a_word, and_then, kind, no_value, open_level, pure, take_word, unexpected}
use Rattle.reader_laws.specs.Chain.{go_on}
use Rattle.reader_laws.proofs.Outcomes.{then_ok}
use Rattle.c_print.specs.declared.level.Level.{Level}
use Rattle.c_print.specs.declared.level.Level.TheVariants.{Choice, Sum, Product, Part}
use Rattle.c_words.specs.Tokens.{AndAnd, sign}
use Rattle.c_text.specs.Expression.{Scope, Value, max_chain, products, relations, sums}
use Rattle.c_text.specs.Expression as grammar
use Rattle.c_read.specs.Names.{buffer, loop_number, numeral, size_number}
use Rattle.std.specs.Prelude.{codes}
use Rattle.text_tokens.specs.Spelled.{name_token}
use Rattle.c_read.specs.Parts.{opened}
use Rattle.c_read.specs.Expressions as reading
use Rattle.c_expression_reader.specs.Values.{placed}
use Rattle.c_expression_reader.specs.Expressions.{answer, by_level, choice, converted, if_choice, in_brackets, in_parens, index_number, inner, inner_index}
use Rattle.c_expression_reader.specs.Expressions.{larger, load, loop_variable, more_tests, one_more, parenthesized, part, part_by, product, relation, second}
use Rattle.c_expression_reader.specs.Expressions.{second_side, sides, size, sum, tests, turn, two, word_number}
use Rattle.c_expression_reader.proofs.Shorter.{Shorter, shorter_all, shorter_answer, shorter_around, shorter_chain, shorter_checked_at, shorter_none}
use Rattle.c_expression_reader.proofs.Shorter.{shorter_open, shorter_opened, shorter_pure, shorter_take, shorter_then, shorter_until, shorter_word, takes_word}
use Rattle.c_expression_reader.proofs.Until.{until_stop, until_turn}

shorter_turn : {B : Type 0} (room : ℕ) (operand : Parser B) (makes : B → Result Value Fault) → Shorter operand → Shorter (turn room operand makes)
unfolding turn
shorter_turn room operand makes so i j x h = shorter_then (open_level room >> (take_word >> operand)) (λ right. answer (placed (peek i).place (makes right)))
    (shorter_then (open_level room) _ (shorter_open room) (λ u. shorter_then take_word _ shorter_take (λ t. so)))
    (λ right. shorter_answer (placed (peek i).place (makes right))) i j x h

module _ (scope : Scope) (below : Level → Parser Value) (levels : ℕ) (inside : (place : Level) → Shorter (below place)) where
  index_short : Shorter (inner_index scope below levels)
  unfolding inner_index
  index_short = shorter_checked_at reading.as_index (below Choice) (inside Choice)

  brackets_short : Shorter (in_brackets scope below levels)
  unfolding in_brackets
  brackets_short = shorter_opened levels [] (sign k.LBracket ∷ []) (sign k.RBracket ∷ []) (inner_index scope below levels) index_short

  load_short : Shorter (load scope below levels)
  unfolding load
  load_short = shorter_then _ _ (shorter_then (a_word k.Name (buffer scope)) _ (shorter_word k.Name (buffer scope)) (λ b.
      shorter_then (in_brackets scope below levels) _ brackets_short (λ i. shorter_pure (b, i)))) (λ e. shorter_pure (grammar.load_value e))

  second_short : Shorter (second scope below levels)
  unfolding second
  second_short = shorter_then _ _ (shorter_all (sign k.Comma ∷ [])) (λ u. index_short)

  two_short : Shorter (two scope below levels)
  unfolding two
  two_short = shorter_then (inner_index scope below levels) _ index_short (λ a. shorter_then (second scope below levels) _ second_short (λ b.
      shorter_pure (a, b)))

  larger_short : Shorter (larger scope below levels)
  unfolding larger
  larger_short = shorter_then _ _ (go scope.in_length) (λ e. shorter_pure (grammar.larger_value e))
    where
      go : (b : Bool) → Shorter (cond b (opened levels
          (name_token (codes "top") ∷ []) (sign k.LParen ∷ []) (sign k.RParen ∷ [])
          (two scope below levels)) unexpected)
      go true = shorter_opened levels (name_token (codes "top") ∷ []) (sign k.LParen ∷ []) (sign k.RParen ∷ []) (two scope below levels) two_short
      go false = shorter_none

  converted_short : Shorter (converted scope below levels)
  unfolding converted
  converted_short = shorter_then _ _
      (shorter_around (name_token (codes "uint64_t") ∷ sign k.RParen ∷ sign k.LParen ∷ []) (sign k.RParen ∷ []) (inner_index scope below levels) index_short)
      (λ i. shorter_pure (grammar.converted_value i))

  parenthesized_short : Shorter (parenthesized scope below levels)
  unfolding parenthesized
  parenthesized_short = shorter_then (below Choice) _ (inside Choice) (λ x. shorter_then _ _ (shorter_all (sign k.RParen ∷ [])) (λ v. shorter_pure x))

  parens_short : Shorter (in_parens scope below levels)
  unfolding in_parens
  parens_short = shorter_then (open_level levels) _ (shorter_open levels) (λ u. shorter_then _ _ (shorter_all (sign k.LParen ∷ [])) (λ v i j x h.
      go (reading.converts (peek i)) i j x h))
    where
      go : (b : Bool) → Shorter (cond b (converted scope below levels) (parenthesized scope below levels))
      go true = converted_short
      go false = parenthesized_short

  by_start : (s : reading.Start) → Shorter (part_by scope below levels s)
  unfolding index_number word_number size loop_variable
  by_start reading.IndexNumber = shorter_then _ _
      (shorter_opened levels (name_token (codes "INT64_C") ∷ []) (sign k.LParen ∷ []) (sign k.RParen ∷ []) (a_word k.Number (numeral (2 ^ 63)))
      (shorter_word k.Number (numeral (2 ^ 63)))) (λ n. shorter_pure (grammar.index_literal n))
  by_start reading.WordNumber = shorter_then _ _
      (shorter_opened levels (name_token (codes "UINT64_C") ∷ []) (sign k.LParen ∷ []) (sign k.RParen ∷ []) (a_word k.Number (numeral (2 ^ 64)))
      (shorter_word k.Number (numeral (2 ^ 64)))) (λ n. shorter_pure (grammar.word_literal n))
  by_start reading.OfSize = shorter_then _ _ (shorter_word k.Name (size_number scope)) (λ n. shorter_pure (grammar.size_value n))
  by_start reading.OfLoop = shorter_then _ _ (shorter_word k.Name (loop_number scope)) (λ n. shorter_pure (grammar.loop_value n))
  by_start reading.OfBuffer = load_short
  by_start reading.OfTop = larger_short
  by_start reading.Opening = parens_short
  by_start reading.Nothing = shorter_none

  part_short : Shorter (part scope below levels)
  unfolding part
  part_short i j x h = by_start (reading.start_of (peek i)) i j x h

  product_short : Shorter (product scope below levels)
  unfolding product
  product_short = shorter_then (part scope below levels) _ part_short (shorter_chain (products levels) (λ n a o. below Part) (λ n a o. inside Part) max_chain)

  sum_short : Shorter (sum scope below levels)
  unfolding sum
  sum_short = shorter_then (product scope below levels) _ product_short
      (shorter_chain (sums levels) (λ n a o. below Product) (λ n a o. inside Product) max_chain)

  relation_short : Shorter (relation scope below levels)
  unfolding relation
  relation_short = shorter_then (sum scope below levels) _ sum_short (shorter_chain relations (λ n a o. sum scope below levels) (λ n a o. sum_short) 1)

  more_short : (left : Value) → Shorter (one_more scope below levels left)
  unfolding one_more
  more_short left = shorter_checked_at (grammar.joined left) _ (shorter_then (a_word AndAnd no_value) _ (shorter_word AndAnd no_value) (λ u. relation_short))

  tests_short : Shorter (tests scope below levels)
  unfolding tests more_tests
  tests_short = shorter_then (relation scope below levels) _ relation_short
      (shorter_until reading.goes_and (one_more scope below levels) pure more_short shorter_pure)

  second_side_short : Shorter (second_side scope below levels)
  unfolding second_side
  second_side_short = shorter_then _ _ (shorter_all (sign k.Colon ∷ [])) (λ u. inside Choice)

  sides_short : Shorter (sides scope below levels)
  unfolding sides
  sides_short = shorter_then (below Choice) _ (inside Choice) (λ a. shorter_then (second_side scope below levels) _ second_side_short (λ b.
      shorter_pure (a, b)))

  choice_short : Shorter (choice scope below levels)
  unfolding choice if_choice
  choice_short = shorter_then (tests scope below levels) _ tests_short (λ left i j x h. by (grammar.choice_sign (kind i)) left i j x h)
    where
      by : (o : Option (Unit {0})) (left : Value) → Shorter (go_on o left (λ o. turn levels (sides scope below levels) (grammar.chosen left)))
      by None left = shorter_pure left
      by (Some o) left = shorter_turn levels (sides scope below levels) (grammar.chosen left) sides_short

  level_short : (place : Level) → Shorter (by_level scope below levels place)
  level_short Choice = choice_short
  level_short Sum = sum_short
  level_short Product = product_short
  level_short Part = part_short

  -- ---- one test more

  pub more_takes : (left value : Value) (i j : Input) → one_more scope below levels left i ≡ Ok (value, j) → length j.words < length i.words
  unfolding one_more
  more_takes left value i j h =
      let a = then_ok _ (λ x. answer (placed (peek i).place (grammar.joined left x))) value j h in
      let b = then_ok (a_word AndAnd no_value i) (λ u. relation scope below levels) a.value a.at a.first in
      let one = takes_word AndAnd no_value (λ e. cc) i b.at b.value b.first in
      let two = relation_short b.at a.at a.value b.rest in
      let three = shorter_answer (placed (peek i).place (grammar.joined left a.value)) a.at j value a.rest in
      omega (arith, one, two, three)

pub inner_short : (scope : Scope) (levels : ℕ) (place : Level) → Shorter (inner scope levels place)
unfolding inner
inner_short scope zero place = shorter_none
inner_short scope (suc levels) place = level_short scope (inner scope levels) levels (inner_short scope levels) place

module _ (scope : Scope) (levels : ℕ) where
  pub tests_shorter : (left value : Value) (i j : Input) → one_more scope (inner scope levels) levels left i ≡ Ok (value, j) → length j.words < length i.words
  tests_shorter = more_takes scope (inner scope levels) levels (inner_short scope levels)

  pub tests_stop : (left : Value) (i : Input) → same_kind (kind i) AndAnd ≡ false → more_tests scope (inner scope levels) levels left i ≡ Ok (left, i)
  unfolding more_tests
  tests_stop left i h = until_stop reading.goes_and (one_more scope (inner scope levels) levels) pure tests_shorter left i h

  tests_turn : (left : Value) (i : Input) → same_kind (kind i) AndAnd ≡ true
      → more_tests scope (inner scope levels) levels left i
      ≡ and_then (one_more scope (inner scope levels) levels left i) (more_tests scope (inner scope levels) levels)
  unfolding more_tests
  tests_turn left i h = until_turn reading.goes_and (one_more scope (inner scope levels) levels) pure tests_shorter left i h

  pub tests_went : (left value : Value) (i j : Input) → same_kind (kind i) AndAnd ≡ true → one_more scope (inner scope levels) levels left i ≡ Ok (value, j)
      → more_tests scope (inner scope levels) levels left i ≡ more_tests scope (inner scope levels) levels value j
  tests_went left value i j h reads = tests_turn left i h ∙ ap (λ r. and_then r (more_tests scope (inner scope levels) levels)) reads

  pub tests_fell : (left : Value) (i : Input) (e : ReadError) → same_kind (kind i) AndAnd ≡ true
      → (e ≢ Memory → one_more scope (inner scope levels) levels left i ≡ Err e)
      → e ≢ Memory → more_tests scope (inner scope levels) levels left i ≡ Err e
  tests_fell left i e h reads not = tests_turn left i h ∙ ap (λ r. and_then r (more_tests scope (inner scope levels) levels)) (reads not)
