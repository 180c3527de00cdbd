-- The reader of C's expressions, production by production, as code opens it.
use Rattle.std.specs.Prelude.{ℕ, zero, suc, ◌^◌, if◌then◌else◌, [], ◌∷◌, Result, Ok, Err, codes, slice_index}
use Rattle.text_tokens.specs.declared.kind.Kind.TheVariants as k
use Rattle.text_tokens.specs.Spelled.{name_token}
use Rattle.text_tokens.specs.Words.{peek}
use Rattle.loop_lang.specs.declared.index.Iexp.{Iexp}
use Rattle.c_print.specs.declared.level.Level.{Level}
use Rattle.c_print.specs.declared.level.Level.TheVariants.{Choice, Sum, Product, Part}
use Rattle.reader_laws.specs.declared.fault.Fault.{Fault}
use Rattle.reader_laws.specs.declared.fault.ReadError.{ReadError}
use Rattle.reader_laws.specs.Steps.{Parser, ◌>>=◌, ◌>>◌, a_word, no_value, kind, open_level, pure, take_word, unexpected}
use Rattle.reader_laws.specs.Chain.{chain, go_on}
use Rattle.c_words.specs.Tokens.{AndAnd, sign}
use Rattle.c_text.specs.Expression.{Scope, Value, choice_sign, chosen, converted_value, index_literal, larger_value}
use Rattle.c_text.specs.Expression.{load_value, loop_value, max_chain, products, relations, size_value, sums, word_literal}
use Rattle.c_text.specs.Expression as grammar
use Rattle.c_read.specs.Names.{buffer, loop_number, numeral, size_number}
use Rattle.c_read.specs.Parts.{around, expect_all, opened, until}
use Rattle.c_read.specs.Expressions.{Start, IndexNumber, WordNumber, OfSize, OfLoop, OfBuffer, OfTop, Opening, Nothing}
use Rattle.c_read.specs.Expressions.{as_index, converts, goes_and, start_by, start_of}
use Rattle.c_expression_reader.specs.Values.{placed}

-- what is known without reading
abbrev pub answer : {A : Type 0} → Result A ReadError → Parser A
answer (Ok x) = λ i. Ok (x, i)
answer (Err e) = λ i. Err e

-- what a function makes of what is read; where it makes nothing, the fault stands at the first word
abbrev pub checked_at : {A B : Type 0} → (A → Result B Fault) → Parser A → Parser B
checked_at f p = λ i. (p >>= (λ x. answer (placed (peek i).place (f x)))) i

-- one operator with what it makes of what stands to its right, where so many levels may be opened
unfoldable pub turn : {B : Type 0} → ℕ → Parser B → (B → Result Value Fault) → Parser Value
turn room operand makes = λ i. ((open_level room >> (take_word >> operand)) >>= (λ right. answer (placed (peek i).place (makes right)))) i

module _ (scope : Scope) (below : Level → Parser Value) (levels : ℕ) where
  unfoldable pub inner_index : Parser Iexp
  inner_index = checked_at as_index (below Choice)

  unfoldable pub in_brackets : Parser Iexp
  in_brackets = opened levels [] (sign k.LBracket ∷ []) (sign k.RBracket ∷ []) inner_index

  -- an element of the buffer that is named
  unfoldable pub load : Parser Value
  load = (a_word k.Name (buffer scope) >>= (λ b. in_brackets >>= (λ i. pure (b, i)))) >>= (λ e. pure (load_value e))

  -- an index behind a comma
  unfoldable pub second : Parser Iexp
  second = expect_all (sign k.Comma ∷ []) >>= (λ u. inner_index)

  unfoldable pub two : Parser (Iexp × Iexp)
  two = inner_index >>= (λ a. second >>= (λ b. pure (a, b)))

  unfoldable pub larger : Parser Value
  larger = (if scope.in_length then opened levels (name_token (codes "top") ∷ []) (sign k.LParen ∷ []) (sign k.RParen ∷ []) two else unexpected)
      >>= (λ e. pure (larger_value e))

  unfoldable pub converted : Parser Value
  converted = around (name_token (codes "uint64_t") ∷ sign k.RParen ∷ sign k.LParen ∷ []) (sign k.RParen ∷ []) inner_index >>=
      (λ i. pure (converted_value i))

  unfoldable pub parenthesized : Parser Value
  parenthesized = below Choice >>= (λ x. expect_all (sign k.RParen ∷ []) >>= (λ v. pure x))

  unfoldable pub in_parens : Parser Value
  in_parens = open_level levels >> (expect_all (sign k.LParen ∷ []) >>= (λ u i. (if converts (peek i) then converted else parenthesized) i))

  unfoldable pub index_number : Parser Value
  index_number = opened levels (name_token (codes "INT64_C") ∷ []) (sign k.LParen ∷ []) (sign k.RParen ∷ []) (a_word k.Number (numeral (2 ^ 63))) >>=
      (λ n. pure (index_literal n))

  unfoldable pub word_number : Parser Value
  word_number = opened levels (name_token (codes "UINT64_C") ∷ []) (sign k.LParen ∷ []) (sign k.RParen ∷ []) (a_word k.Number (numeral (2 ^ 64))) >>=
      (λ n. pure (word_literal n))

  unfoldable pub size : Parser Value
  size = a_word k.Name (size_number scope) >>= (λ n. pure (size_value n))

  unfoldable pub loop_variable : Parser Value
  loop_variable = a_word k.Name (loop_number scope) >>= (λ n. pure (loop_value n))

  abbrev pub part_by : Start → Parser Value
  part_by IndexNumber = index_number
  part_by WordNumber = word_number
  part_by OfSize = size
  part_by OfLoop = loop_variable
  part_by OfBuffer = load
  part_by OfTop = larger
  part_by Opening = in_parens
  part_by Nothing = unexpected

  -- a part that begins with a name
  unfoldable pub named : Parser Value
  named = λ i. part_by (start_by (slice_index (peek i).text 0)) i

  unfoldable pub part : Parser Value
  part = λ i. part_by (start_of (peek i)) i

  abbrev pub more_factors : ℕ → Value → Parser Value
  more_factors = chain (products levels) (λ n a o. below Part)

  unfoldable pub product : Parser Value
  product = part >>= more_factors max_chain

  abbrev pub more_summands : ℕ → Value → Parser Value
  more_summands = chain (sums levels) (λ n a o. below Product)

  unfoldable pub sum : Parser Value
  sum = product >>= more_summands max_chain

  abbrev pub more_comparisons : ℕ → Value → Parser Value
  more_comparisons = chain relations (λ n a o. sum)

  unfoldable pub relation : Parser Value
  relation = sum >>= more_comparisons 1

  unfoldable pub one_more : Value → Parser Value
  one_more left = checked_at (grammar.joined left) (a_word AndAnd no_value >>= (λ u. relation))

  unfoldable pub more_tests : Value → Parser Value
  more_tests = until goes_and one_more pure

  unfoldable pub tests : Parser Value
  tests = relation >>= more_tests

  -- a side behind a colon
  unfoldable pub second_side : Parser Value
  second_side = expect_all (sign k.Colon ∷ []) >>= (λ u. below Choice)

  unfoldable pub sides : Parser (Value × Value)
  sides = below Choice >>= (λ a. second_side >>= (λ b. pure (a, b)))

  -- a choice by these tests behind its `?`, which stands at this place
  abbrev pub chosen_at : ℕ → Value → Parser Value
  chosen_at place left = sides >>= (λ p. answer (placed place (chosen left p)))

  -- a choice by these tests, where `?` comes
  unfoldable pub if_choice : Value → Parser Value
  if_choice left = λ i. go_on (choice_sign (kind i)) left (λ o. turn levels sides (chosen left)) i

  unfoldable pub choice : Parser Value
  choice = tests >>= if_choice

  abbrev pub by_level : Level → Parser Value
  by_level Choice = choice
  by_level Sum = sum
  by_level Product = product
  by_level Part = part

-- one level further in than a place where so many levels are left
unfoldable pub inner : Scope → ℕ → Level → Parser Value
inner scope zero = λ place. unexpected
inner scope (suc levels) = by_level scope (inner scope levels) levels
