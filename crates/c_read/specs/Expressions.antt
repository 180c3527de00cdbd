-- The reader of C's expressions.
use Rattle.std.specs.Prelude.{ℕ, zero, suc, ◌^◌, ◌++◌, Bool, true, false, ◌&&◌, ◌==◌, if◌then◌else◌, List, [], ◌∷◌, Result, Ok, Err, codes, slice_index}
use Rattle.std.specs.Str.{bytes_eq}
use Rattle.text_tokens.specs.declared.kind.Kind.TheVariants as k
use Rattle.text_tokens.specs.Kinds.{Text, same_kind}
use Rattle.text_tokens.specs.Spelled.{Token, name_token, token_of}
use Rattle.text_tokens.specs.Words.{Word, peek}
use Rattle.loop_lang.specs.declared.index.Iexp.{Iexp}
use Rattle.loop_lang.specs.declared.index.Test.{Test}
use Rattle.loop_lang.specs.declared.word.Buf.{Buf}
use Rattle.loop_lang.specs.declared.word.Wexp.{Wexp}
use Rattle.c_print.specs.declared.level.Level.{Level}
use Rattle.c_print.specs.declared.level.Level.TheVariants.{Choice, Sum, Product, Part}
use Rattle.reader_laws.specs.declared.fault.Fault.{Fault}
use Rattle.reader_laws.specs.Steps.{Parser, ◌>>=◌, ◌>>◌, a_word, no_value, open_level, pure, unexpected}
use Rattle.reader_laws.specs.Chain.{chain}
use Rattle.c_words.specs.Tokens.{AndAnd, sign}
use Rattle.c_text.specs.Expression.{Scope, Value, OfIndex, OfWord, OfTests, WrongKind, choices, converted_value, index_literal}
use Rattle.c_text.specs.Expression.{joined, larger_value, load_value, loop_value, max_chain, products, relations, size_value, sums, word_literal}
use Rattle.c_read.specs.Names.{buffer, loop_number, numeral, size_number}
use Rattle.c_read.specs.Parts.{around, checked, expect_all, opened, optional, until}

-- an expression of kind index, word or tests
abbrev pub as_index : Value → Result Iexp Fault
as_index (OfIndex i) = Ok i
as_index v = Err WrongKind

abbrev pub as_word : Value → Result Wexp Fault
as_word (OfWord w) = Ok w
as_word v = Err WrongKind

abbrev pub as_tests : Value → Result (List Test) Fault
as_tests (OfTests cs) = Ok cs
as_tests v = Err WrongKind

-- what the first word of a part begins
pub data Start : Type 0 where
  IndexNumber : Start
  WordNumber : Start
  OfSize : Start
  OfLoop : Start
  OfBuffer : Start
  OfTop : Start
  Opening : Start
  Nothing : Start

-- I, U, n, i, a b s, t
abbrev pub start_by : ℕ → Start
start_by c =
    if c == 73 then IndexNumber else (if c == 85 then WordNumber else (if c == 110 then OfSize else (if c == 105 then OfLoop
    else (if c == 97 then OfBuffer else (if c == 98 then OfBuffer else (if c == 115 then OfBuffer else (if c == 116 then OfTop else Nothing)))))))

abbrev pub start_token : Token → Start
start_token t = if same_kind t.kind k.LParen then Opening else (if same_kind t.kind k.Name then start_by (slice_index t.text 0) else Nothing)

abbrev pub start_of : Word → Start
start_of w = start_token (token_of w)

abbrev pub is_conversion : Token → Bool
is_conversion t = same_kind t.kind k.Name && bytes_eq t.text (codes "uint64_t")

-- whether a word goes on a conversion that `(` begins
abbrev pub converts : Word → Bool
converts w = is_conversion (token_of w)

abbrev pub goes_and : Word → Bool
goes_and w = same_kind w.kind AndAnd

-- `below` reads one level further in, and `levels` is how many may still be opened
module _ (scope : Scope) (below : Level → Parser Value) (levels : ℕ) where
  abbrev pub inner_index : Parser Iexp
  inner_index = checked as_index (below Choice)

  abbrev pub in_brackets : Parser Iexp
  in_brackets = opened levels [] (sign k.LBracket ∷ []) (sign k.RBracket ∷ []) inner_index

  abbrev pub element : (Text → Result Buf Fault) → Parser (Buf × Iexp)
  element reads = a_word k.Name reads >>= (λ b. in_brackets >>= (λ i. pure (b, i)))

  abbrev pub two : Parser (Iexp × Iexp)
  two = inner_index >>= (λ a. (expect_all (sign k.Comma ∷ []) >>= (λ u. inner_index)) >>= (λ b. pure (a, b)))

  abbrev pub larger : Parser (Iexp × Iexp)
  larger = if scope.in_length then opened levels (name_token (codes "top") ∷ []) (sign k.LParen ∷ []) (sign k.RParen ∷ []) two else unexpected

  abbrev pub converted : Parser Value
  converted = around (name_token (codes "uint64_t") ∷ sign k.RParen ∷ sign k.LParen ∷ []) (sign k.RParen ∷ []) inner_index >>= (λ i. pure (converted_value i))

  abbrev pub parenthesized : Parser Value
  parenthesized = below Choice >>= (λ x. expect_all (sign k.RParen ∷ []) >>= (λ v. pure x))

  abbrev pub in_parens : Parser Value
  in_parens = open_level levels >> (expect_all (sign k.LParen ∷ []) >>= (λ u i. (if converts (peek i) then converted else parenthesized) i))

  abbrev pub part_by : Start → Parser Value
  part_by IndexNumber = opened levels (name_token (codes "INT64_C") ∷ []) (sign k.LParen ∷ []) (sign k.RParen ∷ []) (a_word k.Number (numeral (2 ^ 63))) >>=
      (λ n. pure (index_literal n))
  part_by WordNumber = opened levels (name_token (codes "UINT64_C") ∷ []) (sign k.LParen ∷ []) (sign k.RParen ∷ []) (a_word k.Number (numeral (2 ^ 64))) >>=
      (λ n. pure (word_literal n))
  part_by OfSize = a_word k.Name (size_number scope) >>= (λ n. pure (size_value n))
  part_by OfLoop = a_word k.Name (loop_number scope) >>= (λ n. pure (loop_value n))
  part_by OfBuffer = element (buffer scope) >>= (λ e. pure (load_value e))
  part_by OfTop = larger >>= (λ e. pure (larger_value e))
  part_by Opening = in_parens
  part_by Nothing = unexpected

  abbrev pub part : Parser Value
  part = λ i. part_by (start_of (peek i)) i

  abbrev pub product : Parser Value
  product = part >>= chain (products levels) (λ n a o. below Part) max_chain

  abbrev pub sum : Parser Value
  sum = product >>= chain (sums levels) (λ n a o. below Product) max_chain

  abbrev pub relation : Parser Value
  relation = sum >>= chain relations (λ n a o. sum) 1

  abbrev pub one_more : Value → Parser Value
  one_more left = checked (joined left) (a_word AndAnd no_value >>= (λ u. relation))

  abbrev pub tests : Parser Value
  tests = relation >>= until goes_and one_more pure

  abbrev pub sides : Parser (Value × Value)
  sides = below Choice >>= (λ a. (expect_all (sign k.Colon ∷ []) >>= (λ u. below Choice)) >>= (λ b. pure (a, b)))

  abbrev pub choice : Parser Value
  choice = tests >>= optional (choices levels) (λ o. sides)

  abbrev pub by_level : Level → Parser Value
  by_level Choice = choice
  by_level Sum = sum
  by_level Product = product
  by_level Part = part

-- one level further in than a place where so many levels are left
abbrev pub inner : Scope → ℕ → Level → Parser Value
inner scope zero = λ place. unexpected
inner scope (suc levels) = by_level scope (inner scope levels) levels

-- an expression, where so many levels are left
abbrev pub expression : Scope → ℕ → Level → Parser Value
expression scope levels = by_level scope (inner scope levels) levels
