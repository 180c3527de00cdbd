-- The words before the word of an expression's fault go on.
use Rattle.std.proofs.Common.{◌≡◌, ◌⊎◌, inl, inr, ℕ, zero, suc, ◌<◌, ◌≤◌, ◌^◌, Bool, true, false, cond, List, [], ◌∷◌, ◌++◌, Option, Some, Result, Ok, Err}
use Rattle.std.proofs.Common.{refl, sym, ap, subst, ◌∙◌, append-nil, arith}
use Rattle.std.specs.Prelude.{codes, decimal}
use Rattle.text_tokens.specs.declared.kind.Kind.{Kind}
use Rattle.text_tokens.specs.declared.kind.Kind.TheVariants as k
use Rattle.text_tokens.specs.Kinds.{Text}
use Rattle.text_tokens.specs.Spelled.{name_token}
use Rattle.text_tokens.specs.Words.{Word, Input, peek}
use Rattle.loop_lang.specs.declared.index.Iexp.{Iexp}
use Rattle.loop_lang.specs.declared.word.Buf.{Buf}
use Rattle.affine_index.specs.declared.cond.Rel.{Rel}
use Rattle.c_print.specs.declared.level.Level.{Level}
use Rattle.c_print.specs.declared.level.Level.TheVariants.{Choice, Sum, Product, Part}
use Rattle.reader_laws.specs.declared.fault.Fault.{Fault}
use Rattle.reader_laws.specs.declared.fault.ReadError.TheVariants.{Refused}
use Rattle.reader_laws.specs.Steps.{Parser, ◌>>=◌, ◌>>◌, a_word, no_value, open_level, pure, unexpected}
use Rattle.reader_laws.specs.Grammar.{IsWordOf}
use Rattle.reader_laws.specs.Chain.{chain, joined}
use Rattle.reader_laws.proofs.Outcomes.{ahead, ok_input, then_ok}
use Rattle.c_words.specs.Tokens.{AndAnd, Question, sign}
use Rattle.c_text.specs.Expression.{Operator, Scope, Value, choice_sign, choices}
use Rattle.c_text.specs.Expression.{converted_value, index_literal, larger_value, load_value, loop_value, max_chain}
use Rattle.c_text.specs.Expression.{product_operator, products, relations, size_value, sum_operator, sums, word_literal}
use Rattle.c_text.specs.Expression.{IndexLiteral, WordLiteral, SizeName, LoopName, Element, Larger, Parenthesized, Converted}
use Rattle.c_text.specs.Expression as grammar
use Rattle.c_read.specs.Names.{buffer, loop_number, numeral, size_number}
use Rattle.c_read.specs.Parts.{around, checked, expect_all, opened, optional, until}
use Rattle.c_read.specs.Expressions.{Start, IndexNumber, WordNumber, OfSize, OfLoop, OfBuffer, OfTop, Opening, Nothing}
use Rattle.c_read.specs.Expressions.{as_index, converts, goes_and, start_of}
use Rattle.c_read.specs.Expressions as reading
use Rattle.c_read.proofs.ReadingNumbers.{is-numeral}
use Rattle.c_first_fault.specs.Shape.{AChoice, APart, AProduct, ARelation, ASum, Around, ByLevel, Chain, Each, Expression, InBrackets, InParens, Number}
use Rattle.c_first_fault.specs.Shape.{OneMore, PartBy, Sides, Spelled, Tests, Then, Two}
use Rattle.c_first_fault.proofs.Shapes.{Cut, Goes, Later, Shapes, Taken, around_shapes}
use Rattle.c_first_fault.proofs.Shapes.{behind_none, chosen_shapes, cut_here, if_shapes, made_shapes, open_shapes}
use Rattle.c_first_fault.proofs.Shapes.{opened_shapes, pure_shapes, shapes_as, some_around, some_tokens, then_shapes, then_some, tokens_shape}
use Rattle.c_first_fault.proofs.Shapes.{unexpected_shapes, which, word_for, word_shapes}
use Rattle.c_first_fault.proofs.Chains.{chain_shapes, optional_shapes, some_each, until_shapes}

-- what is made of what is read, or a fault at its first word
pub checked_shapes : {A B : Type 0} (f : A → Result B Fault) (p : Parser A) (shape : List Word → Type 0) → Shapes p shape → Shapes (checked f p) shape
checked_shapes {A = A} {B = B} f p shape l = record {
  sound = λ i j y e.
      let a = then_ok (p i) (λ x. joined (peek i) (f x) pure) y j e in
      let t = l.sound i a.at a.value a.first in
      taken_by i j y (f a.value) a.at t a.rest;
  begins = λ i fault place e. go i fault place (which (p i) (λ x. joined (peek i) (f x) pure) (Refused fault place) e);
}
  where
    taken_by : (i j : Input) (y : B) (r : Result B Fault) (at : Input) → Taken shape i at → joined (peek i) r pure at ≡ Ok (y, j) → Taken shape i j
    taken_by i j y (Ok x) at t e = record { front = t.front; words = t.words ∙ ap (ahead t.front) (ok_input x y at j e); is = t.is }
    taken_by i j y (Err fault) at t e = absurd cc

    joins : (i : Input) (fault : Fault) (place : ℕ) (r : Result B Fault) (at : Input) → joined (peek i) r pure at ≡ Err (Refused fault place)
        → Cut shape i place
    joins i fault place (Ok x) at e = absurd cc
    joins i fault place (Err g) at e = cut_here {A = B} shape i g fault place e

    go : (i : Input) (fault : Fault) (place : ℕ)
        → (p i ≡ Err (Refused fault place)) ⊎ Later (p i) (λ x. joined (peek i) (f x) pure) (Refused fault place) → Cut shape i place
    go i fault place (inl e) = l.begins i fault place e
    go i fault place (inr later) = joins i fault place (f later.value) later.at later.rest

product_no_end : (kd : Kind) (o : Operator) → product_operator kd ≡ Some o → kd ≡ k.End → ⊥
product_no_end k.End o h e = absurd cc
product_no_end kd o h e = absurd cc

sum_no_end : (kd : Kind) (o : Operator) → sum_operator kd ≡ Some o → kd ≡ k.End → ⊥
sum_no_end kd o h e = absurd cc

relation_no_end : (kd : Kind) (o : Rel) → grammar.relation kd ≡ Some o → kd ≡ k.End → ⊥
relation_no_end kd o h e = absurd cc

choice_no_end : (kd : Kind) (o : Unit {0}) → choice_sign kd ≡ Some o → kd ≡ k.End → ⊥
choice_no_end kd o h e = absurd cc

-- ---- something of each shape

some_number : (limit : ℕ) → limit ≤ 2 ^ 64 → 0 < limit → Goes (Number limit) []
some_number limit few some = record {
  rest = record { kind = k.Number; text = decimal 0; place = 0 } ∷ [];
  is = (
    0,
    record {
      word = record { kind = k.Number; text = decimal 0; place = 0 };
      is = refl;
      reads_as = is-numeral limit 0 few some;
      words = refl;
    },
  );
}

module _ (scope : Scope) (shape : Level → List Word → Type 0) where
  pub some_part : Goes (APart scope shape) []
  some_part =
      let g = then_some (Spelled (name_token (codes "INT64_C") ∷ [])) (InParens scope shape (Number (2 ^ 63))) (some_tokens (name_token (codes "INT64_C") ∷ []))
      (some_around (sign k.LParen ∷ []) (sign k.RParen ∷ []) (Number (2 ^ 63)) (some_number (2 ^ 63) (omega arith) (omega arith))) in
      record { rest = g.rest; is = (IndexLiteral, g.is) }

  chain_none : {O : Type 0} (operator : Kind → Option O) (operand : List Word → Type 0) (n : ℕ) → Goes (Chain operator operand n) []
  chain_none operator operand zero = record { rest = []; is = refl }
  chain_none operator operand (suc n) = record { rest = []; is = inl refl }

  some_product : Goes (AProduct scope shape) []
  some_product = then_some (APart scope shape) (Chain product_operator (shape Part) max_chain) some_part (chain_none product_operator (shape Part) max_chain)

  some_sum : Goes (ASum scope shape) []
  some_sum = then_some (AProduct scope shape) (Chain sum_operator (shape Product) max_chain) some_product (chain_none sum_operator (shape Product) max_chain)

  some_relation : Goes (ARelation scope shape) []
  some_relation = then_some (ASum scope shape) (Chain grammar.relation (ASum scope shape) 1) some_sum (chain_none grammar.relation (ASum scope shape) 1)

  more_none : Goes (Each (OneMore scope shape)) []
  more_none = record { rest = []; is = (0, refl) }

  some_tests : Goes (Tests scope shape) []
  some_tests = then_some (ARelation scope shape) (Each (OneMore scope shape)) some_relation more_none

  pub some_by : (place : Level) → Goes (ByLevel scope shape place) []
  some_by Choice = then_some (Tests scope shape) (Chain choice_sign (Sides scope shape) 1) some_tests (chain_none choice_sign (Sides scope shape) 1)
  some_by Sum = some_sum
  some_by Product = some_product
  some_by Part = some_part

-- ---- the reader, production by production

module _ (scope : Scope) (below : Level → Parser Value) (shape : Level → List Word → Type 0) (levels : ℕ)
    (each : (place : Level) → Shapes (below place) (shape place)) (some : (place : Level) → Goes (shape place) []) where
  pub index_shapes : Shapes (reading.inner_index scope below levels) (shape Choice)
  index_shapes = checked_shapes as_index (below Choice) (shape Choice) (each Choice)

  pub brackets_shapes : Shapes (reading.in_brackets scope below levels) (InBrackets scope shape)
  brackets_shapes = shapes_as (reading.in_brackets scope below levels) (Then (Spelled []) (InBrackets scope shape)) (InBrackets scope shape)
      (behind_none (InBrackets scope shape))
      (opened_shapes levels [] (sign k.LBracket ∷ []) (sign k.RBracket ∷ []) (reading.inner_index scope below levels) (shape Choice) tt
      ((λ e. cc), tt) ((λ e. cc), tt) index_shapes (some Choice))

  pub some_brackets : Goes (InBrackets scope shape) []
  some_brackets = some_around (sign k.LBracket ∷ []) (sign k.RBracket ∷ []) (shape Choice) (some Choice)

  pub element_shapes : (reads : Text → Result Buf Fault)
      → Shapes (reading.element scope below levels reads) (Then (λ us. (b : Buf) × IsWordOf k.Name reads us b) (InBrackets scope shape))
  element_shapes reads =
      then_shapes (a_word k.Name reads) (λ b. reading.in_brackets scope below levels >>= (λ i. pure (b, i)))
      (λ us. (b : Buf) × IsWordOf k.Name reads us b) (InBrackets scope shape) (word_shapes k.Name reads (λ e. cc))
      (λ b. made_shapes (reading.in_brackets scope below levels) (λ i. (b, i)) (InBrackets scope shape) brackets_shapes) some_brackets

  comma_shapes : Shapes (expect_all (sign k.Comma ∷ []) >>= (λ u. reading.inner_index scope below levels)) (Then (Spelled (sign k.Comma ∷ [])) (shape Choice))
  comma_shapes = then_shapes (expect_all (sign k.Comma ∷ [])) (λ u. reading.inner_index scope below levels) (Spelled (sign k.Comma ∷ [])) (shape Choice)
      (tokens_shape (sign k.Comma ∷ []) ((λ e. cc), tt)) (λ u. index_shapes) (some Choice)

  some_comma : Goes (Then (Spelled (sign k.Comma ∷ [])) (shape Choice)) []
  some_comma = then_some (Spelled (sign k.Comma ∷ [])) (shape Choice) (some_tokens (sign k.Comma ∷ [])) (some Choice)

  two_shapes : Shapes (reading.two scope below levels) (Two scope shape)
  two_shapes = then_shapes (reading.inner_index scope below levels)
      (λ a. (expect_all (sign k.Comma ∷ []) >>= (λ u. reading.inner_index scope below levels)) >>= (λ b. pure (a, b)))
      (shape Choice) (Then (Spelled (sign k.Comma ∷ [])) (shape Choice)) index_shapes
      (λ a. made_shapes (expect_all (sign k.Comma ∷ []) >>= (λ u. reading.inner_index scope below levels)) (λ b. (a, b))
      (Then (Spelled (sign k.Comma ∷ [])) (shape Choice)) comma_shapes) some_comma

  some_two : Goes (Two scope shape) []
  some_two = then_some (shape Choice) (Then (Spelled (sign k.Comma ∷ [])) (shape Choice)) (some Choice) some_comma

  larger_shapes : Shapes (reading.larger scope below levels) (APart scope shape)
  larger_shapes = go scope.in_length refl
    where
      top_shapes : Shapes (opened levels (name_token (codes "top") ∷ []) (sign k.LParen ∷ []) (sign k.RParen ∷ []) (reading.two scope below levels))
          (Then (Spelled (name_token (codes "top") ∷ [])) (InParens scope shape (Two scope shape)))
      top_shapes = opened_shapes levels (name_token (codes "top") ∷ []) (sign k.LParen ∷ []) (sign k.RParen ∷ []) (reading.two scope below levels)
          (Two scope shape)
          ((λ e. cc), tt) ((λ e. cc), tt) ((λ e. cc), tt) two_shapes some_two

      go : (b : Bool) → scope.in_length ≡ b
          → Shapes (cond b (opened levels (name_token (codes "top") ∷ []) (sign k.LParen ∷ []) (sign k.RParen ∷ [])
          (reading.two scope below levels)) unexpected)
          (APart scope shape)
      go true is = shapes_as _ (Then (Spelled (name_token (codes "top") ∷ [])) (InParens scope shape (Two scope shape))) (APart scope shape)
          (λ ws h. (Larger, (is, h))) top_shapes
      go false is = unexpected_shapes (APart scope shape)

  abbrev Cast : List Word → Type 0
  Cast = Around (name_token (codes "uint64_t") ∷ sign k.RParen ∷ sign k.LParen ∷ []) (sign k.RParen ∷ []) (shape Choice)

  abbrev Closed : List Word → Type 0
  Closed = Then (shape Choice) (Spelled (sign k.RParen ∷ []))

  abbrev Inside : List Word → Type 0
  Inside ws = Cast ws ⊎ Closed ws

  cast_shapes : Shapes (reading.converted scope below levels) Inside
  cast_shapes = shapes_as (reading.converted scope below levels) Cast Inside (λ ws h. inl h)
      (made_shapes (around (name_token (codes "uint64_t") ∷ sign k.RParen ∷ sign k.LParen ∷ []) (sign k.RParen ∷ []) (reading.inner_index scope below levels))
      converted_value Cast
      (around_shapes (name_token (codes "uint64_t") ∷ sign k.RParen ∷ sign k.LParen ∷ []) (sign k.RParen ∷ []) (reading.inner_index scope below levels)
      (shape Choice) ((λ e. cc), ((λ e. cc), ((λ e. cc), tt))) ((λ e. cc), tt) index_shapes (some Choice)))

  closed_shapes : Shapes (reading.parenthesized scope below levels) Inside
  closed_shapes = shapes_as (reading.parenthesized scope below levels) Closed Inside (λ ws h. inr h)
      (then_shapes (below Choice) (λ x. expect_all (sign k.RParen ∷ []) >>= (λ v. pure x)) (shape Choice) (Spelled (sign k.RParen ∷ [])) (each Choice)
      (λ x. made_shapes (expect_all (sign k.RParen ∷ [])) (λ v. x) (Spelled (sign k.RParen ∷ [])) (tokens_shape (sign k.RParen ∷ []) ((λ e. cc), tt)))
      (some_tokens (sign k.RParen ∷ [])))

  some_inside : Goes Inside []
  some_inside =
      let g = then_some (shape Choice) (Spelled (sign k.RParen ∷ [])) (some Choice) (some_tokens (sign k.RParen ∷ [])) in
      record { rest = g.rest; is = inr g.is }

  opening_is : (ws : List Word) → Then (Spelled (sign k.LParen ∷ [])) Inside ws → APart scope shape ws
  opening_is ws h = go h.is_then
    where
      go : Inside h.rest → APart scope shape ws
      go (inl c) = (Converted, record { front = h.front; rest = h.rest; words = h.words; is_first = h.is_first; is_then = c })
      go (inr c) = (Parenthesized, record { front = h.front; rest = h.rest; words = h.words; is_first = h.is_first; is_then = c })

  parens_shapes : Shapes (reading.in_parens scope below levels) (APart scope shape)
  parens_shapes = shapes_as (reading.in_parens scope below levels) (Then (Spelled (sign k.LParen ∷ [])) Inside) (APart scope shape) opening_is
      (open_shapes levels (expect_all (sign k.LParen ∷ []) >>= (λ u i. (cond (converts (peek i)) (reading.converted scope below levels)
      (reading.parenthesized scope below levels)) i)) (Then (Spelled (sign k.LParen ∷ [])) Inside)
      (then_shapes (expect_all (sign k.LParen ∷ [])) (λ u i. (cond (converts (peek i)) (reading.converted scope below levels)
      (reading.parenthesized scope below levels)) i) (Spelled (sign k.LParen ∷ [])) Inside (tokens_shape (sign k.LParen ∷ []) ((λ e. cc), tt))
      (λ u. chosen_shapes (λ w. cond (converts w) (reading.converted scope below levels) (reading.parenthesized scope below levels)) Inside
      (λ w. either_shapes (converts w))) some_inside))
    where
      either_shapes : (b : Bool) → Shapes (cond b (reading.converted scope below levels) (reading.parenthesized scope below levels)) Inside
      either_shapes true = cast_shapes
      either_shapes false = closed_shapes

  by_shapes : (start : Start) → Shapes (reading.part_by scope below levels start) (APart scope shape)
  by_shapes IndexNumber = shapes_as _ (PartBy scope shape IndexLiteral) (APart scope shape) (λ ws h. (IndexLiteral, h))
      (made_shapes (opened levels (name_token (codes "INT64_C") ∷ []) (sign k.LParen ∷ []) (sign k.RParen ∷ []) (a_word k.Number (numeral
      (2 ^ 63)))) index_literal
      (PartBy scope shape IndexLiteral)
      (opened_shapes levels (name_token (codes "INT64_C") ∷ []) (sign k.LParen ∷ []) (sign k.RParen ∷ []) (a_word k.Number (numeral (2 ^ 63))) (Number (2 ^ 63))
      ((λ e. cc), tt) ((λ e. cc), tt) ((λ e. cc), tt) (word_shapes k.Number (numeral (2 ^ 63)) (λ e. cc)) (some_number (2 ^ 63) (omega arith) (omega arith))))
  by_shapes WordNumber = shapes_as _ (PartBy scope shape WordLiteral) (APart scope shape) (λ ws h. (WordLiteral, h))
      (made_shapes (opened levels (name_token (codes "UINT64_C") ∷ []) (sign k.LParen ∷ []) (sign k.RParen ∷ []) (a_word k.Number (numeral
      (2 ^ 64)))) word_literal
      (PartBy scope shape WordLiteral)
      (opened_shapes levels (name_token (codes "UINT64_C") ∷ []) (sign k.LParen ∷ []) (sign k.RParen ∷ []) (a_word k.Number (numeral (2 ^ 64)))
      (Number (2 ^ 64))
      ((λ e. cc), tt) ((λ e. cc), tt) ((λ e. cc), tt) (word_shapes k.Number (numeral (2 ^ 64)) (λ e. cc)) (some_number (2 ^ 64) (omega arith) (omega arith))))
  by_shapes OfSize = shapes_as _ (PartBy scope shape SizeName) (APart scope shape) (λ ws h. (SizeName, h))
      (made_shapes (a_word k.Name (size_number scope)) size_value (PartBy scope shape SizeName) (word_shapes k.Name (size_number scope) (λ e. cc)))
  by_shapes OfLoop = shapes_as _ (PartBy scope shape LoopName) (APart scope shape) (λ ws h. (LoopName, h))
      (made_shapes (a_word k.Name (loop_number scope)) loop_value (PartBy scope shape LoopName) (word_shapes k.Name (loop_number scope) (λ e. cc)))
  by_shapes OfBuffer = shapes_as _ (PartBy scope shape Element) (APart scope shape) (λ ws h. (Element, h))
      (made_shapes (reading.element scope below levels (buffer scope)) load_value (PartBy scope shape Element) (element_shapes (buffer scope)))
  by_shapes OfTop = made_shapes (reading.larger scope below levels) larger_value (APart scope shape) larger_shapes
  by_shapes Opening = parens_shapes
  by_shapes Nothing = unexpected_shapes (APart scope shape)

  part_shapes : Shapes (reading.part scope below levels) (APart scope shape)
  part_shapes = chosen_shapes (λ w. reading.part_by scope below levels (start_of w)) (APart scope shape) (λ w. by_shapes (start_of w))

  product_shapes : Shapes (reading.product scope below levels) (AProduct scope shape)
  unfolding products
  product_shapes = then_shapes (reading.part scope below levels) (chain (products levels) (λ n a o. below Part) max_chain) (APart scope shape)
      (Chain product_operator (shape Part) max_chain) part_shapes
      (λ x. chain_shapes (products levels) (shape Part) product_no_end (some Part) (λ n a o. below Part) (λ n a o. each Part) max_chain x)
      (chain_none scope shape product_operator (shape Part) max_chain)

  sum_shapes : Shapes (reading.sum scope below levels) (ASum scope shape)
  unfolding sums
  sum_shapes = then_shapes (reading.product scope below levels) (chain (sums levels) (λ n a o. below Product) max_chain) (AProduct scope shape)
      (Chain sum_operator (shape Product) max_chain) product_shapes
      (λ x. chain_shapes (sums levels) (shape Product) sum_no_end (some Product) (λ n a o. below Product) (λ n a o. each Product) max_chain x)
      (chain_none scope shape sum_operator (shape Product) max_chain)

  relation_shapes : Shapes (reading.relation scope below levels) (ARelation scope shape)
  unfolding relations
  relation_shapes = then_shapes (reading.sum scope below levels) (chain relations (λ n a o. reading.sum scope below levels) 1) (ASum scope shape)
      (Chain grammar.relation (ASum scope shape) 1) sum_shapes
      (λ x. chain_shapes relations (ASum scope shape) relation_no_end (some_sum scope shape) (λ n a o. reading.sum scope below levels)
      (λ n a o. sum_shapes) 1 x)
      (chain_none scope shape grammar.relation (ASum scope shape) 1)

  one_shapes : (left : Value) → Shapes (reading.one_more scope below levels left) (OneMore scope shape)
  one_shapes left = checked_shapes (grammar.joined left) (a_word AndAnd no_value >>= (λ u. reading.relation scope below levels)) (OneMore scope shape)
      (then_shapes (a_word AndAnd no_value) (λ u. reading.relation scope below levels) (λ us. (u : Unit {0}) × IsWordOf AndAnd no_value us u)
      (ARelation scope shape) (word_shapes AndAnd no_value (λ e. cc)) (λ u. relation_shapes) (some_relation scope shape))

  tests_shapes : Shapes (reading.tests scope below levels) (Tests scope shape)
  tests_shapes = then_shapes (reading.relation scope below levels) (until goes_and (reading.one_more scope below levels) pure) (ARelation scope shape)
      (Each (OneMore scope shape)) relation_shapes
      (λ x. shapes_as (until goes_and (reading.one_more scope below levels) pure x) (Then (Each (OneMore scope shape)) (λ ws. ws ≡ [])) (Each
      (OneMore scope shape))
      ended (until_shapes goes_and (reading.one_more scope below levels) pure (OneMore scope shape) (λ ws. ws ≡ []) one_shapes pure_shapes
      (record { rest = []; is = refl }) x))
      (more_none scope shape)
    where
      ended : (ws : List Word) → Then (Each (OneMore scope shape)) (λ us. us ≡ []) ws → Each (OneMore scope shape) ws
      ended ws h = subst (Each (OneMore scope shape)) (sym (h.words ∙ ap (λ us. h.front ++ us) h.is_then ∙ append-nil h.front)) h.is_first

  side_shapes : Shapes (expect_all (sign k.Colon ∷ []) >>= (λ u. below Choice)) (Then (Spelled (sign k.Colon ∷ [])) (shape Choice))
  side_shapes = then_shapes (expect_all (sign k.Colon ∷ [])) (λ u. below Choice) (Spelled (sign k.Colon ∷ [])) (shape Choice)
      (tokens_shape (sign k.Colon ∷ []) ((λ e. cc), tt)) (λ u. each Choice) (some Choice)

  some_side : Goes (Then (Spelled (sign k.Colon ∷ [])) (shape Choice)) []
  some_side = then_some (Spelled (sign k.Colon ∷ [])) (shape Choice) (some_tokens (sign k.Colon ∷ [])) (some Choice)

  sides_shapes : Shapes (reading.sides scope below levels) (Sides scope shape)
  sides_shapes = then_shapes (below Choice) (λ a. (expect_all (sign k.Colon ∷ []) >>= (λ u. below Choice)) >>= (λ b. pure (a, b))) (shape Choice)
      (Then (Spelled (sign k.Colon ∷ [])) (shape Choice)) (each Choice)
      (λ a. made_shapes (expect_all (sign k.Colon ∷ []) >>= (λ u. below Choice)) (λ b. (a, b)) (Then (Spelled (sign k.Colon ∷ [])) (shape Choice)) side_shapes)
      some_side

  choice_shapes : Shapes (reading.choice scope below levels) (AChoice scope shape)
  unfolding choices
  choice_shapes = then_shapes (reading.tests scope below levels) (optional (choices levels) (λ o. reading.sides scope below levels)) (Tests scope shape)
      (Chain choice_sign (Sides scope shape) 1) tests_shapes
      (λ x. optional_shapes (choices levels) (Sides scope shape) choice_no_end
      (then_some (shape Choice) (Then (Spelled (sign k.Colon ∷ [])) (shape Choice)) (some Choice) some_side) (λ o. reading.sides scope below levels)
      (λ o. sides_shapes) x)
      (chain_none scope shape choice_sign (Sides scope shape) 1)

  pub level_shapes : (place : Level) → Shapes (reading.by_level scope below levels place) (ByLevel scope shape place)
  level_shapes Choice = choice_shapes
  level_shapes Sum = sum_shapes
  level_shapes Product = product_shapes
  level_shapes Part = part_shapes

-- one level further in
pub some_inner : (scope : Scope) (depth : ℕ) (place : Level) → Goes (Expression scope (suc depth) place) []
some_inner scope depth place = some_by scope (Expression scope depth) place

pub inner_shapes : (scope : Scope) (levels : ℕ) (place : Level) → Shapes (reading.inner scope levels place) (Expression scope (suc levels) place)
inner_shapes scope zero place = unexpected_shapes (Expression scope 1 place)
inner_shapes scope (suc levels) place =
    level_shapes scope (reading.inner scope levels) (Expression scope (suc levels)) levels (inner_shapes scope levels) (some_inner scope levels) place
