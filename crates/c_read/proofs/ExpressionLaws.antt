-- The reader of expressions is lawful.
use Rattle.std.proofs.Common.{◌≡◌, inl, inr, ℕ, zero, suc, ◌<◌, ◌≤◌, ◌^◌, ◌&&◌, Bool, true, false, if◌then◌else◌, List, []}
use Rattle.std.proofs.Common.{◌∷◌, ◌++◌, length, Option, Some, None, Result, Ok, Err, refl, sym, ap, subst, ◌∙◌, append_assoc, arith}
use Rattle.std.specs.Prelude.{codes}
use Rattle.std.specs.Str.{bytes_eq}
use Rattle.std.proofs.lemmas.Bool.{and_parts}
use Rattle.std.proofs.lemmas.Slice.Eq.{bytes_eq-Decides}
use Rattle.text_tokens.specs.declared.kind.Kind.{Kind}
use Rattle.text_tokens.specs.declared.kind.Kind.TheVariants as k
use Rattle.text_tokens.specs.Kinds.{same_kind}
use Rattle.text_tokens.specs.Spelled.{Token, name_token, token_of}
use Rattle.text_tokens.specs.Words.{Word, Input, peek}
use Rattle.loop_lang.specs.declared.index.Iexp.{Iexp}
use Rattle.loop_lang.specs.declared.word.Buf.{Buf}
use Rattle.loop_lang.specs.declared.word.Buf.TheVariants as buf
use Rattle.c_print.specs.declared.level.Level.{Level}
use Rattle.c_print.specs.declared.level.Level.TheVariants.{Choice, Sum, Product, Part}
use Rattle.c_print.specs.Index.{loop_name, size_name}
use Rattle.c_print.specs.Word.{buffer_name}
use Rattle.reader_laws.specs.Steps.{Parser, ◌>>=◌, ◌>>◌, a_word, kind, no_value, open_level, pure, unexpected}
use Rattle.reader_laws.specs.Chain.{chain}
use Rattle.reader_laws.specs.Grammar.{Both, IsChain, IsNothing, IsWordOf, Opened}
use Rattle.reader_laws.proofs.Outcomes.{ahead, is_same}
use Rattle.reader_laws.proofs.Lawful.{Lawful, NoWords, lawful_as, lawful_both, lawful_open, lawful_pure, lawful_unexpected, lawful_word, never}
use Rattle.reader_laws.proofs.Chains.{lawful_chain, rest_frees}
use Rattle.reader_laws.proofs.Starts.{word_starts}
use Rattle.c_words.specs.Tokens.{AndAnd, Question, sign}
use Rattle.c_text.specs.Rules.{Around, Fixed, IsToken, Made}
use Rattle.c_text.specs.Expression as grammar
use Rattle.c_text.specs.Expression.{HasBuffer, IsInner, PartForm, Scope, Value, OfIndex, ands, choices, converted_value, index_literal}
use Rattle.c_text.specs.Expression.{joined, larger_value, load_value, loop_value, max_chain, products, relations, size_value, sums, word_literal}
use Rattle.c_text.proofs.Pieces.{cut}
use Rattle.c_text.proofs.RulesSay.{append-nil}
use Rattle.c_read.specs.Names.{buffer, loop_number, numeral, size_number}
use Rattle.c_read.specs.Parts.{around, checked, expect_all, opened, optional, until}
use Rattle.c_read.specs.Until.{Until, UntilBy}
use Rattle.c_read.specs.Rules.{Checked, Chosen}
use Rattle.c_read.specs.Expressions as reader
use Rattle.c_read.specs.Expressions.{Start, IndexNumber, WordNumber, OfSize, OfLoop, OfBuffer, OfTop, Opening}
use Rattle.c_read.specs.Expressions.{Nothing, as_index, converts, goes_and, inner, is_conversion, start_of, start_token}
use Rattle.c_read.proofs.UntilLaws.{first_goes, lawful_until}
use Rattle.c_read.proofs.Joining.{lawful_checked, lawful_chosen, lawful_optional}
use Rattle.c_read.proofs.Reading.{around_first, both_first, first_ahead, first_token, lawful_around}
use Rattle.c_read.proofs.Reading.{lawful_behind, lawful_fixed, lawful_made, lawful_opened, token_first, tokens-append}
use Rattle.c_read.proofs.ReadingNames.{FewBuffers, lawful_name, reads_buffer, reads_loop, reads_size}
use Rattle.c_read.proofs.ReadingNumbers.{lawful_number}
use Rattle.c_read.proofs.GoesOn

-- whether an expression begins with the word
abbrev pub is_start : Start → Bool
is_start Nothing = false
is_start s = true

abbrev pub begins : Word → Bool
begins w = is_start (start_of w)

-- lawful, and begun by a word that begins an expression
pub record Good (p : Parser Value) (rule : List Word → Value → Type 0) (goes_on : Kind → Bool) : Type 0 where
  pub lawful : Lawful p rule goes_on
  pub starts : (ws : List Word) (x : Value) (j : Input) → rule ws x → begins (peek (ahead ws j)) ≡ true

name_ends : k.Name ≡ k.End → ⊥
name_ends h = cc

-- only where a test holds
pub lawful_if : {A : Type 0} (b : Bool) (p : Parser A) (rule : List Word → A → Type 0) (goes_on : Kind → Bool) → Lawful p rule goes_on
    → Lawful (if b then p else unexpected) (λ ws x. (b ≡ true) × rule ws x) goes_on
lawful_if true p rule goes_on l = lawful_as p rule (λ ws x. (true ≡ true) × rule ws x) goes_on (λ ws x h. (refl, h)) (λ ws x h. h.1) l
lawful_if false p rule goes_on l = lawful_as unexpected NoWords (λ ws x. (false ≡ true) × rule ws x) goes_on (λ ws x h. absurd h)
    (λ ws x h. absurd (let e = h.0 in cc)) (lawful_unexpected goes_on)

no_conversion : (w : Word) → begins w ≡ true → converts w ≡ false
unfolding same_kind
no_conversion w h = by (converts w) refl
  where
    by : (b : Bool) → converts w ≡ b → converts w ≡ false
    by false e = e
    by true e =
        let p = and_parts (same_kind w.kind k.Name) (bytes_eq w.text (codes "uint64_t")) e in
        let t = (bytes_eq-Decides w.text (codes "uint64_t")).0 p.1 in
        let is : token_of w ≡ name_token (codes "uint64_t") = (λ j. record { kind = is_same w.kind k.Name p.0 j; text = t j }) in
        absurd (let g = ap (λ (u : Token). is_start (start_token u)) is in cc)

pub record IsReadable (scope : Scope) : Type 0 where
  pub sizes : scope.sizes ≤ 2 ^ 64
  pub loops : scope.loops ≤ 2 ^ 64
  pub few : FewBuffers scope

module _ (scope : Scope) (few : IsReadable scope) (below : Level → Parser Value) (rule : Level → List Word → Value → Type 0) (levels : ℕ)
    (h : (place : Level) → Good (below place) (rule place) (GoesOn.goes_on place)) where
  pub index_lawful : Lawful (reader.inner_index scope below levels) (grammar.Index (rule Choice)) GoesOn.choice_goes
  index_lawful = lawful_as (checked as_index (below Choice)) (Checked as_index (rule Choice)) (grammar.Index (rule Choice)) GoesOn.choice_goes
      (λ ws i c. subst (rule Choice ws) (GoesOn.is_index c.0 i c.2) c.1) (λ ws i c. (OfIndex i, c, refl))
      (lawful_checked as_index (below Choice) (rule Choice) GoesOn.choice_goes GoesOn.index_joint (h Choice).lawful)

  pub brackets_lawful : Lawful (reader.in_brackets scope below levels) (grammar.InBrackets scope rule levels (grammar.Index (rule Choice))) never
  brackets_lawful = lawful_opened levels [] (sign k.LBracket ∷ []) (sign k.RBracket) [] (reader.inner_index scope below levels)
      (grammar.Index (rule Choice)) GoesOn.choice_goes tt (λ e. cc, tt) (λ e. cc, tt) refl index_lawful

  element_lawful : Lawful (reader.element scope below levels (buffer scope)) (grammar.IsElement scope rule levels) never
  element_lawful = lawful_both (a_word k.Name (buffer scope)) (λ b. reader.in_brackets scope below levels >>= (λ i. pure (b, i)))
      (grammar.IsBuffer scope rule levels) _ never never
      (lawful_name buffer_name (HasBuffer scope) (buffer scope) name_ends (reads_buffer scope few.few))
      (λ b. lawful_made (λ i. (b, i)) (reader.in_brackets scope below levels)
      (grammar.InBrackets scope rule levels (grammar.Index (rule Choice))) never brackets_lawful)
      (λ b ws y j p e. refl)

  second_lawful : (a : Iexp) → Lawful {A = Iexp × Iexp} ((expect_all (sign k.Comma ∷ []) >>= (λ u. reader.inner_index scope below levels)) >>=
      (λ b. pure (a, b))) (Made (λ b. (a, b)) (Around (sign k.Comma ∷ []) [] (grammar.Index (rule Choice)))) GoesOn.choice_goes
  second_lawful a = lawful_made (λ b. (a, b)) (expect_all (sign k.Comma ∷ []) >>= (λ u. reader.inner_index scope below levels))
      (Around (sign k.Comma ∷ []) [] (grammar.Index (rule Choice))) GoesOn.choice_goes
      (lawful_behind (sign k.Comma ∷ []) (reader.inner_index scope below levels) (grammar.Index (rule Choice)) GoesOn.choice_goes (λ e. cc, tt) index_lawful)

  two_lawful : Lawful (reader.two scope below levels) (grammar.IsTwo scope rule levels) GoesOn.choice_goes
  two_lawful = lawful_both (reader.inner_index scope below levels) _ (grammar.Index (rule Choice))
      (λ a. Made (λ b. (a, b)) (Around (sign k.Comma ∷ []) [] (grammar.Index (rule Choice)))) GoesOn.choice_goes GoesOn.choice_goes
      index_lawful second_lawful
      (λ a ws y j p e. ap (λ (t : Token). GoesOn.choice_goes t.kind) (around_first (sign k.Comma) [] [] (grammar.Index (rule Choice)) ws p.of j p.is))

  larger_lawful : Lawful (reader.larger scope below levels) (grammar.IsLarger scope rule levels) never
  larger_lawful = lawful_if scope.in_length (opened levels (name_token (codes "top") ∷ []) (sign k.LParen ∷ []) (sign k.RParen ∷ [])
      (reader.two scope below levels))
      (grammar.InParens scope rule levels (name_token (codes "top") ∷ []) (grammar.IsTwo scope rule levels)) never
      (lawful_opened levels (name_token (codes "top") ∷ []) (sign k.LParen ∷ []) (sign k.RParen) [] (reader.two scope below levels)
      (grammar.IsTwo scope rule levels) GoesOn.choice_goes (λ e. cc, tt) (λ e. cc, tt) (λ e. cc, tt) refl two_lawful)

  number_lawful : (name : Token) (limit : ℕ) → limit ≤ 2 ^ 64 → (name.kind ≡ k.End → ⊥)
      → Lawful (opened levels (name ∷ []) (sign k.LParen ∷ []) (sign k.RParen ∷ []) (a_word k.Number (numeral limit)))
      (grammar.InParens scope rule levels (name ∷ []) (grammar.IsNumber limit)) never
  number_lawful name limit l some = lawful_opened levels (name ∷ []) (sign k.LParen ∷ []) (sign k.RParen) [] (a_word k.Number (numeral limit))
      (grammar.IsNumber limit) never (some, tt) (λ e. cc, tt) (λ e. cc, tt) refl
      (lawful_number limit l (λ e. cc))

  -- ---- what begins with `(`

  abbrev Closed : List Word → Value → Type 0
  Closed = Both (rule Choice) (λ x. Both (Fixed (sign k.RParen ∷ []) (tt {0})) (λ v. IsNothing x))

  abbrev Converted : List Word → Value → Type 0
  Converted = Made converted_value (Around (name_token (codes "uint64_t") ∷ sign k.RParen ∷ sign k.LParen ∷ []) (sign k.RParen ∷ [])
      (grammar.Index (rule Choice)))

  abbrev Within : Bool → List Word → Value → Type 0
  Within true = Converted
  Within false = Closed

  abbrev within : Bool → Parser Value
  within c = if c then reader.converted scope below levels else reader.parenthesized scope below levels

  abbrev Parens : List Word → Value → Type 0
  Parens = Opened levels (Both (Fixed (sign k.LParen ∷ []) (tt {0})) (λ u. Chosen Within))

  closing_kind : (x : Value) (ws : List Word) (y : Value) (j : Input) → Both (Fixed (sign k.RParen ∷ []) (tt {0})) (λ v. IsNothing x) ws y
      → GoesOn.choice_goes (kind (ahead ws j)) ≡ false
  closing_kind x ws y j p = both_first (Fixed (sign k.RParen ∷ []) (tt {0})) (λ v. IsNothing x) (λ w. GoesOn.choice_goes w.kind ≡ false)
      (λ us u l f. ap (λ (t : Token). GoesOn.choice_goes t.kind) (first_token (sign k.RParen) [] us l f.0)) ws y j p

  within_lawful : (c : Bool) → Lawful (within c) (Within c) never
  within_lawful true = lawful_made converted_value _ (Around (name_token (codes "uint64_t") ∷ sign k.RParen ∷ sign k.LParen ∷ []) (sign k.RParen ∷ [])
      (grammar.Index (rule Choice))) never
      (lawful_around (name_token (codes "uint64_t") ∷ sign k.RParen ∷ sign k.LParen ∷ []) (sign k.RParen) [] (reader.inner_index scope below levels)
      (grammar.Index (rule Choice)) GoesOn.choice_goes (λ e. cc, (λ e. cc, (λ e. cc, tt))) (λ e. cc, tt) refl index_lawful)
  within_lawful false = lawful_both (below Choice) _ (rule Choice)
      (λ x. Both (Fixed (sign k.RParen ∷ []) (tt {0})) (λ v. IsNothing x)) GoesOn.choice_goes never (h Choice).lawful
      (λ x. lawful_both (expect_all (sign k.RParen ∷ [])) (λ v. pure x) (Fixed (sign k.RParen ∷ []) (tt {0})) (λ v. IsNothing x) never never
      (lawful_fixed (sign k.RParen ∷ []) (λ e. cc, tt)) (λ v. lawful_pure x never) (λ v ws y j p e. refl))
      (λ x ws y j p e. closing_kind x ws y j p)

  within_starts : (c : Bool) (ws : List Word) (x : Value) (j : Input) → Within c ws x → converts (peek (ahead ws j)) ≡ c
  unfolding same_kind
  within_starts true ws x j p = ap is_conversion (around_first (name_token (codes "uint64_t")) (sign k.RParen ∷ sign k.LParen ∷ []) (sign k.RParen ∷ [])
      (grammar.Index (rule Choice)) ws p.of j p.is)
  within_starts false ws x j p = both_first (rule Choice) (λ x. Both (Fixed (sign k.RParen ∷ []) (tt {0})) (λ v. IsNothing x)) (λ w. converts w ≡ false)
      (λ us y l q. no_conversion (peek (ahead us l)) ((h Choice).starts us y l q)) ws x j p

  parens_lawful : Lawful (reader.in_parens scope below levels) Parens never
  parens_lawful = lawful_open levels (expect_all (sign k.LParen ∷ []) >>= (λ u i. within (converts (peek i)) i))
      (Both (Fixed (sign k.LParen ∷ []) (tt {0})) (λ u. Chosen Within)) never
      (lawful_both (expect_all (sign k.LParen ∷ [])) (λ u i. within (converts (peek i)) i) (Fixed (sign k.LParen ∷ []) (tt {0}))
      (λ u. Chosen Within) never never (lawful_fixed (sign k.LParen ∷ []) (λ e. cc, tt))
      (λ u. lawful_chosen converts within Within never within_lawful within_starts) (λ u ws y j p e. refl))

  -- ---- parts

  abbrev By : Start → List Word → Value → Type 0
  By IndexNumber = grammar.IsPartBy scope rule levels grammar.IndexLiteral
  By WordNumber = grammar.IsPartBy scope rule levels grammar.WordLiteral
  By OfSize = grammar.IsPartBy scope rule levels grammar.SizeName
  By OfLoop = grammar.IsPartBy scope rule levels grammar.LoopName
  By OfBuffer = grammar.IsPartBy scope rule levels grammar.Element
  By OfTop = grammar.IsPartBy scope rule levels grammar.Larger
  By Opening = Parens
  By Nothing = NoWords

  part_by_lawful : (s : Start) → Lawful (reader.part_by scope below levels s) (By s) never
  part_by_lawful IndexNumber = lawful_made index_literal _ _ never (number_lawful (name_token (codes "INT64_C")) (2 ^ 63) (omega arith) (λ e. cc))
  part_by_lawful WordNumber = lawful_made word_literal _ _ never (number_lawful (name_token (codes "UINT64_C")) (2 ^ 64) (omega arith) (λ e. cc))
  part_by_lawful OfSize = lawful_made size_value _ _ never
      (lawful_name size_name (λ n. n < scope.sizes) (size_number scope) name_ends (reads_size scope few.sizes))
  part_by_lawful OfLoop = lawful_made loop_value _ _ never
      (lawful_name loop_name (λ n. n < scope.loops) (loop_number scope) name_ends (reads_loop scope few.loops))
  part_by_lawful OfBuffer = lawful_made load_value _ _ never element_lawful
  part_by_lawful OfTop = lawful_made larger_value _ _ never larger_lawful
  part_by_lawful Opening = parens_lawful
  part_by_lawful Nothing = lawful_unexpected never

  started : (s : Start) (t : Token) (w : Word) → start_token t ≡ s → token_of w ≡ t → start_of w ≡ s
  started s t w e is = ap start_token is ∙ e

  size_start : (n : ℕ) → start_token (name_token (size_name n)) ≡ OfSize
  unfolding same_kind size_name
  size_start n = refl

  loop_start : (n : ℕ) → start_token (name_token (loop_name n)) ≡ OfLoop
  unfolding same_kind loop_name
  loop_start n = refl

  buffer_start : (b : Buf) → start_token (name_token (buffer_name b)) ≡ OfBuffer
  unfolding same_kind buffer_name
  buffer_start (buf.Input n) = refl
  buffer_start (buf.Output n) = refl
  buffer_start (buf.Scratch n) = refl

  part_starts : (s : Start) (ws : List Word) (x : Value) (j : Input) → By s ws x → start_of (peek (ahead ws j)) ≡ s
  unfolding same_kind
  part_starts IndexNumber ws x j p = started IndexNumber (name_token (codes "INT64_C")) (peek (ahead ws j)) refl
      (around_first (name_token (codes "INT64_C")) (sign k.LParen ∷ []) (sign k.RParen ∷ []) (grammar.IsNumber (2 ^ 63)) ws p.of j p.is.1)
  part_starts WordNumber ws x j p = started WordNumber (name_token (codes "UINT64_C")) (peek (ahead ws j)) refl
      (around_first (name_token (codes "UINT64_C")) (sign k.LParen ∷ []) (sign k.RParen ∷ []) (grammar.IsNumber (2 ^ 64)) ws p.of j p.is.1)
  part_starts OfSize ws x j p = started OfSize (name_token (size_name p.of)) (peek (ahead ws j)) (size_start p.of)
      (token_first (λ n. name_token (size_name n)) (λ n. n < scope.sizes) ws p.of j p.is)
  part_starts OfLoop ws x j p = started OfLoop (name_token (loop_name p.of)) (peek (ahead ws j)) (loop_start p.of)
      (token_first (λ n. name_token (loop_name n)) (λ n. n < scope.loops) ws p.of j p.is)
  part_starts OfBuffer ws x j p = both_first (grammar.IsBuffer scope rule levels) _ (λ w. start_of w ≡ OfBuffer)
      (λ us b l q. started OfBuffer (name_token (buffer_name b)) (peek (ahead us l)) (buffer_start b)
      (token_first (λ b. name_token (buffer_name b)) (HasBuffer scope) us b l q)) ws p.of j p.is
  part_starts OfTop ws x j p = started OfTop (name_token (codes "top")) (peek (ahead ws j)) refl
      (around_first (name_token (codes "top")) (sign k.LParen ∷ []) (sign k.RParen ∷ []) (grammar.IsTwo scope rule levels) ws p.of j p.is.1.1)
  part_starts Opening ws x j p = both_first (Fixed (sign k.LParen ∷ []) (tt {0})) (λ u. Chosen Within) (λ w. start_of w ≡ Opening)
      (λ us u l f. started Opening (sign k.LParen) (peek (ahead us l)) refl (first_token (sign k.LParen) [] us l f.0)) ws x j p.1
  part_starts Nothing ws x j p = absurd p

  parens_to : (ws : List Word) (x : Value) → Parens ws x → grammar.IsPart scope rule levels ws x
  parens_to ws x p = by p.1.is_then.0 p.1.is_then.1
    where
      by : (c : Bool) → Within c p.1.rest x → grammar.IsPart scope rule levels ws x
      by true q =
          let r = q.is in (
            grammar.Converted,
            record {
              of = q.of;
              is = (
                p.0,
                record {
                  front = p.1.front ++ r.front;
                  inside = r.inside;
                  rest = r.rest;
                  words = p.1.words ∙ ap (λ us. p.1.front ++ us) r.words ∙ sym (append_assoc p.1.front r.front (r.inside ++ r.rest));
                  is_front = tokens-append p.1.front r.front ∙ (λ j. p.1.is_first.0 j ++ r.is_front j);
                  is_inside = r.is_inside;
                  is_rest = r.is_rest;
                },
              );
              makes = q.makes;
            },
          )
      by false q =
          let r = q.is_then in (
            grammar.Parenthesized,
            (
              p.0,
              record {
                front = p.1.front;
                inside = q.front;
                rest = r.front;
                words = p.1.words ∙ ap (λ us. p.1.front ++ us)
                    (q.words ∙ ap (λ us. q.front ++ us) (r.words ∙ ap (λ us. r.front ++ us) r.is_then.0 ∙ append-nil r.front));
                is_front = p.1.is_first.0;
                is_inside = subst (rule Choice q.front) (sym r.is_then.1) q.is_first;
                is_rest = r.is_first.0;
              },
            ),
          )

  from_converted : (ws : List Word) (x : Value) → grammar.IsPartBy scope rule levels grammar.Converted ws x → Parens ws x
  from_converted ws x q =
      let r = q.is.1 in
      let c = cut r.front (sign k.LParen ∷ []) (name_token (codes "uint64_t") ∷ sign k.RParen ∷ sign k.LParen ∷ []) r.is_front in (
        q.is.0,
        record {
          value = tt;
          front = c.front;
          rest = c.rest ++ (r.inside ++ r.rest);
          words = r.words ∙ ap (λ us. us ++ (r.inside ++ r.rest)) c.words ∙ append_assoc c.front c.rest (r.inside ++ r.rest);
          is_first = (c.is_front, refl);
          is_then = (
            true,
            record {
              of = q.of;
              is = record {
                front = c.rest;
                inside = r.inside;
                rest = r.rest;
                words = refl;
                is_front = c.is_rest;
                is_inside = r.is_inside;
                is_rest = r.is_rest;
              };
              makes = q.makes;
            },
          );
        },
      )

  from_parenthesized : (ws : List Word) (x : Value) → grammar.IsPartBy scope rule levels grammar.Parenthesized ws x → Parens ws x
  from_parenthesized ws x q =
      let r = q.1 in (
        q.0,
        record {
          value = tt;
          front = r.front;
          rest = r.inside ++ r.rest;
          words = r.words;
          is_first = (r.is_front, refl);
          is_then = (
            false,
            record {
              value = x;
              front = r.inside;
              rest = r.rest;
              words = refl;
              is_first = r.is_inside;
              is_then = record { value = tt; front = r.rest; rest = []; words = sym (append-nil r.rest); is_first = (r.is_rest, refl); is_then = (refl, refl) };
            },
          );
        },
      )

  to_part : (s : Start) (ws : List Word) (x : Value) → By s ws x → grammar.IsPart scope rule levels ws x
  to_part IndexNumber ws x p = (grammar.IndexLiteral, p)
  to_part WordNumber ws x p = (grammar.WordLiteral, p)
  to_part OfSize ws x p = (grammar.SizeName, p)
  to_part OfLoop ws x p = (grammar.LoopName, p)
  to_part OfBuffer ws x p = (grammar.Element, p)
  to_part OfTop ws x p = (grammar.Larger, p)
  to_part Opening ws x p = parens_to ws x p
  to_part Nothing ws x p = absurd p

  from_part : (form : PartForm) (ws : List Word) (x : Value) → grammar.IsPartBy scope rule levels form ws x → Chosen By ws x
  from_part grammar.IndexLiteral ws x p = (IndexNumber, p)
  from_part grammar.WordLiteral ws x p = (WordNumber, p)
  from_part grammar.SizeName ws x p = (OfSize, p)
  from_part grammar.LoopName ws x p = (OfLoop, p)
  from_part grammar.Element ws x p = (OfBuffer, p)
  from_part grammar.Larger ws x p = (OfTop, p)
  from_part grammar.Parenthesized ws x p = (Opening, from_parenthesized ws x p)
  from_part grammar.Converted ws x p = (Opening, from_converted ws x p)

  starting : (s : Start) (ws : List Word) (x : Value) (j : Input) → By s ws x → begins (peek (ahead ws j)) ≡ true
  starting s ws x j p = ap is_start (part_starts s ws x j p) ∙ some s ws x p
    where
      some : (s : Start) (ws : List Word) (x : Value) → By s ws x → is_start s ≡ true
      some Nothing ws x p = absurd p
      some IndexNumber ws x p = refl
      some WordNumber ws x p = refl
      some OfSize ws x p = refl
      some OfLoop ws x p = refl
      some OfBuffer ws x p = refl
      some OfTop ws x p = refl
      some Opening ws x p = refl

  part_good : Good (reader.part scope below levels) (grammar.IsPart scope rule levels) never
  part_good = record {
    lawful = lawful_as (reader.part scope below levels) (Chosen By) (grammar.IsPart scope rule levels) never (λ ws x p. to_part p.0 ws x p.1)
        (λ ws x p. from_part p.0 ws x p.1)
        (lawful_chosen start_of (reader.part_by scope below levels) By never part_by_lawful part_starts);
    starts = λ ws x j p. let c = from_part p.0 ws x p.1 in starting c.0 ws x j c.1;
  }

  -- ---- chains

  good_both : (p : Parser Value) (f : Value → Parser Value) (first : List Word → Value → Type 0) (second : Value → List Word → Value → Type 0)
      (first_goes_on goes_on : Kind → Bool) → Good p first first_goes_on
      → Lawful (p >>= f) (Both first second) goes_on → Good (p >>= f) (Both first second) goes_on
  good_both p f first second first_goes_on goes_on g l = record {
    lawful = l;
    starts = λ ws x j q. both_first first second (λ w. begins w ≡ true)
        (λ us y m r. g.starts us y m r) ws x j q;
  }

  product_good : Good (reader.product scope below levels) (grammar.IsProduct scope rule levels) GoesOn.product_goes
  unfolding products
  product_good = good_both (reader.part scope below levels) (chain (products levels) (λ n a o. below Part) max_chain)
      (grammar.IsPart scope rule levels) _ never GoesOn.product_goes part_good
      (lawful_both (reader.part scope below levels) (chain (products levels) (λ n a o. below Part) max_chain) (grammar.IsPart scope rule levels)
      (λ x. IsChain (products levels) (λ n a o. rule Part) max_chain x) never GoesOn.product_goes part_good.lawful
      (λ x. lawful_chain (products levels) (λ n a o. below Part)
      (λ n a o. rule Part) never GoesOn.product_goes GoesOn.product_no_end GoesOn.product_frees GoesOn.product_stops GoesOn.join_joint
      (λ n a o. (h Part).lawful) max_chain x)
      (λ x ws y j p e. refl))

  sum_good : Good (reader.sum scope below levels) (grammar.IsSum scope rule levels) GoesOn.sum_goes
  unfolding sums
  sum_good = good_both (reader.product scope below levels) (chain (sums levels) (λ n a o. below Product) max_chain)
      (grammar.IsProduct scope rule levels) _ GoesOn.product_goes GoesOn.sum_goes product_good
      (lawful_both (reader.product scope below levels) (chain (sums levels) (λ n a o. below Product) max_chain) (grammar.IsProduct scope rule levels)
      (λ x. IsChain (sums levels) (λ n a o. rule Product) max_chain x) GoesOn.product_goes GoesOn.sum_goes product_good.lawful
      (λ x. lawful_chain (sums levels) (λ n a o. below Product)
      (λ n a o. rule Product) GoesOn.product_goes GoesOn.sum_goes GoesOn.sum_no_end GoesOn.sum_frees GoesOn.sum_stops GoesOn.join_joint
      (λ n a o. (h Product).lawful) max_chain x)
      (λ x ws y j p e. rest_frees (sums levels) (λ n a o. below Product)
      (λ n a o. rule Product) GoesOn.product_goes GoesOn.sum_goes GoesOn.sum_no_end GoesOn.sum_frees GoesOn.sum_stops GoesOn.join_joint
      (λ n a o. (h Product).lawful) max_chain x ws y j p e))

  relation_good : Good (reader.relation scope below levels) (grammar.IsRelation scope rule levels) GoesOn.relation_goes
  unfolding relations
  relation_good = good_both (reader.sum scope below levels) (chain relations (λ n a o. reader.sum scope below levels) 1)
      (grammar.IsSum scope rule levels) _ GoesOn.sum_goes GoesOn.relation_goes sum_good
      (lawful_both (reader.sum scope below levels) (chain relations (λ n a o. reader.sum scope below levels) 1) (grammar.IsSum scope rule levels)
      (λ x. IsChain relations (λ n a o. grammar.IsSum scope rule levels) 1 x) GoesOn.sum_goes GoesOn.relation_goes sum_good.lawful
      (λ x. lawful_chain relations (λ n a o. reader.sum scope below levels)
      (λ n a o. grammar.IsSum scope rule levels) GoesOn.sum_goes GoesOn.relation_goes GoesOn.relation_no_end GoesOn.relation_frees GoesOn.relation_stops
      GoesOn.compared_joint (λ n a o. sum_good.lawful) 1 x)
      (λ x ws y j p e. rest_frees relations (λ n a o. reader.sum scope below levels)
      (λ n a o. grammar.IsSum scope rule levels) GoesOn.sum_goes GoesOn.relation_goes GoesOn.relation_no_end GoesOn.relation_frees GoesOn.relation_stops
      GoesOn.compared_joint (λ n a o. sum_good.lawful) 1 x ws y j p e))

  -- ---- tests

  abbrev Relation : List Word → Value → Type 0
  Relation = grammar.IsRelation scope rule levels

  abbrev OneMore : Value → List Word → Value → Type 0
  OneMore left = Checked (joined left) (Both (IsWordOf AndAnd no_value) (λ u. Relation))

  abbrev End : Value → List Word → Value → Type 0
  End x = IsNothing x

  one_more_lawful : (left : Value) → Lawful (reader.one_more scope below levels left) (OneMore left) GoesOn.relation_goes
  one_more_lawful left = lawful_checked (joined left) _ (Both (IsWordOf AndAnd no_value) (λ u. Relation)) GoesOn.relation_goes (GoesOn.joined_joint left)
      (lawful_both (a_word AndAnd no_value) (λ u. reader.relation scope below levels) (IsWordOf AndAnd no_value) (λ u. Relation) never GoesOn.relation_goes
      (lawful_word AndAnd no_value (λ e. cc)) (λ u. relation_good.lawful) (λ u ws y j p e. refl))

  some_word : (left : Value) (ws : List Word) (x : Value) → OneMore left ws x → 0 < length ws
  some_word left ws x p =
      let b = p.1 in
      let e : ws ≡ b.is_first.word ∷ b.rest = b.words ∙ ap (λ us. us ++ b.rest) b.is_first.words in
      let l : length ws ≡ suc (length b.rest) = ap length e in
      omega arith

  and_starts : (left : Value) (ws : List Word) (x : Value) (j : Input) → OneMore left ws x → goes_and (peek (ahead ws j)) ≡ true
  unfolding same_kind
  and_starts left ws x j p = both_first (IsWordOf AndAnd no_value) (λ u. Relation) (λ w. goes_and w ≡ true)
      (λ us u l q. ap (λ kd. same_kind kd AndAnd) (word_starts AndAnd no_value us u l q)) ws p.0 j p.1

  ends : (a : Value) (ws : List Word) (y : Value) (j : Input) → End a ws y → GoesOn.and_goes (kind j) ≡ false → goes_and (peek (ahead ws j)) ≡ false
  ends a ws y j p e = ap (λ (us : List Word). goes_and (peek (ahead us j))) p.0 ∙ GoesOn.and_ends (kind j) e

  frees_end : (a : Value) (ws : List Word) (y : Value) (j : Input) → End a ws y → GoesOn.and_goes (kind j) ≡ false
      → GoesOn.relation_goes (kind (ahead ws j)) ≡ false
  frees_end a ws y j p e = ap (λ (us : List Word). GoesOn.relation_goes (kind (ahead us j))) p.0 ∙ GoesOn.and_within (kind j) e

  to_ands : (n : ℕ) (x : Value) (ws : List Word) (y : Value) → UntilBy OneMore End n x ws y → IsChain ands (λ m a o. Relation) n x ws y
  unfolding ands
  to_ands zero x ws y p = p
  to_ands (suc n) x ws y p =
      let b = p.is_first.1 in
      let w = b.is_first in
      inr (record {
        word = w.word;
        front = b.rest;
        rest = p.rest;
        sign = tt;
        right = p.is_first.0;
        value = p.value;
        words = p.words ∙ ap (λ us. us ++ p.rest) (b.words ∙ ap (λ us. us ++ b.rest) w.words);
        is = ap grammar.and_sign w.is;
        room = omega arith;
        is_operand = b.is_then;
        joins = p.is_first.2;
        is_rest = to_ands n p.value p.rest y p.is_then;
      })

  from_ands : (n : ℕ) (x : Value) (ws : List Word) (y : Value) → IsChain ands (λ m a o. Relation) n x ws y → Until OneMore End x ws y
  unfolding ands
  from_ands zero x ws y p = (0, p)
  from_ands (suc n) x ws y (inl p) = (0, p)
  from_ands (suc n) x ws y (inr l) =
      let r = from_ands n l.value l.rest y l.is_rest in (
        suc r.0,
        record {
          value = l.value;
          front = l.word ∷ l.front;
          rest = l.rest;
          words = l.words;
          is_first = (
            l.right,
            record {
              value = tt;
              front = l.word ∷ [];
              rest = l.front;
              words = refl;
              is_first = record { word = l.word; is = sign_is l.word.kind l.sign l.is; reads_as = refl; words = refl };
              is_then = l.is_operand;
            },
            l.joins,
          );
          is_then = r.1;
        },
      )
    where
      sign_is : (kd : Kind) (o : Unit {0}) → grammar.and_sign kd ≡ Some o → kd ≡ AndAnd
      sign_is AndAnd o e = refl
      sign_is kd o e = absurd cc

  tests_good : Good (reader.tests scope below levels) (grammar.IsAnd scope rule levels) GoesOn.and_goes
  tests_good = good_both (reader.relation scope below levels) (until goes_and (reader.one_more scope below levels) pure) Relation
      (grammar.AreMore scope rule levels) GoesOn.relation_goes GoesOn.and_goes relation_good
      (lawful_as _ (Both Relation (Until OneMore End)) (grammar.IsAnd scope rule levels) GoesOn.and_goes
      (λ ws x p. record {
        value = p.value;
        front = p.front;
        rest = p.rest;
        words = p.words;
        is_first = p.is_first;
        is_then = (p.is_then.0, to_ands p.is_then.0 p.value p.rest x p.is_then.1);
      })
      (λ ws x p. record {
        value = p.value;
        front = p.front;
        rest = p.rest;
        words = p.words;
        is_first = p.is_first;
        is_then = from_ands p.is_then.0 p.value p.rest x p.is_then.1;
      })
      (lawful_both (reader.relation scope below levels) (until goes_and (reader.one_more scope below levels) pure) Relation
      (Until OneMore End) GoesOn.relation_goes GoesOn.and_goes relation_good.lawful
      (λ x. lawful_until goes_and (reader.one_more scope below levels) pure OneMore End GoesOn.relation_goes GoesOn.and_goes one_more_lawful
      (λ a. lawful_pure a GoesOn.and_goes) some_word and_starts ends (λ w e. GoesOn.and_frees w.kind e) frees_end x)
      (λ x ws y j p e. first_goes goes_and (reader.one_more scope below levels) pure OneMore End GoesOn.relation_goes GoesOn.and_goes one_more_lawful
      (λ a. lawful_pure a GoesOn.and_goes) some_word and_starts ends (λ w e. GoesOn.and_frees w.kind e) frees_end p.0 x ws y j p.1 e)))

  -- ---- choices

  sides_lawful : Lawful (reader.sides scope below levels) (grammar.IsSides scope rule levels) GoesOn.choice_goes
  sides_lawful = lawful_both (below Choice) _ (rule Choice)
      (λ a. Made (λ b. (a, b)) (Around (sign k.Colon ∷ []) [] (rule Choice))) GoesOn.choice_goes GoesOn.choice_goes (h Choice).lawful
      (λ a. lawful_made (λ b. (a, b)) (expect_all (sign k.Colon ∷ []) >>= (λ u. below Choice)) (Around (sign k.Colon ∷ []) [] (rule Choice)) GoesOn.choice_goes
      (lawful_behind (sign k.Colon ∷ []) (below Choice) (rule Choice) GoesOn.choice_goes (λ e. cc, tt) (h Choice).lawful))
      (λ a ws y j p e. ap (λ (t : Token). GoesOn.choice_goes t.kind) (around_first (sign k.Colon) [] [] (rule Choice) ws p.of j p.is))

  choice_first : (x : Value) (ws : List Word) (y : Value) (j : Input) → IsChain (choices levels) (λ n a o. grammar.IsSides scope rule levels) 1 x ws y
      → GoesOn.choice_goes (kind j) ≡ false → GoesOn.and_goes (kind (ahead ws j)) ≡ false
  unfolding choices peek
  choice_first x ws y j (inl p) e = ap (λ (us : List Word). GoesOn.and_goes (kind (ahead us j))) p.0 ∙ GoesOn.choice_within (kind j) e
  choice_first x ws y j (inr l) e = ap (λ (us : List Word). GoesOn.and_goes (kind (ahead us j))) l.words ∙ GoesOn.choice_frees l.word.kind l.sign l.is

  choice_good : Good (reader.choice scope below levels) (grammar.IsChoice scope rule levels) GoesOn.choice_goes
  unfolding choices
  choice_good = good_both (reader.tests scope below levels) (optional (choices levels) (λ o. reader.sides scope below levels))
      (grammar.IsAnd scope rule levels) _ GoesOn.and_goes GoesOn.choice_goes tests_good
      (lawful_both (reader.tests scope below levels) (optional (choices levels) (λ o. reader.sides scope below levels)) (grammar.IsAnd scope rule levels)
      (λ x. IsChain (choices levels) (λ n a o. grammar.IsSides scope rule levels) 1 x) GoesOn.and_goes GoesOn.choice_goes tests_good.lawful
      (λ x. lawful_optional (choices levels) (λ o. reader.sides scope below levels)
      (λ o. grammar.IsSides scope rule levels) GoesOn.choice_goes GoesOn.choice_goes GoesOn.choice_no_end GoesOn.choice_stops
      (λ o a. GoesOn.chosen_joint a) (λ o. sides_lawful) x)
      choice_first)

  level_good : (place : Level) → Good (reader.by_level scope below levels place) (grammar.IsByLevel scope rule levels place) (GoesOn.goes_on place)
  level_good Choice = choice_good
  level_good Sum = sum_good
  level_good Product = product_good
  level_good Part = part_good

pub inner_good : (scope : Scope) → IsReadable scope → (levels : ℕ) (place : Level) → Good (inner scope levels place) (IsInner scope levels place)
    (GoesOn.goes_on place)
inner_good scope few zero place = record { lawful = lawful_unexpected (GoesOn.goes_on place); starts = λ ws x j p. absurd p }
inner_good scope few (suc levels) place = level_good scope few (inner scope levels) (IsInner scope levels) levels (inner_good scope few levels) place

pub expression_good : (scope : Scope) → IsReadable scope → (levels : ℕ) (place : Level)
    → Good (reader.expression scope levels place) (grammar.IsExpression scope levels place) (GoesOn.goes_on place)
expression_good scope few levels place = level_good scope few (inner scope levels) (IsInner scope levels) levels (inner_good scope few levels) place
