-- The reader of statements is lawful.
use Rattle.std.proofs.Common.{◌≡◌, inl, inr, ℕ, zero, suc, ◌+◌, ◌-◌, ◌<◌, ◌≤◌, ◌^◌, ◌&&◌, not, Bool, true, false}
use Rattle.std.proofs.Common.{if◌then◌else◌, List, [], ◌∷◌, ◌++◌, length, Result, Ok, Err, refl, sym, ap, subst, ◌∙◌, append_assoc, arith}
use Rattle.std.specs.Prelude.{codes}
use Rattle.std.specs.Str.{bytes_eq}
use Rattle.text_tokens.specs.declared.kind.Kind.{Kind}
use Rattle.text_tokens.specs.declared.kind.Kind.TheVariants as k
use Rattle.text_tokens.specs.Kinds.{same_kind}
use Rattle.text_tokens.specs.Spelled.{Token, name_token, token_of, tokens_of}
use Rattle.text_tokens.specs.Words.{Word, Input, peek}
use Rattle.loop_lang.specs.declared.index.Iexp.{Iexp}
use Rattle.loop_lang.specs.declared.index.Test.{Test}
use Rattle.loop_lang.specs.declared.word.Buf.{Buf}
use Rattle.loop_lang.specs.declared.word.Buf.TheVariants as buf
use Rattle.loop_lang.specs.declared.word.Wexp.{Wexp}
use Rattle.loop_lang.specs.declared.stmt.Stmt.{Stmt}
use Rattle.loop_lang.specs.declared.stmt.Stmt.TheVariants as stmt
use Rattle.c_print.specs.declared.level.Level.TheVariants.{Choice}
use Rattle.c_print.specs.Word.{buffer_name}
use Rattle.reader_laws.specs.Steps.{Parser, ◌>>=◌, ◌>>◌, a_word, kind, open_level, pure, unexpected}
use Rattle.reader_laws.specs.Grammar.{Both, IsNothing, Opened}
use Rattle.reader_laws.proofs.Outcomes.{ahead}
use Rattle.reader_laws.proofs.Lawful.{Lawful, NoWords, lawful_as, lawful_both, lawful_open, lawful_pure, lawful_unexpected, never}
use Rattle.c_words.specs.Tokens.{PlusAssign, Pragma, sign}
use Rattle.c_text.specs.Rules.{Around, Fixed, Front, IsEach, IsToken, Made}
use Rattle.c_text.specs.Expression as grammar
use Rattle.c_text.specs.Expression.{HasBuffer, IsInner, Scope, OfTests, OfWord, Value}
use Rattle.c_text.specs.Statement as grammar_of
use Rattle.c_text.specs.Statement.{AddTo, Fill, Guarded, HasTarget, IsInnerStatement, IsTarget, Loop}
use Rattle.c_text.specs.Statement.{MayMark, Put, StatementForm, either, filled, if_of, inside_loop}
use Rattle.c_text.specs.Printed.{fill_end, fill_start, for_end, for_start, if_start, mark_words}
use Rattle.c_text.proofs.Pieces.{cut, none}
use Rattle.c_text.proofs.RulesSay.{append-nil}
use Rattle.c_read.specs.Names.{target}
use Rattle.c_read.specs.Parts.{around, checked, expect_all, opened, until}
use Rattle.c_read.specs.Until.{Until, UntilBy}
use Rattle.c_read.specs.Rules.{Checked, Chosen}
use Rattle.c_read.specs.Expressions.{as_index, as_tests, as_word, element, expression, in_brackets, inner, inner_index}
use Rattle.c_read.specs.Statements as reader
use Rattle.c_read.specs.Statements.{Beginning, Marked, Unmarked, Testing, Filling, Storing, Piece, adds}
use Rattle.c_read.specs.Statements.{beginning, beginning_token, closing, expect_pieces, goes_statement, inner_statement, loop_end, loop_start}
use Rattle.c_read.proofs.UntilLaws.{lawful_until}
use Rattle.c_read.proofs.Joining.{lawful_checked, lawful_chosen}
use Rattle.c_read.proofs.Reading.{NoEnd, around_first, both_first, first_ahead, first_token}
use Rattle.c_read.proofs.Reading.{lawful_around, lawful_fixed, lawful_made, lawful_opened, token_first, tokens-append}
use Rattle.c_read.proofs.ReadingNames.{FewBuffers, lawful_name, reads_target}
use Rattle.c_read.proofs.GoesOn
use Rattle.c_read.proofs.ExpressionLaws.{IsReadable, brackets_lawful, expression_good, index_lawful, inner_good}

-- ---- pieces

abbrev AllOpen : List Piece → Type 0
AllOpen [] = Unit {0}
AllOpen (p ∷ ps) = (0 < p.levels) × AllOpen ps

abbrev all_tokens : List Piece → List Token
all_tokens [] = []
all_tokens (p ∷ ps) = p.tokens ++ all_tokens ps

abbrev NoEnds : List Piece → Type 0
NoEnds [] = Unit {0}
NoEnds (p ∷ ps) = NoEnd p.tokens × NoEnds ps

abbrev ArePieces : List Piece → List Word → Unit {0} → Type 0
ArePieces ps ws u = AllOpen ps × (tokens_of ws ≡ all_tokens ps) × (u ≡ tt)

lawful_pieces : (ps : List Piece) → NoEnds ps → Lawful (expect_pieces ps) (ArePieces ps) never
lawful_pieces [] some = lawful_as (pure tt) (IsNothing tt) (ArePieces []) never (λ ws u p. (tt, ap tokens_of p.0, p.1)) (λ ws u p. (none ws p.1, p.2))
    (lawful_pure tt never)
lawful_pieces (p ∷ ps) some = lawful_as (expect_pieces (p ∷ ps)) (Both (Opened p.levels (Fixed p.tokens (tt {0}))) (λ u. ArePieces ps))
    (ArePieces (p ∷ ps)) never
    (λ ws u h. ((h.is_first.0, h.is_then.0), ap tokens_of h.words ∙ tokens-append h.front h.rest ∙ (λ j. h.is_first.1.0 j ++ h.is_then.1 j), h.is_then.2))
    (λ ws u h. let c = cut ws p.tokens (all_tokens ps) h.1
    in record { value = tt; front = c.front; rest = c.rest; words = c.words; is_first = (h.0.0, (c.is_front, refl)); is_then = (h.0.1, c.is_rest, h.2) })
    (lawful_both (open_level p.levels >> expect_all p.tokens) (λ u. expect_pieces ps) (Opened p.levels (Fixed p.tokens (tt {0})))
    (λ u. ArePieces ps) never never
    (lawful_open p.levels (expect_all p.tokens) (Fixed p.tokens (tt {0})) never (lawful_fixed p.tokens some.0)) (λ u. lawful_pieces ps some.1)
    (λ u ws y j q e. refl))

-- the scope may be read with so many loops more
pub record IsReadableWithin (l : ℕ) (scope : Scope) : Type 0 where
  pub sizes : scope.sizes ≤ 2 ^ 64
  pub deep : scope.loops + l ≤ 2 ^ 64
  pub few : FewBuffers scope

readable : (l : ℕ) (scope : Scope) → IsReadableWithin l scope → IsReadable scope
readable l scope h = record { sizes = h.sizes; loops = omega (arith, h.deep); few = h.few }

inside : (l : ℕ) (scope : Scope) → IsReadableWithin (suc l) scope → IsReadableWithin l (inside_loop scope)
inside l scope h = record {
  sizes = h.sizes;
  deep = omega (arith, h.deep);
  few = record { inputs = h.few.inputs; outputs = h.few.outputs; scratch = h.few.scratch };
}

outside : (l : ℕ) (scope : Scope) → IsReadableWithin (suc l) scope → IsReadableWithin l scope
outside l scope h = record { sizes = h.sizes; deep = omega (arith, h.deep); few = h.few }

-- ---- statements

-- lawful, and begun by a word that closes no block
pub record GoodStatement (p : Parser Stmt) (rule : List Word → Stmt → Type 0) : Type 0 where
  pub lawful : Lawful p rule never
  pub starts : (ws : List Word) (s : Stmt) (j : Input) → rule ws s → goes_statement (peek (ahead ws j)) ≡ true
  pub some : (ws : List Word) (s : Stmt) → rule ws s → 0 < length ws

token_some : (t : Token) (ts : List Token) (ws : List Word) → tokens_of ws ≡ t ∷ ts → 0 < length ws
token_some t ts [] e = absurd (cc)
token_some t ts (w ∷ ws) e = omega arith

front_some : (front rest ws : List Word) → ws ≡ front ++ rest → 0 < length front → 0 < length ws
front_some [] rest ws e l = absurd (omega (arith, l))
front_some (w ∷ front) rest ws e l = let n : length ws ≡ suc (length (front ++ rest)) = ap length e in omega arith

module _ (below : Scope → Bool → Parser Stmt) (rule : Scope → Bool → List Word → Stmt → Type 0) (levels : ℕ)
    (h : (scope : Scope) (marked : Bool) → IsReadableWithin levels scope → GoodStatement (below scope marked) (rule scope marked)) where
  -- ---- blocks

  module _ (scope : Scope) (marked : Bool) (inside_scope : Scope) (in_marked : Bool)
      (g : GoodStatement (below inside_scope in_marked) (rule inside_scope in_marked)) where
    abbrev Turn : List Stmt → List Word → List Stmt → Type 0
    Turn done = Made (λ s. done ++ s ∷ []) (rule inside_scope in_marked)

    abbrev Close : List Stmt → List Word → Stmt → Type 0
    Close done = Both (Fixed (sign k.RBrace ∷ []) (tt {0})) (λ u. IsNothing (stmt.Seq done))

    turn_lawful : (done : List Stmt) → Lawful (reader.one_more_statement below levels scope marked inside_scope in_marked done) (Turn done) never
    turn_lawful done = lawful_made (λ s. done ++ s ∷ []) (below inside_scope in_marked) (rule inside_scope in_marked) never g.lawful

    close_lawful : (done : List Stmt) → Lawful (closing done) (Close done) never
    close_lawful done = lawful_both (expect_all (sign k.RBrace ∷ [])) (λ u. pure (stmt.Seq done)) (Fixed (sign k.RBrace ∷ []) (tt {0}))
        (λ u. IsNothing (stmt.Seq done)) never never (lawful_fixed (sign k.RBrace ∷ []) (λ e. cc, tt))
        (λ u. lawful_pure (stmt.Seq done) never) (λ u ws y j p e. refl)

    close_first : (done : List Stmt) (ws : List Word) (s : Stmt) (j : Input) → Close done ws s → goes_statement (peek (ahead ws j)) ≡ false
    unfolding same_kind
    close_first done ws s j p = both_first (Fixed (sign k.RBrace ∷ []) (tt {0})) (λ u. IsNothing (stmt.Seq done)) (λ w. goes_statement w ≡ false)
        (λ us u l f. ap (λ (t : Token). not (same_kind t.kind k.RBrace)) (first_token (sign k.RBrace) [] us l f.0)) ws s j p

    abbrev Body : List Word → Stmt → Type 0
    Body = Until Turn Close []

    body_lawful : Lawful (until goes_statement (reader.one_more_statement below levels scope marked inside_scope in_marked) closing []) Body never
    body_lawful = lawful_until goes_statement
        (reader.one_more_statement below levels scope marked inside_scope in_marked) closing Turn Close never never turn_lawful close_lawful
        (λ done ws x p. g.some ws p.of p.is) (λ done ws x j p. g.starts ws p.of j p.is) (λ done ws s j p e. close_first done ws s j p) (λ w e. refl)
        (λ done ws s j p e. refl) []

    -- statements one after another, and then the end of the block
    record Ended (done : List Stmt) (ws : List Word) (s : Stmt) : Type 0 where
      more : List Stmt
      front : List Word
      rest : List Word
      words : ws ≡ front ++ rest
      each : IsEach (rule inside_scope in_marked) front more
      is_end : tokens_of rest ≡ sign k.RBrace ∷ []
      is : s ≡ stmt.Seq (done ++ more)

    append_none : (xs : List Stmt) → xs ++ [] ≡ xs
    append_none [] = refl
    append_none (x ∷ xs) = ap (λ ys. x ∷ ys) (append_none xs)

    to_ended : (n : ℕ) (done : List Stmt) (ws : List Word) (s : Stmt) → UntilBy Turn Close n done ws s → Ended done ws s
    to_ended zero done ws s p = record {
      more = [];
      front = [];
      rest = ws;
      words = refl;
      each = refl;
      is_end = ap tokens_of p.words ∙ tokens-append p.front p.rest ∙ (λ j. p.is_first.0 j ++ tokens_of (p.is_then.0 j));
      is = p.is_then.1 ∙ ap stmt.Seq (sym (append_none done));
    }
    to_ended (suc n) done ws s p =
        let r = to_ended n p.value p.rest s p.is_then in
        record {
          more = p.is_first.of ∷ r.more;
          front = p.front ++ r.front;
          rest = r.rest;
          words = p.words ∙ ap (λ us. p.front ++ us) r.words ∙ sym (append_assoc p.front r.front r.rest);
          each = record { front = p.front; rest = r.front; words = refl; is_first = p.is_first.is; is_then = r.each };
          is_end = r.is_end;
          is = r.is ∙ ap (λ ss. stmt.Seq (ss ++ r.more)) p.is_first.makes ∙ ap stmt.Seq (append_assoc done (p.is_first.of ∷ []) r.more);
        }

    from_each : (done more : List Stmt) (front rest : List Word) → IsEach (rule inside_scope in_marked) front more → tokens_of rest ≡ sign k.RBrace ∷ []
        → Until Turn Close done (front ++ rest) (stmt.Seq (done ++ more))
    from_each done [] front rest each last = (
      0,
      record {
        value = tt;
        front = rest;
        rest = [];
        words = ap (λ us. us ++ rest) each ∙ sym (append-nil rest);
        is_first = (last, refl);
        is_then = (refl, ap stmt.Seq (append_none done));
      },
    )
    from_each done (x ∷ more) front rest each last =
        let r = from_each (done ++ x ∷ []) more each.rest rest each.is_then last in
        let same : stmt.Seq ((done ++ x ∷ []) ++ more) ≡ stmt.Seq (done ++ x ∷ more) = ap stmt.Seq (append_assoc done (x ∷ []) more) in (
          suc r.0,
          record {
            value = done ++ x ∷ [];
            front = each.front;
            rest = each.rest ++ rest;
            words = ap (λ us. us ++ rest) each.words ∙ append_assoc each.front each.rest rest;
            is_first = record { of = x; is = each.is_first; makes = refl };
            is_then = subst (λ s. UntilBy Turn Close r.0 (done ++ x ∷ []) (each.rest ++ rest) s) same r.1;
          },
        )

    abbrev Block : List Word → Stmt → Type 0
    Block = grammar_of.IsBlock rule levels scope marked inside_scope in_marked

    abbrev Opening : List Word → Stmt → Type 0
    Opening = Opened levels (Both (Fixed (sign k.LBrace ∷ []) (tt {0})) (λ u. Body))

    to_block : (ws : List Word) (s : Stmt) → Opening ws s → Block ws s
    to_block ws s p =
        let b = p.1 in
        let r = to_ended b.is_then.0 [] b.rest s b.is_then.1 in (
          p.0,
          record {
            front = b.front;
            inside = r.front;
            rest = r.rest;
            words = b.words ∙ ap (λ us. b.front ++ us) r.words;
            is_front = b.is_first.0;
            is_inside = record { of = r.more; is = r.each; makes = r.is };
            is_rest = r.is_end;
          },
        )

    from_block : (ws : List Word) (s : Stmt) → Block ws s → Opening ws s
    from_block ws s p =
        let b = p.1 in
        let r = from_each [] b.is_inside.of b.inside b.rest b.is_inside.is b.is_rest in (
          p.0,
          record {
            value = tt;
            front = b.front;
            rest = b.inside ++ b.rest;
            words = b.words;
            is_first = (b.is_front, refl);
            is_then = (r.0, subst (λ t. UntilBy Turn Close r.0 [] (b.inside ++ b.rest) t) (sym b.is_inside.makes) r.1);
          },
        )

    pub block_lawful : Lawful (reader.block below levels scope marked inside_scope in_marked) Block never
    block_lawful = lawful_as (reader.block below levels scope marked inside_scope in_marked) Opening Block never to_block from_block
        (lawful_open levels _ (Both (Fixed (sign k.LBrace ∷ []) (tt {0})) (λ u. Body)) never
        (lawful_both (expect_all (sign k.LBrace ∷ []))
        (λ u. until goes_statement (reader.one_more_statement below levels scope marked inside_scope in_marked) closing [])
        (Fixed (sign k.LBrace ∷ []) (tt {0})) (λ u. Body) never never (lawful_fixed (sign k.LBrace ∷ []) (λ e. cc, tt)) (λ u. body_lawful)
        (λ u ws y j q e. refl)))

  -- ---- the forms

  module _ (scope : Scope) (marked : Bool) (few : IsReadableWithin (suc levels) scope) where
    abbrev Within : List Word → Iexp → Type 0
    Within = grammar_of.IsIndexWithin rule levels scope marked

    within_lawful : Lawful (reader.index_within below levels scope marked) Within GoesOn.choice_goes
    within_lawful = index_lawful scope (readable (suc levels) scope few) (inner scope levels) (IsInner scope levels) levels
        (inner_good scope (readable (suc levels) scope few) levels)

    -- loops

    abbrev Header : List Word → Iexp → Type 0
    Header = Both (ArePieces (loop_start levels scope.loops)) (λ u. Both Within (λ n. Both (ArePieces (loop_end levels scope.loops)) (λ v. IsNothing n)))

    to_header : (ws : List Word) (n : Iexp) → Header ws n → grammar_of.IsHeader rule levels scope marked ws n
    to_header ws n p =
        let b = p.is_then in
        let c = b.is_then in (
          (let l : 0 < levels - 2 = c.is_first.0.1.1.0 in omega (arith, l)),
          record {
            front = p.front;
            inside = b.front;
            rest = c.front;
            words = p.words ∙ ap (λ us. p.front ++ us)
                (b.words ∙ ap (λ us. b.front ++ us) (c.words ∙ ap (λ us. c.front ++ us) c.is_then.0 ∙ append-nil c.front));
            is_front = p.is_first.1;
            is_inside = subst (Within b.front) (sym c.is_then.1) b.is_first;
            is_rest = c.is_first.1;
          },
        )

    from_header : (ws : List Word) (n : Iexp) → grammar_of.IsHeader rule levels scope marked ws n → Header ws n
    from_header ws n p =
        let r = p.1 in
        let l : 2 < levels = p.0 in
        record {
          value = tt;
          front = r.front;
          rest = r.inside ++ r.rest;
          words = r.words;
          is_first = ((omega arith, (omega (arith, l), (omega (arith, l), tt))), r.is_front, refl);
          is_then = record {
            value = n;
            front = r.inside;
            rest = r.rest;
            words = refl;
            is_first = r.is_inside;
            is_then = record {
              value = tt;
              front = r.rest;
              rest = [];
              words = sym (append-nil r.rest);
              is_first = ((omega arith, (omega (arith, l), (omega (arith, l), tt))), r.is_rest, refl);
              is_then = (refl, refl);
            };
          };
        }

    header_lawful : Lawful (reader.header below levels scope marked) (grammar_of.IsHeader rule levels scope marked) never
    header_lawful = lawful_as (reader.header below levels scope marked) Header (grammar_of.IsHeader rule levels scope marked) never to_header from_header
        (lawful_both (expect_pieces (loop_start levels scope.loops)) _ (ArePieces (loop_start levels scope.loops))
        (λ u. Both Within (λ n. Both (ArePieces (loop_end levels scope.loops)) (λ v. IsNothing n))) never never
        (lawful_pieces (loop_start levels scope.loops) (
          (λ e. cc, tt),
          (
            (λ e. cc, (λ e. cc, (λ e. cc, (λ e. cc, (λ e. cc, tt))))),
            ((λ e. cc, (λ e. cc, (λ e. cc, (λ e. cc, (λ e. cc, (λ e. cc, tt)))))), tt),
          ),
        ))
        (λ u. lawful_both (reader.index_within below levels scope marked) _ Within
        (λ n. Both (ArePieces (loop_end levels scope.loops)) (λ v. IsNothing n)) GoesOn.choice_goes never within_lawful
        (λ n. lawful_both (expect_pieces (loop_end levels scope.loops)) (λ v. pure n) (ArePieces (loop_end levels scope.loops)) (λ v. IsNothing n) never never
        (lawful_pieces (loop_end levels scope.loops)
        ((λ e. cc, (λ e. cc, (λ e. cc, (λ e. cc, tt)))), ((λ e. cc, (λ e. cc, tt)), ((λ e. cc, (λ e. cc, (λ e. cc, (λ e. cc, tt)))), tt))))
        (λ v. lawful_pure n never) (λ v ws y j p e. refl))
        (λ n ws y j p e. both_first (ArePieces (loop_end levels scope.loops)) (λ v. IsNothing n) (λ w. GoesOn.choice_goes w.kind ≡ false)
        (λ us u l q. ap (λ (t : Token). GoesOn.choice_goes t.kind) (first_token (sign k.Semi) _ us l q.1)) ws y j p))
        (λ u ws y j p e. refl))

    abbrev Mark : Bool → List Word → Unit {0} → Type 0
    Mark m ws u = MayMark m marked × (tokens_of ws ≡ mark_words m) × (u ≡ tt)

    mark_lawful : (m : Bool) → Lawful (reader.mark below levels scope marked m) (Mark m) never
    mark_lawful false = lawful_as (pure tt) (IsNothing tt) (Mark false) never (λ ws u p. (tt, ap tokens_of p.0, p.1)) (λ ws u p. (none ws p.1, p.2))
        (lawful_pure tt never)
    mark_lawful true = by marked
      where
        by : (b : Bool) → Lawful (if b then unexpected else expect_all (sign Pragma ∷ []))
            (λ ws u. MayMark true b × (tokens_of ws ≡ sign Pragma ∷ []) × (u ≡ tt)) never
        by true = lawful_as unexpected NoWords (λ ws u. MayMark true true × (tokens_of ws ≡ sign Pragma ∷ []) × (u ≡ tt)) never (λ ws u p. absurd p)
            (λ ws u p. absurd p.0) (lawful_unexpected never)
        by false = lawful_as (expect_all (sign Pragma ∷ [])) (Fixed (sign Pragma ∷ []) (tt {0}))
            (λ ws u. MayMark true false × (tokens_of ws ≡ sign Pragma ∷ []) × (u ≡ tt)) never (λ ws u p. (tt, p.0, p.1))
            (λ ws u p. (p.1, p.2)) (lawful_fixed (sign Pragma ∷ []) (λ e. cc, tt))

    abbrev Looped : Bool → List Word → Stmt → Type 0
    Looped m = Both (Mark m) (λ u. Both (grammar_of.IsHeader rule levels scope marked)
        (λ n. Made (stmt.For n m) (grammar_of.IsBlock rule levels scope marked (inside_loop scope) (either m marked))))

    loop_lawful : (m : Bool) → Lawful (reader.loop below levels scope marked m) (Looped m) never
    loop_lawful m = lawful_both (reader.mark below levels scope marked m) _ (Mark m)
        (λ u. Both (grammar_of.IsHeader rule levels scope marked)
        (λ n. Made (stmt.For n m) (grammar_of.IsBlock rule levels scope marked (inside_loop scope) (either m marked)))) never never (mark_lawful m)
        (λ u. lawful_both (reader.header below levels scope marked) _ (grammar_of.IsHeader rule levels scope marked)
        (λ n. Made (stmt.For n m) (grammar_of.IsBlock rule levels scope marked (inside_loop scope) (either m marked))) never never header_lawful
        (λ n. lawful_made (stmt.For n m) (reader.block below levels scope marked (inside_loop scope) (either m marked))
        (grammar_of.IsBlock rule levels scope marked (inside_loop scope) (either m marked)) never
        (block_lawful scope marked (inside_loop scope) (either m marked) (h (inside_loop scope) (either m marked) (inside levels scope few))))
        (λ n ws y j p e. refl)) (λ u ws y j p e. refl)

    -- tests

    tests_lawful : Lawful (checked as_tests (inner scope levels Choice)) (grammar.Tests (IsInner scope levels Choice)) GoesOn.choice_goes
    tests_lawful = lawful_as (checked as_tests (inner scope levels Choice)) (Checked as_tests (IsInner scope levels Choice))
        (grammar.Tests (IsInner scope levels Choice)) GoesOn.choice_goes
        (λ ws cs c. subst (IsInner scope levels Choice ws) (GoesOn.are_tests c.0 cs c.2) c.1) (λ ws cs c. (OfTests cs, c, refl))
        (lawful_checked as_tests (inner scope levels Choice) (IsInner scope levels Choice) GoesOn.choice_goes GoesOn.tests_joint
        (inner_good scope (readable (suc levels) scope few) levels Choice).lawful)

    guarded_lawful : Lawful (reader.guarded below levels scope marked) (grammar_of.IsIf rule levels scope marked) never
    guarded_lawful = lawful_both _ _ (Opened levels (Around if_start (sign k.RParen ∷ []) (grammar.Tests (IsInner scope levels Choice))))
        (λ cs. Made (if_of cs) (grammar_of.IsBlock rule levels scope marked scope marked)) never never
        (lawful_opened levels (name_token (codes "if") ∷ []) (sign k.LParen ∷ []) (sign k.RParen) [] (checked as_tests (inner scope levels Choice))
        (grammar.Tests (IsInner scope levels Choice)) GoesOn.choice_goes (λ e. cc, tt) (λ e. cc, tt) (λ e. cc, tt) refl tests_lawful)
        (λ cs. lawful_made (if_of cs) (reader.block below levels scope marked scope marked) (grammar_of.IsBlock rule levels scope marked scope marked) never
        (block_lawful scope marked scope marked (h scope marked (outside levels scope few))))
        (λ cs ws y j p e. refl)

    -- fills

    target_lawful : Lawful (a_word k.Name (target scope)) (IsToken (λ b. name_token (buffer_name b)) (HasTarget scope)) never
    target_lawful = lawful_name buffer_name (HasTarget scope) (target scope) (λ e. cc) (reads_target scope few.few)

    abbrev Parts : List Word → Buf × (Iexp × Iexp) → Type 0
    Parts = Both (IsToken (λ b. name_token (buffer_name b)) (HasTarget scope))
        (λ b. Both (Around (sign k.Comma ∷ []) (sign k.Comma ∷ []) Within) (λ at. Made (λ n. (b, (at, n))) Within))

    parts_lawful : Lawful (reader.fill_parts below levels scope marked) Parts GoesOn.choice_goes
    parts_lawful = lawful_both (a_word k.Name (target scope)) _ (IsToken (λ b. name_token (buffer_name b)) (HasTarget scope))
        (λ b. Both (Around (sign k.Comma ∷ []) (sign k.Comma ∷ []) Within) (λ at. Made (λ n. (b, (at, n))) Within)) never GoesOn.choice_goes target_lawful
        (λ b. lawful_both (around (sign k.Comma ∷ []) (sign k.Comma ∷ []) (reader.index_within below levels scope marked)) _
        (Around (sign k.Comma ∷ []) (sign k.Comma ∷ []) Within) (λ at. Made (λ n. (b, (at, n))) Within) never GoesOn.choice_goes
        (lawful_around (sign k.Comma ∷ []) (sign k.Comma) [] (reader.index_within below levels scope marked) Within GoesOn.choice_goes (λ e. cc, tt)
        (λ e. cc, tt) refl within_lawful)
        (λ at. lawful_made (λ n. (b, (at, n))) (reader.index_within below levels scope marked) Within GoesOn.choice_goes within_lawful) (λ at ws y j p e. refl))
        (λ b ws y j p e. refl)

    fill_lawful : Lawful (reader.fill below levels scope marked) (Made filled (grammar_of.IsFill rule levels scope marked)) never
    fill_lawful = lawful_made filled _ (grammar_of.IsFill rule levels scope marked) never
        (lawful_opened levels (name_token (codes "fill") ∷ []) (sign k.LParen ∷ []) (sign k.RParen) (sign k.Semi ∷ [])
        (reader.fill_parts below levels scope marked) Parts GoesOn.choice_goes (λ e. cc, tt) (λ e. cc, tt) (λ e. cc, (λ e. cc, tt)) refl parts_lawful)

    -- stores

    abbrev Place : List Word → Buf × Iexp → Type 0
    Place = Both (IsToken (λ b. name_token (buffer_name b)) (HasTarget scope))
        (λ b. Made (λ i. (b, i)) (grammar.InBrackets scope (IsInner scope levels) levels (grammar.Index (IsInner scope levels Choice))))

    place_lawful : Lawful (element scope (inner scope levels) levels (target scope)) Place never
    place_lawful = lawful_both (a_word k.Name (target scope)) _ (IsToken (λ b. name_token (buffer_name b)) (HasTarget scope))
        (λ b. Made (λ i. (b, i)) (grammar.InBrackets scope (IsInner scope levels) levels
        (grammar.Index (IsInner scope levels Choice)))) never never target_lawful
        (λ b. lawful_made (λ i. (b, i)) (in_brackets scope (inner scope levels) levels)
        (grammar.InBrackets scope (IsInner scope levels) levels (grammar.Index (IsInner scope levels Choice))) never
        (brackets_lawful scope (readable (suc levels) scope few) (inner scope levels) (IsInner scope levels) levels
        (inner_good scope (readable (suc levels) scope few) levels)))
        (λ b ws y j p e. refl)

    abbrev Word' : List Word → Wexp → Type 0
    Word' = grammar.AWord (grammar.IsExpression scope levels Choice)

    word_lawful : Lawful (checked as_word (expression scope levels Choice)) Word' GoesOn.choice_goes
    word_lawful = lawful_as (checked as_word (expression scope levels Choice))
        (Checked as_word (grammar.IsExpression scope levels Choice)) Word' GoesOn.choice_goes
        (λ ws w c. subst (grammar.IsExpression scope levels Choice ws) (GoesOn.is_word c.0 w c.2) c.1) (λ ws w c. (OfWord w, c, refl))
        (lawful_checked as_word (expression scope levels Choice) (grammar.IsExpression scope levels Choice) GoesOn.choice_goes GoesOn.word_joint
        (expression_good scope (readable (suc levels) scope few) levels Choice).lawful)

    stored_lawful : (kd : Kind) → (kd ≡ k.End → ⊥) → Lawful (reader.stored below levels scope marked kd) (Around (sign kd ∷ []) (sign k.Semi ∷ []) Word') never
    stored_lawful kd some = lawful_around (sign kd ∷ []) (sign k.Semi) [] (checked as_word (expression scope levels Choice)) Word' GoesOn.choice_goes
        (some, tt) (λ e. cc, tt) refl word_lawful

    abbrev Store : Buf × Iexp → Bool → List Word → Stmt → Type 0
    Store e true = Made (stmt.AddTo e.0 e.1) (Around (sign PlusAssign ∷ []) (sign k.Semi ∷ []) Word')
    Store e false = Made (stmt.Put e.0 e.1) (Around (sign k.Assign ∷ []) (sign k.Semi ∷ []) Word')

    store_by_lawful : (e : Buf × Iexp) (b : Bool) → Lawful (reader.store_by below levels scope marked e b) (Store e b) never
    store_by_lawful e true = lawful_made (stmt.AddTo e.0 e.1) _ _ never (stored_lawful PlusAssign (λ e. cc))
    store_by_lawful e false = lawful_made (stmt.Put e.0 e.1) _ _ never (stored_lawful k.Assign (λ e. cc))

    store_starts : (e : Buf × Iexp) (b : Bool) (ws : List Word) (s : Stmt) (j : Input) → Store e b ws s → adds (peek (ahead ws j)) ≡ b
    unfolding same_kind
    store_starts e true ws s j p = ap (λ (t : Token). same_kind t.kind PlusAssign) (around_first (sign PlusAssign) [] (sign k.Semi ∷ []) Word' ws p.of j p.is)
    store_starts e false ws s j p = ap (λ (t : Token). same_kind t.kind PlusAssign) (around_first (sign k.Assign) [] (sign k.Semi ∷ []) Word' ws p.of j p.is)

    abbrev Stored : List Word → Stmt → Type 0
    Stored = Both Place (λ e. Chosen (Store e))

    store_lawful : Lawful (reader.store below levels scope marked) Stored never
    store_lawful = lawful_both (element scope (inner scope levels) levels (target scope))
        (λ e i. reader.store_by below levels scope marked e (adds (peek i)) i) Place (λ e. Chosen (Store e)) never never place_lawful
        (λ e. lawful_chosen adds (reader.store_by below levels scope marked e) (Store e) never (store_by_lawful e) (store_starts e)) (λ e ws y j p q. refl)

    to_place : (ws : List Word) (e : Buf × Iexp) → Place ws e → grammar_of.IsStore rule levels scope marked ws e
    to_place ws e p =
        let t = p.is_first in
        let b : p.value ≡ e.0 = sym (ap (λ (x : Buf × Iexp). x.0) p.is_then.makes) in (
          subst IsTarget b t.is_allowed.1,
          record {
            value = p.value;
            front = p.front;
            rest = p.rest;
            words = p.words;
            is_first = record { word = t.word; words = t.words; is = t.is; is_allowed = t.is_allowed.0 };
            is_then = p.is_then;
          },
        )

    from_place : (ws : List Word) (e : Buf × Iexp) → grammar_of.IsStore rule levels scope marked ws e → Place ws e
    from_place ws e p =
        let r = p.1 in
        let t = r.is_first in
        let b : e.0 ≡ r.value = ap (λ (x : Buf × Iexp). x.0) r.is_then.makes in
        record {
          value = r.value;
          front = r.front;
          rest = r.rest;
          words = r.words;
          is_first = record { word = t.word; words = t.words; is = t.is; is_allowed = (t.is_allowed, subst IsTarget b p.0) };
          is_then = r.is_then;
        }

    -- ---- all of them

    abbrev By : Beginning → List Word → Stmt → Type 0
    By Marked = Looped true
    By Unmarked = Looped false
    By Testing = grammar_of.IsIf rule levels scope marked
    By Filling = Made filled (grammar_of.IsFill rule levels scope marked)
    By Storing = Stored

    by_lawful : (b : Beginning) → Lawful (reader.statement_by below levels scope marked b) (By b) never
    by_lawful Marked = loop_lawful true
    by_lawful Unmarked = loop_lawful false
    by_lawful Testing = guarded_lawful
    by_lawful Filling = fill_lawful
    by_lawful Storing = store_lawful

    -- the token that each begins with
    abbrev First : Beginning → Token → Type 0
    First Storing t = (b : Buf) × (t ≡ name_token (buffer_name b))
    First Marked t = t ≡ sign Pragma
    First Unmarked t = t ≡ name_token (codes "for")
    First Testing t = t ≡ name_token (codes "if")
    First Filling t = t ≡ name_token (codes "fill")

    header_first : (ws : List Word) (n : Iexp) (j : Input) → grammar_of.IsHeader rule levels scope marked ws n
        → token_of (peek (ahead ws j)) ≡ name_token (codes "for")
    header_first ws n j p = around_first (name_token (codes "for")) _ (for_end scope.loops) Within ws n j p.1

    first_of_by : (b : Beginning) (ws : List Word) (s : Stmt) (j : Input) → By b ws s → First b (token_of (peek (ahead ws j)))
    first_of_by Marked ws s j p = both_first (Mark true) _ (λ w. token_of w ≡ sign Pragma) (λ us u l q. first_token (sign Pragma) [] us l q.1) ws s j p
    first_of_by Unmarked ws s j p =
        let none_there : p.front ≡ [] = none p.front p.is_first.1 in
        ap (λ (us : List Word). token_of (peek (ahead us j))) (p.words ∙ ap (λ us. us ++ p.rest) none_there)
        ∙ both_first (grammar_of.IsHeader rule levels scope marked) _ (λ w. token_of w ≡ name_token (codes "for"))
        (λ us n l q. header_first us n l q) p.rest s j p.is_then
    first_of_by Testing ws s j p = both_first (Opened levels (Around if_start (sign k.RParen ∷ []) (grammar.Tests (IsInner scope levels Choice)))) _
        (λ w. token_of w ≡ name_token (codes "if"))
        (λ us cs l q. around_first (name_token (codes "if")) (sign k.LParen ∷ []) (sign k.RParen ∷ [])
        (grammar.Tests (IsInner scope levels Choice)) us cs l q.1) ws s j p
    first_of_by Filling ws s j p = around_first (name_token (codes "fill")) (sign k.LParen ∷ []) fill_end Parts ws p.of j p.is.1
    first_of_by Storing ws s j p = both_first Place _ (λ w. First Storing (token_of w))
        (λ us e l q. both_first (IsToken (λ b. name_token (buffer_name b)) (HasTarget scope)) _ (λ w. First Storing (token_of w))
        (λ vs b m r. (b, token_first (λ b. name_token (buffer_name b)) (HasTarget scope) vs b m r)) us e l q) ws s j p

    stores : (b : Buf) → beginning_token (name_token (buffer_name b)) ≡ Storing
    unfolding same_kind buffer_name
    stores (buf.Input n) = refl
    stores (buf.Output n) = refl
    stores (buf.Scratch n) = refl

    tells : (b : Beginning) (t : Token) → First b t → beginning_token t ≡ b
    unfolding same_kind
    tells Marked t e = ap beginning_token e
    tells Unmarked t e = ap beginning_token e
    tells Testing t e = ap beginning_token e
    tells Filling t e = ap beginning_token e
    tells Storing t e = ap beginning_token e.1 ∙ stores e.0

    no_brace : (b : Beginning) (t : Token) → First b t → not (same_kind t.kind k.RBrace) ≡ true
    unfolding same_kind
    no_brace Marked t e = ap (λ (u : Token). not (same_kind u.kind k.RBrace)) e
    no_brace Unmarked t e = ap (λ (u : Token). not (same_kind u.kind k.RBrace)) e
    no_brace Testing t e = ap (λ (u : Token). not (same_kind u.kind k.RBrace)) e
    no_brace Filling t e = ap (λ (u : Token). not (same_kind u.kind k.RBrace)) e
    no_brace Storing t e = ap (λ (u : Token). not (same_kind u.kind k.RBrace)) e.1

    by_some : (b : Beginning) (ws : List Word) (s : Stmt) → By b ws s → 0 < length ws
    by_some Marked ws s p = front_some p.front p.rest ws p.words (token_some (sign Pragma) [] p.front p.is_first.1)
    by_some Unmarked ws s p =
        let q = p.is_then in
        let r = q.is_first.1 in
        let a = token_some (name_token (codes "for")) _ r.front r.is_front in
        let b = front_some r.front (r.inside ++ r.rest) q.front r.words a in
        let c = front_some q.front q.rest p.rest q.words b in
        let none_there : p.front ≡ [] = none p.front p.is_first.1 in
        subst (λ us. 0 < length us) (sym (p.words ∙ ap (λ us. us ++ p.rest) none_there)) c
    by_some Testing ws s p =
        let r = p.is_first.1 in
        front_some p.front p.rest ws p.words
        (front_some r.front (r.inside ++ r.rest) p.front r.words (token_some (name_token (codes "if")) (sign k.LParen ∷ []) r.front r.is_front))
    by_some Filling ws s p = let r = p.is.1
        in front_some r.front (r.inside ++ r.rest) ws r.words (token_some (name_token (codes "fill")) (sign k.LParen ∷ []) r.front r.is_front)
    by_some Storing ws s p =
        let q = p.is_first in
        let one : 0 < length q.front = subst (λ us. 0 < length us) (sym q.is_first.words) (omega arith) in
        front_some p.front p.rest ws p.words (front_some q.front q.rest p.front q.words one)

    to_statement : (b : Beginning) (ws : List Word) (s : Stmt) → By b ws s → grammar_of.IsOneStatement rule levels scope marked ws s
    to_statement Marked ws s p = (
      Loop,
      record {
        value = true;
        front = p.front;
        rest = p.rest;
        words = p.words;
        is_first = (p.is_first.0, p.is_first.1);
        is_then = p.is_then;
      },
    )
    to_statement Unmarked ws s p = (
      Loop,
      record {
        value = false;
        front = p.front;
        rest = p.rest;
        words = p.words;
        is_first = (p.is_first.0, p.is_first.1);
        is_then = p.is_then;
      },
    )
    to_statement Testing ws s p = (Guarded, p)
    to_statement Filling ws s p = (Fill, p)
    to_statement Storing ws s p = by p.is_then.0 p.is_then.1
      where
        by : (b : Bool) → Store p.value b p.rest s → grammar_of.IsOneStatement rule levels scope marked ws s
        by true q = (
          AddTo,
          record {
            value = p.value;
            front = p.front;
            rest = p.rest;
            words = p.words;
            is_first = to_place p.front p.value p.is_first;
            is_then = q;
          },
        )
        by false q = (
          Put,
          record {
            value = p.value;
            front = p.front;
            rest = p.rest;
            words = p.words;
            is_first = to_place p.front p.value p.is_first;
            is_then = q;
          },
        )

    from_loop : (m : Bool) (ws : List Word) (s : Stmt) → Looped m ws s → Chosen By ws s
    from_loop true ws s p = (Marked, p)
    from_loop false ws s p = (Unmarked, p)

    from_statement : (form : StatementForm) (ws : List Word) (s : Stmt) → grammar_of.IsStatementBy rule levels scope marked form ws s → Chosen By ws s
    from_statement Loop ws s p = from_loop p.value ws s
        (record { value = tt; front = p.front; rest = p.rest; words = p.words; is_first = (p.is_first.0, p.is_first.1, refl); is_then = p.is_then })
    from_statement Guarded ws s p = (Testing, p)
    from_statement Fill ws s p = (Filling, p)
    from_statement Put ws s p = (
      Storing,
      record {
        value = p.value;
        front = p.front;
        rest = p.rest;
        words = p.words;
        is_first = from_place p.front p.value p.is_first;
        is_then = (false, p.is_then);
      },
    )
    from_statement AddTo ws s p = (
      Storing,
      record {
        value = p.value;
        front = p.front;
        rest = p.rest;
        words = p.words;
        is_first = from_place p.front p.value p.is_first;
        is_then = (true, p.is_then);
      },
    )

    pub statement_good : GoodStatement (reader.one_statement below levels scope marked) (grammar_of.IsOneStatement rule levels scope marked)
    statement_good = record {
      lawful = lawful_as (reader.one_statement below levels scope marked) (Chosen By) (grammar_of.IsOneStatement rule levels scope marked) never
          (λ ws s p. to_statement p.0 ws s p.1) (λ ws s p. from_statement p.0 ws s p.1)
          (lawful_chosen beginning (reader.statement_by below levels scope marked) By never by_lawful
          (λ b ws s j p. tells b (token_of (peek (ahead ws j))) (first_of_by b ws s j p)));
      starts = λ ws s j p. let c = from_statement p.0 ws s p.1 in no_brace c.0 (token_of (peek (ahead ws j))) (first_of_by c.0 ws s j c.1);
      some = λ ws s p. let c = from_statement p.0 ws s p.1 in by_some c.0 ws s c.1;
    }

pub inner_statement_good : (levels : ℕ) (scope : Scope) (marked : Bool) → IsReadableWithin levels scope
    → GoodStatement (inner_statement levels scope marked) (IsInnerStatement levels scope marked)
inner_statement_good zero scope marked few = record { lawful = lawful_unexpected never; starts = λ ws s j p. absurd p; some = λ ws s p. absurd p }
inner_statement_good (suc levels) scope marked few = statement_good (inner_statement levels) (IsInnerStatement levels) levels
    (λ inner_scope m g. inner_statement_good levels inner_scope m g) scope marked few
