-- Each statement takes a word at least, so the statements of a block can be read one at a time.
use Rattle.std.proofs.Common.{◌≡◌, ◌≢◌, ℕ, zero, suc, ◌-◌, ◌<◌, Bool, true, false, cond, not, List, [], ◌∷◌, ◌++◌, Ok, Err, refl, ap, ◌∙◌, arith, length}
use Rattle.std.specs.Prelude.{codes}
use Rattle.text_tokens.specs.declared.kind.Kind.{Kind}
use Rattle.text_tokens.specs.declared.kind.Kind.TheVariants as k
use Rattle.text_tokens.specs.Kinds.{same_kind}
use Rattle.text_tokens.specs.Spelled.{Token, name_token}
use Rattle.text_tokens.specs.Words.{Input, peek}
use Rattle.loop_lang.specs.declared.index.Iexp.{Iexp}
use Rattle.loop_lang.specs.declared.word.Buf.{Buf}
use Rattle.loop_lang.specs.declared.stmt.Stmt.{Stmt}
use Rattle.loop_lang.specs.declared.stmt.Stmt.TheVariants as stmt
use Rattle.reader_laws.specs.declared.fault.ReadError.{ReadError}
use Rattle.reader_laws.specs.declared.fault.ReadError.TheVariants.{Memory}
use Rattle.reader_laws.specs.Steps.{Parser, ◌>>=◌, ◌>>◌, a_word, and_then, kind, misplaced, open_level, pure, unexpected}
use Rattle.c_print.specs.declared.level.Level.TheVariants.{Choice}
use Rattle.c_words.specs.Tokens.{PlusAssign, Pragma, sign}
use Rattle.c_text.specs.Expression.{Scope}
use Rattle.c_text.specs.Statement.{either, filled, if_of, inside_loop}
use Rattle.c_text.specs.Printed.{fill_end}
use Rattle.c_read.specs.Names.{target}
use Rattle.c_read.specs.Parts.{around, checked, expect_all, opened}
use Rattle.c_read.specs.Expressions as expressions
use Rattle.c_read.specs.Expressions.{inner}
use Rattle.c_read.specs.Statements as reading
use Rattle.c_read.specs.Statements.{Beginning, Piece, adds, closing, expect_pieces, goes_statement, loop_end, loop_start}
use Rattle.c_expression_reader.proofs.Shorter.{Shorter, Takes, shorter_all, shorter_around, shorter_checked, shorter_none, shorter_open, shorter_opened}
use Rattle.c_expression_reader.proofs.Shorter.{shorter_pure, shorter_then, shorter_until, takes_all, takes_short, takes_then, takes_word, then_takes}
use Rattle.c_expression_reader.proofs.Reading.{expression_shorter, inner_shorter}
use Rattle.c_expression_reader.proofs.Until.{until_stop, until_turn}
use Rattle.c_statement_reader.specs.Statements.{block, fill, fill_parts, fill_place, guarded, header, index_within, inner_statement, loop_by, looped}
use Rattle.c_statement_reader.specs.Statements.{mark, more_statements, one_more, one_statement, statement_by, store, store_by, stored, stored_by, tested}

takes_opened : {A : Type 0} (levels : ℕ) (t : Token) (ts before after : List Token) (p : Parser A) → (t.kind ≡ k.End → ⊥) → Shorter p
    → Takes (opened levels (t ∷ ts) before after p)
takes_opened levels t ts before after p some sp = takes_then (expect_all (t ∷ ts)) _ (takes_all t ts some) (λ u.
    shorter_then (open_level levels) _ (shorter_open levels) (λ v. shorter_around before after p sp))

pieces_short : (ps : List Piece) → Shorter (expect_pieces ps)
pieces_short [] = shorter_pure tt
pieces_short (p ∷ ps) = shorter_then (open_level p.levels >> expect_all p.tokens) _
    (shorter_then (open_level p.levels) _ (shorter_open p.levels) (λ u. shorter_all p.tokens)) (λ u. pieces_short ps)

-- all but the first piece
abbrev later : List Piece → List Piece
later [] = []
later (p ∷ ps) = ps

module _ (scope : Scope) (levels : ℕ) where
  within_short : Shorter (index_within scope levels)
  within_short = shorter_checked expressions.as_index (inner scope levels Choice) (inner_shorter scope levels Choice)

  start_takes : Takes (expect_pieces (loop_start levels scope.loops))
  start_takes = takes_then (expect_all (name_token (codes "for") ∷ [])) (λ u. expect_pieces (later (loop_start levels scope.loops)))
      (takes_all (name_token (codes "for")) [] (λ e. cc)) (λ u. pieces_short (later (loop_start levels scope.loops)))

  header_takes : Takes (header scope levels)
  unfolding header
  header_takes = takes_then (expect_pieces (loop_start levels scope.loops)) _ start_takes (λ u.
      shorter_then (index_within scope levels) _ within_short (λ n.
      shorter_then (expect_pieces (loop_end levels scope.loops)) _ (pieces_short (loop_end levels scope.loops)) (λ v. shorter_pure n)))

  tested_takes : Takes (tested scope levels)
  unfolding tested
  tested_takes = takes_opened levels (name_token (codes "if")) [] (sign k.LParen ∷ []) (sign k.RParen ∷ [])
      (checked expressions.as_tests (inner scope levels Choice)) (λ e. cc)
      (shorter_checked expressions.as_tests (inner scope levels Choice) (inner_shorter scope levels Choice))

  place_short : Shorter (fill_place scope levels)
  unfolding fill_place
  place_short = shorter_around (sign k.Comma ∷ []) (sign k.Comma ∷ []) (index_within scope levels) within_short

  parts_short : Shorter (fill_parts scope levels)
  unfolding fill_parts
  parts_short = shorter_then (a_word k.Name (target scope)) _ (takes_short (a_word k.Name (target scope)) (takes_word k.Name (target scope) (λ e. cc))) (λ b.
      shorter_then (fill_place scope levels) _ place_short (λ at. shorter_then (index_within scope levels) _ within_short (λ n. shorter_pure (b, (at, n)))))

  fill_takes : Takes (fill scope levels)
  unfolding fill
  fill_takes = takes_then (opened levels (name_token (codes "fill") ∷ []) (sign k.LParen ∷ []) fill_end (fill_parts scope levels)) (λ e. pure (filled e))
      (takes_opened levels (name_token (codes "fill")) [] (sign k.LParen ∷ []) fill_end (fill_parts scope levels) (λ e. cc) parts_short)
      (λ e. shorter_pure (filled e))

  stored_short : Shorter (stored scope levels)
  unfolding stored
  stored_short = shorter_then (checked expressions.as_word (expressions.expression scope levels Choice)) _
      (shorter_checked expressions.as_word (expressions.expression scope levels Choice) (expression_shorter scope levels))
      (λ x. shorter_then _ _ (shorter_all (sign k.Semi ∷ [])) (λ v. shorter_pure x))

  stored_by_short : (kd : Kind) → Shorter (stored_by scope levels kd)
  unfolding stored_by
  stored_by_short kd = shorter_then _ _ (shorter_all (sign kd ∷ [])) (λ u. stored_short)

  store_by_short : (e : Buf × Iexp) (b : Bool) → Shorter (store_by scope levels e b)
  store_by_short e true = shorter_then (stored_by scope levels PlusAssign) _ (stored_by_short PlusAssign) (λ w. shorter_pure (stmt.AddTo e.0 e.1 w))
  store_by_short e false = shorter_then (stored_by scope levels k.Assign) _ (stored_by_short k.Assign) (λ w. shorter_pure (stmt.Put e.0 e.1 w))

  brackets_short : Shorter (expressions.in_brackets scope (inner scope levels) levels)
  brackets_short = shorter_opened levels [] (sign k.LBracket ∷ []) (sign k.RBracket ∷ []) (index_within scope levels) within_short

  element_takes : Takes (expressions.element scope (inner scope levels) levels (target scope))
  element_takes = takes_then (a_word k.Name (target scope)) _ (takes_word k.Name (target scope) (λ e. cc)) (λ b.
      shorter_then (expressions.in_brackets scope (inner scope levels) levels) _ brackets_short (λ i. shorter_pure (b, i)))

  store_takes : Takes (store scope levels)
  unfolding store
  store_takes = takes_then (expressions.element scope (inner scope levels) levels (target scope)) _ element_takes (λ e i j x h.
      store_by_short e (adds (peek i)) i j x h)

module _ (below : Scope → Bool → Parser Stmt) (levels : ℕ) (inside : (scope : Scope) (marked : Bool) → Shorter (below scope marked)) where
  more_short : (scope : Scope) (marked : Bool) (done : List Stmt) → Shorter (more_statements below levels scope marked done)
  unfolding more_statements
  more_short scope marked done = shorter_until goes_statement (one_more below levels scope marked) closing
      (λ a. shorter_then (below scope marked) _ (inside scope marked) (λ s. shorter_pure (a ++ s ∷ [])))
      (λ a. shorter_then _ _ (shorter_all (sign k.RBrace ∷ [])) (λ u. shorter_pure (stmt.Seq a))) done

  block_short : (scope : Scope) (marked : Bool) → Shorter (block below levels scope marked)
  unfolding block
  block_short scope marked = shorter_then (open_level levels) _ (shorter_open levels) (λ v.
      shorter_then _ _ (shorter_all (sign k.LBrace ∷ [])) (λ u. more_short scope marked []))

  module _ (scope : Scope) (marked : Bool) where
    looped_takes : (m : Bool) → Takes (looped below levels scope marked m)
    unfolding looped
    looped_takes m = takes_then (header scope levels) _ (header_takes scope levels) (λ n.
        shorter_then (block below levels (inside_loop scope) (either m marked)) _ (block_short (inside_loop scope) (either m marked)) (λ s.
        shorter_pure (stmt.For n m s)))

    mark_short : (m : Bool) → Shorter (mark below levels scope marked m)
    unfolding mark
    mark_short true = by marked
      where
        by : (b : Bool) → Shorter (cond b unexpected (expect_all (sign Pragma ∷ [])))
        by true = shorter_none
        by false = shorter_all (sign Pragma ∷ [])
    mark_short false = shorter_pure tt

    loop_takes : (m : Bool) → Takes (loop_by below levels scope marked m)
    unfolding loop_by
    loop_takes m = then_takes (mark below levels scope marked m) (λ u. looped below levels scope marked m) (mark_short m) (λ u. looped_takes m)

    guarded_takes : Takes (guarded below levels scope marked)
    unfolding guarded
    guarded_takes = takes_then (tested scope levels) _ (tested_takes scope levels) (λ cs.
        shorter_then (block below levels scope marked) _ (block_short scope marked) (λ s. shorter_pure (if_of cs s)))

    by_takes : (b : Beginning) → Takes (statement_by below levels scope marked b)
    by_takes reading.Marked = loop_takes true
    by_takes reading.Unmarked = loop_takes false
    by_takes reading.Testing = guarded_takes
    by_takes reading.Filling = fill_takes scope levels
    by_takes reading.Storing = store_takes scope levels

    one_takes : Takes (one_statement below levels scope marked)
    unfolding one_statement
    one_takes i j x h = by_takes (reading.beginning (peek i)) i j x h

inner_takes : (levels : ℕ) (scope : Scope) (marked : Bool) → Takes (inner_statement levels scope marked)
unfolding inner_statement
inner_takes zero scope marked i j x h = absurd cc
inner_takes (suc levels) scope marked i j x h =
    one_takes (inner_statement levels) levels (λ s m. takes_short (inner_statement levels s m) (inner_takes levels s m)) scope marked i j x h

-- ---- one step of a block at a time

module _ (scope : Scope) (levels : ℕ) (marked : Bool) where
  abbrev Turn : List Stmt → Parser (List Stmt)
  Turn = one_more (inner_statement levels) levels scope marked

  abbrev More : List Stmt → Parser Stmt
  More = more_statements (inner_statement levels) levels scope marked

  turn_takes : (done more : List Stmt) (i j : Input) → Turn done i ≡ Ok (more, j) → length j.words < length i.words
  turn_takes done more i j h =
      takes_then (inner_statement levels scope marked) (λ s. pure (done ++ s ∷ [])) (inner_takes levels scope marked) (λ s. shorter_pure (done ++ s ∷ [])) i j
      more h

  -- the end of a block
  pub statements_stop : (done : List Stmt) (i : Input) → same_kind (kind i) k.RBrace ≡ true → More done i ≡ closing done i
  unfolding more_statements
  statements_stop done i h = until_stop goes_statement Turn closing turn_takes done i (ap not h)

  statements_turn : (done : List Stmt) (i : Input) → same_kind (kind i) k.RBrace ≡ false → More done i ≡ and_then (Turn done i) More
  unfolding more_statements
  statements_turn done i h = until_turn goes_statement Turn closing turn_takes done i (ap not h)

  pub statement_takes : (s : Stmt) (i j : Input) → inner_statement levels scope marked i ≡ Ok (s, j) → length j.words < length i.words
  statement_takes s i j h = inner_takes levels scope marked i j s h

  pub statements_went : (done : List Stmt) (s : Stmt) (i j : Input) → same_kind (kind i) k.RBrace ≡ false
      → inner_statement levels scope marked i ≡ Ok (s, j) → More done i ≡ More (done ++ s ∷ []) j
  statements_went done s i j h reads = statements_turn done i h ∙ ap (λ r. and_then (and_then r (λ s. pure (done ++ s ∷ []))) More) reads

  pub statements_fell : (done : List Stmt) (i : Input) (e : ReadError) → same_kind (kind i) k.RBrace ≡ false
      → (e ≢ Memory → inner_statement levels scope marked i ≡ Err e) → e ≢ Memory → More done i ≡ Err e
  statements_fell done i e h reads other = statements_turn done i h ∙ ap (λ r. and_then (and_then r (λ s. pure (done ++ s ∷ []))) More) (reads other)

-- ---- one level further in

pub statement_none : (scope : Scope) (levels : ℕ) (marked : Bool) (i : Input) → levels ≡ 0 → inner_statement levels scope marked i ≡ Err (misplaced i)
unfolding inner_statement
statement_none scope levels marked i e = rw e refl

pub statement_some : (scope : Scope) (levels : ℕ) (marked : Bool) (i : Input) → 0 < levels
    → inner_statement levels scope marked i ≡ one_statement (inner_statement (levels - 1)) (levels - 1) scope marked i
unfolding inner_statement
statement_some scope zero marked i some = absurd (omega arith)
statement_some scope (suc levels) marked i some = let e : suc levels - 1 ≡ levels = omega arith in rw e refl
