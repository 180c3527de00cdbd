-- The words before the word of a statement's fault go on.
use Rattle.std.proofs.Common.{◌≡◌, ◌⊎◌, inl, inr, ℕ, zero, suc, ◌+◌, ◌-◌, ◌<◌, ◌≤◌, ◌^◌, Bool, true, false, cond, List, [], ◌∷◌, ◌++◌, Result, Ok, Err}
use Rattle.std.proofs.Common.{refl, sym, ap, subst, ◌∙◌, append-nil, arith}
use Rattle.std.specs.Prelude.{codes, decimal}
use Rattle.text_tokens.specs.declared.kind.Kind.{Kind}
use Rattle.text_tokens.specs.declared.kind.Kind.TheVariants as k
use Rattle.text_tokens.specs.Spelled.{Token, name_token, tokens_of}
use Rattle.text_tokens.specs.Words.{Word, peek}
use Rattle.loop_lang.specs.declared.index.Iexp.{Iexp}
use Rattle.loop_lang.specs.declared.word.Buf.{Buf}
use Rattle.loop_lang.specs.declared.word.Buf.TheVariants.{Output}
use Rattle.loop_lang.specs.declared.stmt.Stmt.{Stmt}
use Rattle.loop_lang.specs.declared.stmt.Stmt.TheVariants as stmt
use Rattle.c_print.specs.declared.level.Level.TheVariants.{Choice}
use Rattle.reader_laws.specs.Steps.{Parser, ◌>>=◌, ◌>>◌, a_word, open_level, pure, unexpected}
use Rattle.reader_laws.specs.Grammar.{IsWordOf}
use Rattle.c_words.specs.Tokens.{PlusAssign, Pragma, sign}
use Rattle.c_text.specs.Expression.{Scope}
use Rattle.c_text.specs.Statement.{Fill, Loop, Guarded, Put, AddTo, MayMark, either, filled, if_of, inside_loop}
use Rattle.c_text.specs.Printed.{fill_end, for_end, for_start, mark_words}
use Rattle.c_read.specs.Names.{target, with_number}
use Rattle.reader_laws.specs.declared.fault.Fault.{Fault}
use Rattle.c_read.specs.Parts.{around, checked, expect_all, opened, until}
use Rattle.c_read.specs.Expressions.{as_index, as_tests, as_word}
use Rattle.c_read.specs.Expressions as expressions
use Rattle.c_read.specs.Statements.{Beginning, Marked, Unmarked, Testing, Filling, Storing, Piece, adds, beginning, closing, expect_pieces, goes_statement}
use Rattle.c_read.specs.Statements.{inner_statement, loop_end, loop_start}
use Rattle.c_read.specs.Statements as reading
use Rattle.c_read.proofs.Reading.{NoEnd, tokens-append}
use Rattle.c_read.proofs.ReadingNumbers.{is-numeral}
use Rattle.c_first_fault.specs.Shape.{AStatement, Around, Block, ByLevel, Each, Expression}
use Rattle.c_first_fault.specs.Shape.{FillParts, InBrackets, Index, LoopBy, Spelled, Statement, StatementBy}
use Rattle.c_first_fault.specs.Shape.{Stored, Target, Then}
use Rattle.c_first_fault.proofs.Shapes.{Goes, Shapes, around_shapes, chosen_shapes, made_shapes, open_shapes, opened_shapes, pure_shapes, shapes_as}
use Rattle.c_first_fault.proofs.Shapes.{some_around, some_tokens, then_shapes, then_some, tokens_shape, unexpected_shapes, word_shapes}
use Rattle.c_first_fault.proofs.Chains.{some_each, until_shapes}
use Rattle.c_first_fault.proofs.Expressions.{checked_shapes, element_shapes, inner_shapes, level_shapes, some_brackets, some_by, some_inner}

-- ---- pieces of tokens

abbrev all_tokens : List Piece → List Token
all_tokens [] = []
all_tokens (p ∷ ps) = p.tokens ++ all_tokens ps

abbrev PiecesNoEnd : List Piece → Type 0
PiecesNoEnd [] = Unit {0}
PiecesNoEnd (p ∷ ps) = NoEnd p.tokens × PiecesNoEnd ps

spelled_both : (a b : List Token) (ws : List Word) → Then (Spelled a) (Spelled b) ws → Spelled (a ++ b) ws
spelled_both a b ws h = ap tokens_of h.words ∙ tokens-append h.front h.rest ∙ (λ j. h.is_first j ++ h.is_then j)

pieces_shapes : (ps : List Piece) → PiecesNoEnd ps → Shapes (expect_pieces ps) (Spelled (all_tokens ps))
pieces_shapes [] h = shapes_as (pure tt) (λ ws. ws ≡ []) (Spelled []) (λ ws e. ap tokens_of e) (pure_shapes tt)
pieces_shapes (p ∷ ps) h = shapes_as (expect_pieces (p ∷ ps)) (Then (Spelled p.tokens) (Spelled (all_tokens ps))) (Spelled (all_tokens (p ∷ ps)))
    (spelled_both p.tokens (all_tokens ps))
    (then_shapes (open_level p.levels >> expect_all p.tokens) (λ u. expect_pieces ps) (Spelled p.tokens) (Spelled (all_tokens ps))
    (open_shapes p.levels (expect_all p.tokens) (Spelled p.tokens) (tokens_shape p.tokens h.0)) (λ u. pieces_shapes ps h.1) (some_tokens (all_tokens ps)))

-- ---- what may be written

pub record HasOutput (scope : Scope) : Type 0 where
  pub some : 0 < scope.outputs
  pub few : scope.outputs ≤ 2 ^ 64

is_target : (scope : Scope) → HasOutput scope → target scope (98 ∷ decimal 0) ≡ Ok (Output 0)
is_target scope h = ap (λ (r : Result ℕ Fault). with_number Output r) (is-numeral scope.outputs 0 h.few h.some)

-- one and one of two others
then_left : (first left right : List Word → Type 0) (ws : List Word) → Then first (λ us. left us ⊎ right us) ws → Then first left ws ⊎ Then first right ws
then_left first left right ws h = go h.is_then
  where
    go : left h.rest ⊎ right h.rest → Then first left ws ⊎ Then first right ws
    go (inl l) = inl (record { front = h.front; rest = h.rest; words = h.words; is_first = h.is_first; is_then = l })
    go (inr r) = inr (record { front = h.front; rest = h.rest; words = h.words; is_first = h.is_first; is_then = r })

module _ (below : Scope → Bool → Parser Stmt) (shape : Scope → Bool → List Word → Type 0) (levels : ℕ)
    (each : (scope : Scope) (marked : Bool) → HasOutput scope → Shapes (below scope marked) (shape scope marked)) where
  abbrev depth : ℕ
  depth = suc levels

  pub some_block : (scope inner : Scope) (marked inside : Bool) → Goes (Block shape depth scope marked inner inside) []
  some_block scope inner marked inside = some_around (sign k.LBrace ∷ []) (sign k.RBrace ∷ []) (Each (shape inner inside)) (record {
    rest = [];
    is =
        (0, refl);
  })

  pub block_shapes : (scope inner : Scope) (marked inside : Bool) → HasOutput inner
      → Shapes (reading.block below levels scope marked inner inside) (Block shape depth scope marked inner inside)
  block_shapes scope inner marked inside has =
      open_shapes levels (expect_all (sign k.LBrace ∷ []) >>= (λ u. until goes_statement
      (reading.one_more_statement below levels scope marked inner inside) closing []))
      (Block shape depth scope marked inner inside)
      (then_shapes (expect_all (sign k.LBrace ∷ []))
      (λ u. until goes_statement (reading.one_more_statement below levels scope marked inner inside) closing []) (Spelled (sign k.LBrace ∷ []))
      (Then (Each (shape inner inside)) (Spelled (sign k.RBrace ∷ []))) (tokens_shape (sign k.LBrace ∷ []) ((λ e. cc), tt))
      (λ u. until_shapes goes_statement (reading.one_more_statement below levels scope marked inner inside) closing (shape inner inside)
      (Spelled (sign k.RBrace ∷ []))
      (λ done. made_shapes (below inner inside) (λ s. done ++ s ∷ []) (shape inner inside) (each inner inside has))
      (λ done. made_shapes (expect_all (sign k.RBrace ∷ [])) (λ u. stmt.Seq done) (Spelled (sign k.RBrace ∷ []))
      (tokens_shape (sign k.RBrace ∷ []) ((λ e. cc), tt))) (some_tokens (sign k.RBrace ∷ [])) [])
      (some_each (shape inner inside) (Spelled (sign k.RBrace ∷ [])) (some_tokens (sign k.RBrace ∷ []))))

  module _ (scope : Scope) (has : HasOutput scope) where
    abbrev AnIndex : List Word → Type 0
    AnIndex = Expression scope depth Choice

    index_shapes : (marked : Bool) → Shapes (reading.index_within below levels scope marked) AnIndex
    index_shapes marked = checked_shapes as_index (expressions.inner scope levels Choice) AnIndex (inner_shapes scope levels Choice)

    some_index : Goes AnIndex []
    some_index = some_inner scope levels Choice

    header_shapes : (marked : Bool) → Shapes (reading.header below levels scope marked) (Around (for_start scope.loops) (for_end scope.loops) AnIndex)
    header_shapes marked =
        then_shapes (expect_pieces (loop_start levels scope.loops))
        (λ u. reading.index_within below levels scope marked >>= (λ n. expect_pieces (loop_end levels scope.loops) >>= (λ v. pure n)))
        (Spelled (for_start scope.loops)) (Then AnIndex (Spelled (for_end scope.loops)))
        (pieces_shapes (loop_start levels scope.loops) (
          (λ e. cc, tt),
          (
            (λ e. cc, (λ e. cc, (λ e. cc, (λ e. cc, (λ e. cc, tt))))),
            ((λ e. cc, (λ e. cc, (λ e. cc, (λ e. cc, (λ e. cc, (λ e. cc, tt)))))), tt),
          ),
        ))
        (λ u. then_shapes (reading.index_within below levels scope marked) (λ n. expect_pieces (loop_end levels scope.loops) >>= (λ v. pure n)) AnIndex
        (Spelled (for_end scope.loops)) (index_shapes marked)
        (λ n. made_shapes (expect_pieces (loop_end levels scope.loops)) (λ v. n) (Spelled (for_end scope.loops))
        (pieces_shapes (loop_end levels scope.loops) (
          (λ e. cc, (λ e. cc, (λ e. cc, (λ e. cc, tt)))),
          (
            (λ e. cc, (λ e. cc, tt)),
            ((λ e. cc, (λ e. cc, (λ e. cc, (λ e. cc, tt)))), tt),
          ),
        ))) (some_tokens (for_end scope.loops)))
        (then_some AnIndex (Spelled (for_end scope.loops)) some_index (some_tokens (for_end scope.loops)))

    some_header : Goes (Around (for_start scope.loops) (for_end scope.loops) AnIndex) []
    some_header = some_around (for_start scope.loops) (for_end scope.loops) AnIndex some_index

    -- a loop behind its mark
    behind_mark : (m marked : Bool) → Shapes (reading.header below levels scope marked >>= (λ n. reading.block below levels scope marked (inside_loop scope)
        (either m marked) >>= (λ s. pure (stmt.For n m s))))
        (Then (Around (for_start scope.loops) (for_end scope.loops) AnIndex) (Block shape depth scope marked (inside_loop scope) (either m marked)))
    behind_mark m marked = then_shapes (reading.header below levels scope marked)
        (λ n. reading.block below levels scope marked (inside_loop scope) (either m marked) >>= (λ s. pure (stmt.For n m s)))
        (Around (for_start scope.loops) (for_end scope.loops) AnIndex) (Block shape depth scope marked (inside_loop scope) (either m marked))
        (header_shapes marked)
        (λ n. made_shapes (reading.block below levels scope marked (inside_loop scope) (either m marked)) (λ s. stmt.For n m s)
        (Block shape depth scope marked (inside_loop scope) (either m marked))
        (block_shapes scope (inside_loop scope) marked (either m marked) (record { some = has.some; few = has.few })))
        (some_block scope (inside_loop scope) marked (either m marked))

    some_behind : (m marked : Bool)
        → Goes (Then (Around (for_start scope.loops) (for_end scope.loops) AnIndex) (Block shape depth scope marked (inside_loop scope) (either m marked))) []
    some_behind m marked = then_some (Around (for_start scope.loops) (for_end scope.loops) AnIndex)
        (Block shape depth scope marked (inside_loop scope) (either m marked)) some_header (some_block scope (inside_loop scope) marked (either m marked))

    marked_shapes : (m marked : Bool) → MayMark m marked → Shapes (reading.mark below levels scope marked m) (Spelled (mark_words m))
        → Shapes (reading.loop below levels scope marked m) (AStatement shape depth scope marked)
    marked_shapes m marked may l = shapes_as (reading.loop below levels scope marked m) (LoopBy shape depth scope marked m)
        (AStatement shape depth scope marked)
        (λ ws h. (Loop, (m, (may, h))))
        (then_shapes (reading.mark below levels scope marked m) (λ u. reading.header below levels scope marked
        >>= (λ n. reading.block below levels scope marked (inside_loop scope) (either m marked) >>= (λ s. pure (stmt.For n m s))))
        (Spelled (mark_words m))
        (Then (Around (for_start scope.loops) (for_end scope.loops) AnIndex) (Block shape depth scope marked (inside_loop scope) (either m marked))) l
        (λ u. behind_mark m marked) (some_behind m marked))

    loop_shapes : (m marked : Bool) → Shapes (reading.loop below levels scope marked m) (AStatement shape depth scope marked)
    loop_shapes true true =
        let none = unexpected_shapes {A = Stmt} (AStatement shape depth scope true) in
        record { sound = λ i j x e. absurd cc; begins = λ i fault place e. none.begins i fault place e }
    loop_shapes true false = marked_shapes true false tt (tokens_shape (sign Pragma ∷ []) ((λ e. cc), tt))
    loop_shapes false marked = marked_shapes false marked tt (tokens_shape [] tt)

    guarded_shapes : (marked : Bool) → Shapes (reading.guarded below levels scope marked) (AStatement shape depth scope marked)
    guarded_shapes marked = shapes_as (reading.guarded below levels scope marked) (StatementBy shape depth scope marked Guarded)
        (AStatement shape depth scope marked)
        (λ ws h. (Guarded, h))
        (then_shapes (opened levels (name_token (codes "if") ∷ []) (sign k.LParen ∷ []) (sign k.RParen ∷ [])
        (checked as_tests (expressions.inner scope levels Choice)))
        (λ cs. reading.block below levels scope marked scope marked >>= (λ s. pure (if_of cs s)))
        (Then (Spelled (name_token (codes "if") ∷ [])) (Around (sign k.LParen ∷ []) (sign k.RParen ∷ []) AnIndex)) (Block shape depth scope marked scope marked)
        (opened_shapes levels (name_token (codes "if") ∷ []) (sign k.LParen ∷ []) (sign k.RParen ∷ []) (checked as_tests
        (expressions.inner scope levels Choice))
        AnIndex ((λ e. cc), tt) ((λ e. cc), tt) ((λ e. cc), tt)
        (checked_shapes as_tests (expressions.inner scope levels Choice) AnIndex (inner_shapes scope levels Choice)) some_index)
        (λ cs. made_shapes (reading.block below levels scope marked scope marked) (λ s. if_of cs s) (Block shape depth scope marked scope marked)
        (block_shapes scope scope marked marked has)) (some_block scope scope marked marked))

    abbrev Middle : List Word → Type 0
    Middle = Around (sign k.Comma ∷ []) (sign k.Comma ∷ []) AnIndex

    some_middle : Goes Middle []
    some_middle = some_around (sign k.Comma ∷ []) (sign k.Comma ∷ []) AnIndex some_index

    parts_shapes : (marked : Bool) → Shapes (reading.fill_parts below levels scope marked) (FillParts shape depth scope marked)
    parts_shapes marked = then_shapes (a_word k.Name (target scope))
        (λ b. around (sign k.Comma ∷ []) (sign k.Comma ∷ []) (reading.index_within below levels scope marked)
        >>= (λ at. reading.index_within below levels scope marked >>= (λ n. pure (b, (at, n)))))
        (λ us. (b : Buf) × IsWordOf k.Name (target scope) us b) (Then Middle AnIndex) (word_shapes k.Name (target scope) (λ e. cc))
        (λ b. then_shapes (around (sign k.Comma ∷ []) (sign k.Comma ∷ []) (reading.index_within below levels scope marked))
        (λ at. reading.index_within below levels scope marked >>= (λ n. pure (b, (at, n)))) Middle AnIndex
        (around_shapes (sign k.Comma ∷ []) (sign k.Comma ∷ []) (reading.index_within below levels scope marked) AnIndex ((λ e. cc), tt) ((λ e. cc), tt)
        (index_shapes marked) some_index)
        (λ at. made_shapes (reading.index_within below levels scope marked) (λ n. (b, (at, n))) AnIndex (index_shapes marked)) some_index)
        (then_some Middle AnIndex some_middle some_index)

    some_parts : (marked : Bool) → Goes (FillParts shape depth scope marked) []
    some_parts marked = then_some (λ us. (b : Buf) × IsWordOf k.Name (target scope) us b) (Then Middle AnIndex)
        (record {
          rest = record { kind = k.Name; text = 98 ∷ decimal 0; place = 0 } ∷ [];
          is =
              (Output 0, record { word = record { kind = k.Name; text = 98 ∷ decimal 0; place = 0 }; is = refl; reads_as = is_target scope has; words = refl });
        })
        (then_some Middle AnIndex some_middle some_index)

    fill_shapes : (marked : Bool) → Shapes (reading.fill below levels scope marked) (AStatement shape depth scope marked)
    fill_shapes marked = shapes_as (reading.fill below levels scope marked) (StatementBy shape depth scope marked Fill) (AStatement shape depth scope marked)
        (λ ws h. (Fill, h))
        (made_shapes (opened levels (name_token (codes "fill") ∷ []) (sign k.LParen ∷ []) fill_end (reading.fill_parts below levels scope marked)) filled
        (StatementBy shape depth scope marked Fill)
        (opened_shapes levels (name_token (codes "fill") ∷ []) (sign k.LParen ∷ []) fill_end (reading.fill_parts below levels scope marked)
        (FillParts shape depth scope marked) ((λ e. cc), tt) ((λ e. cc), tt) ((λ e. cc), ((λ e. cc), tt)) (parts_shapes marked) (some_parts marked)))

    abbrev Whole : List Word → Type 0
    Whole = ByLevel scope (Expression scope depth) Choice

    abbrev Tail : Kind → List Word → Type 0
    Tail kd = Around (sign kd ∷ []) (sign k.Semi ∷ []) Whole

    abbrev Tails : List Word → Type 0
    Tails ws = Tail k.Assign ws ⊎ Tail PlusAssign ws

    abbrev Place : List Word → Type 0
    Place = Then (λ us. (b : Buf) × IsWordOf k.Name (target scope) us b) (InBrackets scope (Expression scope depth))

    whole_shapes : Shapes (checked as_word (expressions.expression scope levels Choice)) Whole
    whole_shapes = checked_shapes as_word (expressions.expression scope levels Choice) Whole
        (level_shapes scope (expressions.inner scope levels) (Expression scope depth) levels (inner_shapes scope levels) (some_inner scope levels) Choice)

    some_whole : Goes Whole []
    some_whole = some_by scope (Expression scope depth) Choice

    tail_shapes : (marked : Bool) (kd : Kind) → (kd ≡ k.End → ⊥) → Shapes (reading.stored below levels scope marked kd) (Tail kd)
    tail_shapes marked kd some = around_shapes (sign kd ∷ []) (sign k.Semi ∷ []) (checked as_word (expressions.expression scope levels Choice)) Whole (some, tt)
        ((λ e. cc), tt) whole_shapes some_whole

    by_sign : (marked : Bool) (e : Buf × Iexp) (b : Bool) → Shapes (reading.store_by below levels scope marked e b) Tails
    by_sign marked e true = shapes_as (reading.store_by below levels scope marked e true) (Tail PlusAssign) Tails (λ ws h. inr h)
        (made_shapes (reading.stored below levels scope marked PlusAssign) (λ w. stmt.AddTo e.0 e.1 w) (Tail PlusAssign)
        (tail_shapes marked PlusAssign (λ f. cc)))
    by_sign marked e false = shapes_as (reading.store_by below levels scope marked e false) (Tail k.Assign) Tails (λ ws h. inl h)
        (made_shapes (reading.stored below levels scope marked k.Assign) (λ w. stmt.Put e.0 e.1 w) (Tail k.Assign) (tail_shapes marked k.Assign (λ f. cc)))

    some_tails : Goes Tails []
    some_tails =
        let g = some_around (sign k.Assign ∷ []) (sign k.Semi ∷ []) Whole some_whole in
        record { rest = g.rest; is = inl g.is }

    store_is : (marked : Bool) (ws : List Word) → Then Place Tails ws → AStatement shape depth scope marked ws
    store_is marked ws h = go (then_left Place (Tail k.Assign) (Tail PlusAssign) ws h)
      where
        go : Then Place (Tail k.Assign) ws ⊎ Then Place (Tail PlusAssign) ws → AStatement shape depth scope marked ws
        go (inl s) = (Put, s)
        go (inr s) = (AddTo, s)

    store_shapes : (marked : Bool) → Shapes (reading.store below levels scope marked) (AStatement shape depth scope marked)
    store_shapes marked = shapes_as (reading.store below levels scope marked) (Then Place Tails) (AStatement shape depth scope marked) (store_is marked)
        (then_shapes (expressions.element scope (expressions.inner scope levels) levels (target scope))
        (λ e i. reading.store_by below levels scope marked e (adds (peek i)) i) Place Tails
        (element_shapes scope (expressions.inner scope levels) (Expression scope depth) levels (inner_shapes scope levels) (some_inner scope levels)
        (target scope))
        (λ e. chosen_shapes (λ w. reading.store_by below levels scope marked e (adds w)) Tails (λ w. by_sign marked e (adds w))) some_tails)

    by_shapes : (marked : Bool) (b : Beginning) → Shapes (reading.statement_by below levels scope marked b) (AStatement shape depth scope marked)
    by_shapes marked Marked = loop_shapes true marked
    by_shapes marked Unmarked = loop_shapes false marked
    by_shapes marked Testing = guarded_shapes marked
    by_shapes marked Filling = fill_shapes marked
    by_shapes marked Storing = store_shapes marked

    pub one_shapes : (marked : Bool) → Shapes (reading.one_statement below levels scope marked) (AStatement shape depth scope marked)
    one_shapes marked = chosen_shapes (λ w. reading.statement_by below levels scope marked (beginning w)) (AStatement shape depth scope marked)
        (λ w. by_shapes marked (beginning w))

pub statement_shapes : (levels : ℕ) (scope : Scope) (marked : Bool) → HasOutput scope → Shapes (inner_statement levels scope marked) (Statement
    (suc levels) scope marked)
statement_shapes zero scope marked has = unexpected_shapes (Statement 1 scope marked)
statement_shapes (suc levels) scope marked has =
    one_shapes (inner_statement levels) (Statement (suc levels)) levels (λ inner inside h. statement_shapes levels inner inside h) scope has marked
