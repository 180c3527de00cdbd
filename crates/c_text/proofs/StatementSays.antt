-- The printed words of statements and of whole programs stand for them.
use Rattle.std.proofs.Common.{◌≡◌, ℕ, zero, suc, ◌+◌, ◌<◌, Bool, true, false, List, [], ◌∷◌, ◌++◌, map, refl, ap, sym, ◌∙◌, subst, arith}
use Rattle.text_tokens.specs.declared.kind.Kind.TheVariants as k
use Rattle.text_tokens.specs.Words.{Word}
use Rattle.loop_lang.specs.declared.index.Iexp.{Iexp}
use Rattle.loop_lang.specs.declared.index.Test.{Test}
use Rattle.loop_lang.specs.declared.word.Buf.{Buf}
use Rattle.loop_lang.specs.declared.stmt.Stmt.{Stmt}
use Rattle.loop_lang.specs.declared.stmt.Stmt.TheVariants as stmt
use Rattle.loop_lang.specs.declared.stmt.Prog.{Prog}
use Rattle.loop_lang.proofs.StatementForms.{fold-seq, fold-for, fold-if, fold-put, fold-add_to, fold-zero}
use Rattle.c_print.specs.declared.level.Level.TheVariants.{Choice}
use Rattle.c_print.specs.Program.{buffers}
use Rattle.c_print.specs.Word.{buffer_name}
use Rattle.text_tokens.specs.Spelled.{Token, tokens_of, name_token}
use Rattle.c_words.specs.Tokens.{PlusAssign, sign}
use Rattle.c_text.specs.Rules.{Around, IsEach}
use Rattle.c_text.specs.Expression.{Index, IsInner, Scope, Tests}
use Rattle.reader_laws.specs.Grammar.{Opened}
use Rattle.c_text.specs.Statement as grammar
use Rattle.c_text.specs.Statement.{Fill, Loop, Guarded, Put, AddTo, StatementForm, HasSmallNumbers, HasTarget, MayMark, either, inside_loop}
use Rattle.c_text.specs.Statement.{IsBlock, IsInnerStatement, IsOneStatement, IsStatementBy, IsBody}
use Rattle.c_text.specs.Statement.{IsLength, AreLengths, IsUnit, body_scope, length_scope, max_levels}
use Rattle.c_text.specs.Printed.{Lines, block_words, element_words, fill_end, fill_start}
use Rattle.c_text.specs.Printed.{fill_words, for_end, for_start, function_start, heading_words, if_start}
use Rattle.c_text.specs.Printed.{in_turn, index_words, length_end, length_start, lengths_words}
use Rattle.c_text.specs.Printed.{mark_words, program_words, statement_step, statement_words, tests_words, word_words}
use Rattle.c_text.specs.Printable.{All, Below, FitsBy, IndexFits, IsPrintable, LengthsFit, StatementFits, TestsFit}
use Rattle.reader_laws.proofs.Says.{Says, says_both, says_opened}
use Rattle.c_text.proofs.Pieces.{cut, none}
use Rattle.c_text.proofs.RulesSay.{says_around, says_made, says_more, says_none, says_token}
use Rattle.c_text.proofs.ExpressionSays.{as_index, as_word, as_tests, element-says, index-says, tests-choice, word-choice}

-- ---- printed words, statement by statement

abbrev pub each_words : List Stmt → Lines
each_words [] depth = []
each_words (s ∷ ss) depth = statement_words s depth ++ each_words ss depth

turns-are : (ss : List Stmt) (depth : ℕ) → in_turn (map statement_words ss) depth ≡ each_words ss depth
turns-are [] depth = refl
turns-are (s ∷ ss) depth = ap (λ ts. statement_words s depth ++ ts) (turns-are ss depth)

abbrev at : {f g : Lines} → f ≡ g → (depth : ℕ) → f depth ≡ g depth
at e depth = λ j. e j depth

pub seq-words : (ss : List Stmt) (depth : ℕ) → statement_words (stmt.Seq ss) depth ≡ each_words ss depth
seq-words ss depth = at (fold-seq Lines statement_step ss) depth ∙ turns-are ss depth

pub for-words : (n : Iexp) (m : Bool) (ss : List Stmt) (depth : ℕ)
    → statement_words (stmt.For n m (stmt.Seq ss)) depth ≡ mark_words m ++
    ((for_start depth ++ (index_words n Choice ++ for_end depth)) ++ block_words (each_words ss (depth + 1)))
for-words n m ss depth =
    at (fold-for Lines statement_step n m (stmt.Seq ss)) depth
    ∙ ap (λ ts. mark_words m ++ ((for_start depth ++ (index_words n Choice ++ for_end depth)) ++ block_words ts)) (seq-words ss (depth + 1))

pub if-words : (cs : List Test) (ss : List Stmt) (depth : ℕ)
    → statement_words (stmt.If cs (stmt.Seq ss)) depth ≡ (if_start ++ (tests_words cs ++ sign k.RParen ∷ [])) ++ block_words (each_words ss depth)
if-words cs ss depth =
    at (fold-if Lines statement_step cs (stmt.Seq ss)) depth
    ∙ ap (λ ts. (if_start ++ (tests_words cs ++ sign k.RParen ∷ [])) ++ block_words ts) (seq-words ss depth)

-- ---- statements

module _ (l : ℕ) (scope : Scope) (marked : Bool) where
  abbrev Statement : List Word → Stmt → Type 0
  Statement = IsOneStatement (IsInnerStatement l) l scope marked

  says_form : (form : StatementForm) (ts : List Token) (s : Stmt) → Says (IsStatementBy (IsInnerStatement l) l scope marked form) ts s → Says Statement ts s
  says_form form ts s p = record { says = λ ws e. (form, p.says ws e) }

  -- the printed words of a statement stand for it
  abbrev StatementSays : Stmt → Type 0
  StatementSays s = Says Statement (statement_words s scope.loops) s

  mark-says : (m : Bool) → MayMark m marked → Says (grammar.IsMark (IsInnerStatement l) l scope marked) (mark_words m) m
  mark-says m h = record { says = λ ws e. (h, e) }

  within : (n : Iexp) → Below l (IndexFits scope n Choice) → Says (grammar.IsIndexWithin (IsInnerStatement l) l scope marked) (index_words n Choice) n
  within n h = by l h
    where
      by : (l : ℕ) → Below l (IndexFits scope n Choice) → Says (Index (IsInner scope l Choice)) (index_words n Choice) n
      by zero h = absurd h
      by (suc m) h = as_index (index-says scope n m h)

  header-says : (n : Iexp) → 2 < l → Below l (IndexFits scope n Choice) → Says (grammar.IsHeader (IsInnerStatement l) l scope marked)
      (for_start scope.loops ++ (index_words n Choice ++ for_end scope.loops)) n
  header-says n d h = record { says = λ ws e. (d, (says_around (for_start scope.loops) (index_words n Choice) (for_end scope.loops) (within n h)).says ws e) }

  guard-says : (cs : List Test) → Below l (TestsFit scope cs) → Says (Opened l (Around if_start (sign k.RParen ∷ []) (Tests (IsInner scope l Choice))))
      (if_start ++ (tests_words cs ++ sign k.RParen ∷ [])) cs
  guard-says cs h = by l h
    where
      by : (l : ℕ) → Below l (TestsFit scope cs) → Says (Opened l (Around if_start (sign k.RParen ∷ []) (Tests (IsInner scope l Choice))))
          (if_start ++ (tests_words cs ++ sign k.RParen ∷ [])) cs
      by zero h = absurd h
      by (suc m) h = says_opened (omega arith) (says_around if_start (tests_words cs) (sign k.RParen ∷ []) (as_tests (tests-choice scope cs m h)))

  store-says : (b : Buf) (i : Iexp) → HasTarget scope b → Below l (IndexFits scope i Choice) → Says (grammar.IsStore (IsInnerStatement l) l scope marked)
      (element_words b i) (b, i)
  store-says b i t h = record { says = λ ws e. (t.1, (element-says scope l b i t.0 h).says ws e) }

  fill-says : (b : Buf) (i n : Iexp) → HasTarget scope b → Below l (IndexFits scope i Choice) → Below l (IndexFits scope n Choice)
      → Says (grammar.IsFill (IsInnerStatement l) l scope marked) (fill_words b i n) (b, (i, n))
  fill-says b i n t h g = says_opened (some l h)
      (says_around fill_start (name_token (buffer_name b) ∷ ((sign k.Comma ∷ (index_words i Choice ++ sign k.Comma ∷ [])) ++ index_words n Choice)) fill_end
      (says_both (name_token (buffer_name b) ∷ []) ((sign k.Comma ∷ (index_words i Choice ++ sign k.Comma ∷ [])) ++ index_words n Choice) b (says_token b t)
      (says_both (sign k.Comma ∷ (index_words i Choice ++ sign k.Comma ∷ [])) (index_words n Choice) i
      (says_around (sign k.Comma ∷ []) (index_words i Choice) (sign k.Comma ∷ []) (within i h)) (says_made (λ n. (b, (i, n))) n (within n g)))))
    where
      some : (l : ℕ) → Below l (IndexFits scope i Choice) → 0 < l
      some zero h = absurd h
      some (suc l) h = omega arith

-- the braces of a block are a level
pub block-says : (l : ℕ) (scope inner : Scope) (marked inside : Bool) (ss : List Stmt) → 0 < l
    → Says (IsEach (IsInnerStatement l inner inside)) (each_words ss inner.loops) ss
    → Says (IsBlock (IsInnerStatement l) l scope marked inner inside) (block_words (each_words ss inner.loops)) (stmt.Seq ss)
block-says l scope inner marked inside ss h p = says_opened h
    (says_around (sign k.LBrace ∷ []) (each_words ss inner.loops) (sign k.RBrace ∷ []) (says_made stmt.Seq ss p))

-- what is to be shown of a statement inside a block, and of those in the block
abbrev OneSays : ℕ → Type 0
OneSays l = (scope : Scope) (marked : Bool) (s : Stmt) → StatementFits l scope marked s
    → Says (IsInnerStatement l scope marked) (statement_words s scope.loops) s

abbrev EachSays : ℕ → Type 0
EachSays l = (scope : Scope) (marked : Bool) (ss : List Stmt) → All (StatementFits l scope marked) ss
    → Says (IsEach (IsInnerStatement l scope marked)) (each_words ss scope.loops) ss

each-from : (l : ℕ) → OneSays l → EachSays l
each-from l one scope marked [] h = says_none
each-from l one scope marked (s ∷ ss) h = says_more (statement_words s scope.loops) (each_words ss scope.loops) s ss (one scope marked s h.0)
    (each-from l one scope marked ss h.1)

form-says : (l : ℕ) → EachSays l → (scope : Scope) (marked : Bool) (form : StatementForm) (s : Stmt) → FitsBy (StatementFits l) l scope marked form s
    → StatementSays l scope marked s
form-says l each scope marked Loop s h =
    let inner = inside_loop scope in
    let block = block-says l scope inner marked (either h.mark marked) h.body (omega (arith, h.deep)) (each inner (either h.mark marked) h.body h.body_fits) in
    subst (StatementSays l scope marked) (sym h.is)
    (subst (λ ts. Says (Statement l scope marked) ts (stmt.For h.bound h.mark (stmt.Seq h.body))) (sym (for-words h.bound h.mark h.body scope.loops))
    (says_form l scope marked Loop _ _
    (says_both (mark_words h.mark) ((for_start scope.loops ++ (index_words h.bound Choice ++ for_end scope.loops)) ++ block_words
    (each_words h.body (scope.loops + 1))) h.mark (mark-says l scope marked h.mark h.may_mark)
    (says_both (for_start scope.loops ++ (index_words h.bound Choice ++ for_end scope.loops)) (block_words (each_words h.body (scope.loops + 1))) h.bound
    (header-says l scope marked h.bound h.deep h.bound_fits)
    (says_made (stmt.For h.bound h.mark) (stmt.Seq h.body) block)))))
form-says l each scope marked Guarded s h =
    let block = block-says l scope scope marked marked h.body h.deep (each scope marked h.body h.body_fits) in
    subst (StatementSays l scope marked) (sym h.is)
    (subst (λ ts. Says (Statement l scope marked) ts (stmt.If h.tests (stmt.Seq h.body))) (sym (if-words h.tests h.body scope.loops))
    (says_form l scope marked Guarded _ _
    (says_both (if_start ++ (tests_words h.tests ++ sign k.RParen ∷ [])) (block_words (each_words h.body scope.loops)) h.tests
    (guard-says l scope marked h.tests h.tests_fit)
    (says_made (grammar.if_of h.tests) (stmt.Seq h.body) block))))
form-says l each scope marked Put s h =
    subst (StatementSays l scope marked) (sym h.is)
    (subst (λ ts. Says (Statement l scope marked) ts (stmt.Put h.buffer h.place h.word))
    (sym (at (fold-put Lines statement_step h.buffer h.place h.word) scope.loops))
    (says_form l scope marked Put _ _
    (says_both (element_words h.buffer h.place) (sign k.Assign ∷ (word_words h.word Choice ++ sign k.Semi ∷ [])) (h.buffer, h.place)
    (store-says l scope marked h.buffer h.place h.target h.place_fits)
    (says_made (stmt.Put h.buffer h.place) h.word
    (says_around (sign k.Assign ∷ []) (word_words h.word Choice) (sign k.Semi ∷ []) (as_word (word-choice scope h.word l h.word_fits)))))))
form-says l each scope marked AddTo s h =
    subst (StatementSays l scope marked) (sym h.is)
    (subst (λ ts. Says (Statement l scope marked) ts (stmt.AddTo h.buffer h.place h.word))
    (sym (at (fold-add_to Lines statement_step h.buffer h.place h.word) scope.loops))
    (says_form l scope marked AddTo _ _
    (says_both (element_words h.buffer h.place) (sign PlusAssign ∷ (word_words h.word Choice ++ sign k.Semi ∷ [])) (h.buffer, h.place)
    (store-says l scope marked h.buffer h.place h.target h.place_fits)
    (says_made (stmt.AddTo h.buffer h.place) h.word
    (says_around (sign PlusAssign ∷ []) (word_words h.word Choice) (sign k.Semi ∷ []) (as_word (word-choice scope h.word l h.word_fits)))))))
form-says l each scope marked Fill s h =
    subst (StatementSays l scope marked) (sym h.is)
    (subst (λ ts. Says (Statement l scope marked) ts (stmt.Zero h.buffer h.place h.count))
    (sym (at (fold-zero Lines statement_step h.buffer h.place h.count) scope.loops))
    (says_form l scope marked Fill _ _
    (says_made grammar.filled (h.buffer, (h.place, h.count)) (fill-says l scope marked h.buffer h.place h.count h.target h.place_fits h.count_fits))))

pub statement-says : (l : ℕ) → OneSays l
statement-says zero scope marked s h = absurd h
statement-says (suc l) scope marked s h = form-says l (each-from l (statement-says l)) scope marked h.0 s h.1

-- ---- whole programs

length-says : (sizes : ℕ) (b : Buf) (n : Iexp) → Below max_levels (IndexFits (length_scope sizes) n Choice)
    → Says (IsLength sizes b) (length_start sizes b ++ (index_words n Choice ++ length_end)) n
unfolding max_levels
length-says sizes b n h = says_around (length_start sizes b) (index_words n Choice) length_end (as_index (index-says (length_scope sizes) n 999 h))

record LengthsSay (sizes : ℕ) (bs : List Buf) (ns : List Iexp) : Type 0 where
  says : (ws : List Word) → tokens_of ws ≡ lengths_words sizes bs ns → AreLengths sizes bs ws ns

lengths-say : (sizes : ℕ) (bs : List Buf) (ns : List Iexp) → LengthsFit sizes bs ns → LengthsSay sizes bs ns
lengths-say sizes [] [] h = record { says = λ ws e. none ws e }
lengths-say sizes [] (n ∷ ns) h = absurd h
lengths-say sizes (b ∷ bs) [] h = absurd h
lengths-say sizes (b ∷ bs) (n ∷ ns) h = record {
  says = λ ws e.
      let c = cut ws (length_start sizes b ++ (index_words n Choice ++ length_end)) (lengths_words sizes bs ns) e in
      record {
        front = c.front;
        rest = c.rest;
        words = c.words;
        is_first = (length-says sizes b n h.0).says c.front c.is_front;
        is_then =
            (lengths-say sizes bs ns h.1).says c.rest c.is_rest;
      };
}

body-says : (p : Prog) (h : IsPrintable p) → Says (IsBody p) (block_words (statement_words p.body 0)) p.body
unfolding max_levels
body-says p h =
    let scope = body_scope p in
    let block = block-says max_levels scope scope false false h.body (omega arith)
    (each-from max_levels (statement-says max_levels) scope false h.body h.body_fits) in
    subst (λ s. Says (IsBody p) (block_words (statement_words s 0)) s) (sym h.is_body)
    (subst (λ ts. Says (IsBody p) (block_words ts) (stmt.Seq h.body)) (sym (seq-words h.body 0)) block)

-- the words of a printable program's canonical text stand for it
pub program-says : (p : Prog) → HasSmallNumbers p → IsPrintable p → (ws : List Word) → tokens_of ws ≡ program_words p → IsUnit ws p
unfolding program_words
program-says p g h ws e =
    let a = cut ws heading_words (lengths_words p.sizes (buffers p) p.lengths ++ (function_start p ++ block_words (statement_words p.body 0))) e in
    let b = cut a.rest (lengths_words p.sizes (buffers p) p.lengths) (function_start p ++ block_words (statement_words p.body 0)) a.is_rest in
    let c = cut b.rest (function_start p) (block_words (statement_words p.body 0)) b.is_rest in
    record {
      heading = a.front;
      lengths = b.front;
      start = c.front;
      body = c.rest;
      words = a.words ∙ ap (λ us. a.front ++ us) (b.words ∙ ap (λ us. b.front ++ us) c.words);
      is_heading = a.is_front;
      are_lengths = (lengths-say p.sizes (buffers p) p.lengths h.lengths).says b.front b.is_front;
      is_start = c.is_front;
      is_body = (body-says p h).says c.rest c.is_rest;
      some = h.some;
      small = g;
    }
