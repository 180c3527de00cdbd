-- The canonical text of statements is cut into their printed words.
use Rattle.std.proofs.Common.{◌≡◌, ℕ, zero, suc, ◌+◌, ◌<◌, ◌^◌, Bool, true, false, List, [], ◌∷◌, ◌++◌, map, refl, sym, ap, subst, ◌∙◌, arith, append_assoc}
use Rattle.std.specs.Prelude.{codes}
use Rattle.std.specs.Fmt.{digits}
use Rattle.text_tokens.specs.declared.kind.Kind.TheVariants as k
use Rattle.text_tokens.specs.Kinds.{Text}
use Rattle.loop_lang.specs.declared.index.Iexp.{Iexp}
use Rattle.loop_lang.specs.declared.index.Test.{Test}
use Rattle.loop_lang.specs.declared.word.Buf.{Buf}
use Rattle.loop_lang.specs.declared.word.Buf.TheVariants.{Input, Output, Scratch}
use Rattle.loop_lang.specs.declared.stmt.Stmt.{Stmt}
use Rattle.loop_lang.specs.declared.stmt.Stmt.TheVariants as stmt
use Rattle.loop_lang.proofs.StatementForms.{fold-seq, fold-for, fold-if, fold-put, fold-add_to, fold-zero}
use Rattle.c_print.specs.declared.level.Level.TheVariants.{Choice}
use Rattle.c_print.specs.Index.{index_text, loop_name}
use Rattle.c_print.specs.Word.{buffer_name, element_text, tests_text, word_text}
use Rattle.c_print.specs.Statement as text
use Rattle.c_print.specs.Statement.{fill_text, for_text, if_text, line, loop_start, loop_step, mark_text, statement_text, store_text}
use Rattle.text_tokens.specs.Spelled.{Token, name_token, number_token}
use Rattle.c_words.specs.Tokens.{PlusAssign, sign}
use Rattle.c_words.specs.Words.{symbol, word as front_word, words_from}
use Rattle.c_text.specs.Expression.{Scope}
use Rattle.c_text.specs.Statement.{AddTo, Fill, Guarded, HasTarget, Loop, Put, StatementForm, either, inside_loop}
use Rattle.c_text.specs.Printed.{block_words, element_words, fill_end, fill_start, fill_words, for_end, for_start}
use Rattle.c_text.specs.Printed.{if_start, index_words, mark_words, statement_step, statement_words, store_words, tests_words, word_words}
use Rattle.c_text.specs.Printed as printed
use Rattle.c_text.specs.Printable.{All, FitsBy, StatementFits}
use Rattle.c_text.proofs.StatementSays.{each_words, for-words, if-words}
use Rattle.c_text.proofs.Cuts.{Cuts, Lines, Passes, between, cuts_any, cuts_passes, lines_lines, no_lines, one_line, passes_cuts, passes_passes, pragma_line}
use Rattle.c_text.proofs.ExpressionCuts.{IsSmall, below-some, buffer_cuts, comma, element-cuts, index-cuts, loop_cuts, number_of, tests-cut, word-cuts}

-- ---- fixed pieces

for_piece : Passes (codes "for (int64_t ") (name_token (codes "for") ∷ sign k.LParen ∷ name_token (codes "int64_t") ∷ [])
unfolding words_from front_word symbol
for_piece = record { passes = λ end m rest. refl }

zero_piece : Passes (codes " = INT64_C(0); ") (sign k.Assign ∷ name_token (codes "INT64_C") ∷ sign k.LParen ∷ number_token 0 ∷ sign k.RParen ∷ sign k.Semi ∷ [])
unfolding words_from front_word symbol digits
zero_piece = record { passes = λ end m rest. refl }

less_piece : Passes (codes " < ") (sign k.Less ∷ [])
unfolding words_from front_word symbol
less_piece = record { passes = λ end m rest. refl }

semi_piece : Passes (codes "; ") (sign k.Semi ∷ [])
unfolding words_from front_word symbol
semi_piece = record { passes = λ end m rest. refl }

assign_piece : Passes (codes " = ") (sign k.Assign ∷ [])
unfolding words_from front_word symbol
assign_piece = record { passes = λ end m rest. refl }

add_piece : Passes (codes " += ") (sign PlusAssign ∷ [])
unfolding words_from front_word symbol
add_piece = record { passes = λ end m rest. refl }

one_piece : Passes (codes " + INT64_C(1)) {") (sign k.Plus ∷ name_token (codes "INT64_C") ∷ sign k.LParen ∷ number_token 1 ∷ sign k.RParen ∷ sign k.RParen
    ∷ sign k.LBrace ∷ [])
unfolding words_from front_word symbol digits
one_piece = record { passes = λ end m rest. refl }

if_piece : Passes (codes "if (") if_start
unfolding words_from front_word symbol
if_piece = record { passes = λ end m rest. refl }

pub brace_piece : Passes (codes ") {") (sign k.RParen ∷ sign k.LBrace ∷ [])
unfolding words_from front_word symbol
brace_piece = record { passes = λ end m rest. refl }

pub close_brace : Passes (codes "}") (sign k.RBrace ∷ [])
unfolding words_from front_word symbol
close_brace = record { passes = λ end m rest. refl }

end_piece : Passes (codes ";") (sign k.Semi ∷ [])
unfolding words_from front_word symbol
end_piece = record { passes = λ end m rest. refl }

fill_piece : Passes (codes "fill(") fill_start
unfolding words_from front_word symbol
fill_piece = record { passes = λ end m rest. refl }

fill_end_piece : Passes (codes ");") fill_end
unfolding words_from front_word symbol
fill_end_piece = record { passes = λ end m rest. refl }

-- ---- texts, statement by statement

abbrev pub each_text : List Stmt → ℕ → ℕ → Text
each_text [] level depth = []
each_text (s ∷ ss) level depth = statement_text s level depth ++ each_text ss level depth

abbrev at : {f g : text.Lines} → f ≡ g → (level depth : ℕ) → f level depth ≡ g level depth
at e level depth = λ j. e j level depth

turns-are : (ss : List Stmt) (level depth : ℕ) → text.in_turn (map statement_text ss) level depth ≡ each_text ss level depth
turns-are [] level depth = refl
turns-are (s ∷ ss) level depth = ap (λ t. statement_text s level depth ++ t) (turns-are ss level depth)

pub seq-text : (ss : List Stmt) (level depth : ℕ) → statement_text (stmt.Seq ss) level depth ≡ each_text ss level depth
seq-text ss level depth = at (fold-seq text.Lines text.statement_step ss) level depth ∙ turns-are ss level depth

for-text : (n : Iexp) (m : Bool) (ss : List Stmt) (level depth : ℕ)
    → statement_text (stmt.For n m (stmt.Seq ss)) level depth ≡ (mark_text level m ++ line level (for_text depth n)) ++
    (each_text ss (level + 1) (depth + 1) ++ line level (codes "}"))
for-text n m ss level depth =
    at (fold-for text.Lines text.statement_step n m (stmt.Seq ss)) level depth
    ∙ ap (λ t. (mark_text level m ++ line level (for_text depth n)) ++ (t ++ line level (codes "}"))) (seq-text ss (level + 1) (depth + 1))

if-text : (cs : List Test) (ss : List Stmt) (level depth : ℕ) → statement_text (stmt.If cs (stmt.Seq ss)) level depth ≡ line level (if_text cs) ++
    (each_text ss (level + 1) depth ++ line level (codes "}"))
if-text cs ss level depth =
    at (fold-if text.Lines text.statement_step cs (stmt.Seq ss)) level depth
    ∙ ap (λ t. line level (if_text cs) ++ (t ++ line level (codes "}"))) (seq-text ss (level + 1) depth)

-- ---- single lines

mark-line : (level : ℕ) (m : Bool) → Lines (mark_text level m) (mark_words m)
mark-line level true = pragma_line level
mark-line level false = no_lines

start-cuts : (depth : ℕ) (t : Text) (ts : List Token) → depth < 2 ^ 64 → Cuts t ts
    → Cuts (codes "for (int64_t " ++ loop_name depth ++ codes " = INT64_C(0); " ++ loop_name depth ++ codes " < " ++ t) (for_start depth ++ ts)
start-cuts depth t ts h p =
    let v = loop_cuts depth h in
    let a = passes_cuts (codes "for (int64_t ") (loop_name depth) _ _ for_piece v in
    let b = cuts_passes (codes "for (int64_t " ++ loop_name depth) (codes " = INT64_C(0); ") _ _ a zero_piece refl in
    let c = passes_cuts (codes "for (int64_t " ++ loop_name depth ++ codes " = INT64_C(0); ") (loop_name depth) _ _ b v in
    let d = cuts_passes (codes "for (int64_t " ++ loop_name depth ++ codes " = INT64_C(0); " ++ loop_name depth) (codes " < ") _ _ c less_piece refl in
    passes_cuts (codes "for (int64_t " ++ loop_name depth ++ codes " = INT64_C(0); " ++ loop_name depth ++ codes " < ") t (for_start depth) ts d p

step-passes : (depth : ℕ) → depth < 2 ^ 64 → Passes (loop_step depth) (for_end depth ++ sign k.LBrace ∷ [])
step-passes depth h =
    let v = loop_cuts depth h in
    let a = passes_cuts (codes "; ") (loop_name depth) _ _ semi_piece v in
    let b = cuts_passes (codes "; " ++ loop_name depth) (codes " = ") _ _ a assign_piece refl in
    let c = passes_cuts (codes "; " ++ loop_name depth ++ codes " = ") (loop_name depth) _ _ b v in
    cuts_passes (codes "; " ++ loop_name depth ++ codes " = " ++ loop_name depth) (codes " + INT64_C(1)) {") _ _ c one_piece refl

for-cuts : (depth : ℕ) (n : Iexp) → depth < 2 ^ 64 → Cuts (index_text n Choice) (index_words n Choice)
    → Cuts (for_text depth n) ((for_start depth ++ index_words n Choice) ++ (for_end depth ++ sign k.LBrace ∷ []))
for-cuts depth n h p = cuts_any (cuts_passes (loop_start depth n) (loop_step depth) _ _ (start-cuts depth (index_text n Choice) (index_words n Choice) h p)
    (step-passes depth h) refl)

if-cuts : (cs : List Test) → Cuts (tests_text cs) (tests_words cs) → Cuts (if_text cs) ((if_start ++ tests_words cs) ++ (sign k.RParen ∷ sign k.LBrace ∷ []))
if-cuts cs p = cuts_any (cuts_passes (codes "if (" ++ tests_text cs) (codes ") {") _ _
    (passes_cuts (codes "if (") (tests_text cs) _ _ if_piece p) brace_piece refl)

for-regroup : (m s i e b : List Token) → (m ++ ((s ++ i) ++ (e ++ sign k.LBrace ∷ []))) ++ (b ++ sign k.RBrace ∷ []) ≡ m ++ ((s ++ (i ++ e)) ++ block_words b)
for-regroup m s i e b = simp (append_assoc)

if-regroup : (s t b : List Token) → ((s ++ t) ++ (sign k.RParen ∷ sign k.LBrace ∷ [])) ++ (b ++ sign k.RBrace ∷ []) ≡ (s ++ (t ++ sign k.RParen ∷ []))
    ++ block_words b
if-regroup s t b = simp (append_assoc)

store-regroup : (e w : List Token) (x : Token) → ((e ++ x ∷ []) ++ w) ++ sign k.Semi ∷ [] ≡ e ++ (x ∷ (w ++ sign k.Semi ∷ []))
store-regroup e w x = simp (append_assoc)

fill-regroup : (b : Token) (i n : List Token) → ((fill_start ++ b ∷ sign k.Comma ∷ i) ++ sign k.Comma ∷ n) ++ fill_end ≡ fill_start ++
    ((b ∷ ((sign k.Comma ∷ (i ++ sign k.Comma ∷ [])) ++ n)) ++ fill_end)
fill-regroup b i n = simp (append_assoc)

store-cuts : (t u : Text) (x : Token) (e w : List Token) (p : Text) → Passes t e → Passes p (x ∷ []) → Cuts u w
    → Cuts (t ++ p ++ u ++ codes ";") (e ++ (x ∷ (w ++ sign k.Semi ∷ [])))
store-cuts t u x e w p a b c =
    subst (Cuts (t ++ p ++ u ++ codes ";")) (store-regroup e w x)
    (cuts_any (cuts_passes (t ++ p ++ u) (codes ";") _ _ (passes_cuts (t ++ p) u _ _ (passes_passes t p e (x ∷ []) a b) c) end_piece refl))

fill-cuts : (b : Buf) (t u : Text) (i n : List Token) → number_of b < 2 ^ 64 → Cuts t i → Cuts u n
    → Cuts (codes "fill(" ++ buffer_name b ++ codes ", " ++ t ++ codes ", " ++ u ++ codes ");")
    (fill_start ++ ((name_token (buffer_name b) ∷ ((sign k.Comma ∷ (i ++ sign k.Comma ∷ [])) ++ n)) ++ fill_end))
fill-cuts b t u i n h p q =
    let a = passes_cuts (codes "fill(") (buffer_name b) fill_start (name_token (buffer_name b) ∷ []) fill_piece (buffer_cuts b h) in
    let c = between (codes "fill(" ++ buffer_name b) (codes ", ") t (fill_start ++ name_token (buffer_name b) ∷ []) (sign k.Comma) i a comma refl p in
    let d = between (codes "fill(" ++ buffer_name b ++ codes ", " ++ t) (codes ", ") u _ (sign k.Comma) n c comma refl q in
    subst (Cuts (codes "fill(" ++ buffer_name b ++ codes ", " ++ t ++ codes ", " ++ u ++ codes ");")) (fill-regroup (name_token (buffer_name b)) i n)
    (cuts_any (cuts_passes (codes "fill(" ++ buffer_name b ++ codes ", " ++ t ++ codes ", " ++ u) (codes ");") _ _ d fill_end_piece refl))

-- ---- statements

-- the numbers in names are not too large, also in loops as deep as the levels allow
pub record IsSmallWithin (l : ℕ) (scope : Scope) : Type 0 where
  pub small : IsSmall scope
  pub deep : scope.loops + l < 2 ^ 64

deeper : (l : ℕ) (scope : Scope) → IsSmallWithin (suc l) scope → IsSmallWithin l (inside_loop scope)
deeper l scope h = record {
  small = record { sizes = h.small.sizes; inputs = h.small.inputs; outputs = h.small.outputs; scratch = h.small.scratch; loops = omega (arith, h.deep) };
  deep = omega (arith, h.deep);
}

same-deep : (l : ℕ) (scope : Scope) → IsSmallWithin (suc l) scope → IsSmallWithin l scope
same-deep l scope h = record { small = h.small; deep = omega (arith, h.deep) }

abbrev pub OneCuts : ℕ → Type 0
OneCuts l = (scope : Scope) (marked : Bool) (s : Stmt) (level : ℕ) → IsSmallWithin l scope → StatementFits l scope marked s
    → Lines (statement_text s level scope.loops) (statement_words s scope.loops)

abbrev pub EachCuts : ℕ → Type 0
EachCuts l = (scope : Scope) (marked : Bool) (ss : List Stmt) (level : ℕ) → IsSmallWithin l scope → All (StatementFits l scope marked) ss
    → Lines (each_text ss level scope.loops) (each_words ss scope.loops)

pub each-from : (l : ℕ) → OneCuts l → EachCuts l
each-from l one scope marked [] level g h = no_lines
each-from l one scope marked (s ∷ ss) level g h = lines_lines _ _ _ _ (one scope marked s level g h.0) (each-from l one scope marked ss level g h.1)

few : (scope : Scope) (b : Buf) → IsSmall scope → HasTarget scope b → number_of b < 2 ^ 64
few scope (Input n) g h = omega (arith, h.0, g.inputs)
few scope (Output n) g h = omega (arith, h.0, g.outputs)
few scope (Scratch n) g h = omega (arith, h.0, g.scratch)

same-word : {f g : printed.Lines} → f ≡ g → (depth : ℕ) → f depth ≡ g depth
same-word e depth = λ j. e j depth

form-cuts : (l : ℕ) → EachCuts l → (scope : Scope) (marked : Bool) (form : StatementForm) (s : Stmt) (level : ℕ) → IsSmallWithin (suc l) scope
    → FitsBy (StatementFits l) l scope marked form s
    → Lines (statement_text s level scope.loops) (statement_words s scope.loops)
form-cuts l each scope marked Loop s level g h =
    let inner = inside_loop scope in
    let f = below-some _ l h.bound_fits in
    let header = one_line level (for_text scope.loops h.bound) _
    (for-cuts scope.loops h.bound (omega (arith, g.deep)) (index-cuts scope g.small h.bound Choice f.0 f.1)) in
    let body = each inner (either h.mark marked) h.body (level + 1) (deeper l scope g) h.body_fits in
    subst (λ s. Lines (statement_text s level scope.loops) (statement_words s scope.loops)) (sym h.is)
    (subst (λ t. Lines t (statement_words (stmt.For h.bound h.mark (stmt.Seq h.body)) scope.loops)) (sym (for-text h.bound h.mark h.body level scope.loops))
    (subst (Lines ((mark_text level h.mark ++ line level (for_text scope.loops h.bound)) ++
    (each_text h.body (level + 1) (scope.loops + 1) ++ line level (codes "}"))))
    (for-regroup (mark_words h.mark) (for_start scope.loops) (index_words h.bound Choice) (for_end scope.loops) (each_words h.body (scope.loops + 1))
    ∙ sym (for-words h.bound h.mark h.body scope.loops))
    (lines_lines _ _ _ _ (lines_lines _ _ _ _ (mark-line level h.mark) header)
    (lines_lines _ _ _ _ body (one_line level (codes "}") _ (cuts_any close_brace))))))
form-cuts l each scope marked Guarded s level g h =
    let f = below-some _ l h.tests_fit in
    let header = one_line level (if_text h.tests) _ (if-cuts h.tests (tests-cut scope g.small h.tests f.0 f.1)) in
    let body = each scope marked h.body (level + 1) (same-deep l scope g) h.body_fits in
    subst (λ s. Lines (statement_text s level scope.loops) (statement_words s scope.loops)) (sym h.is)
    (subst (λ t. Lines t (statement_words (stmt.If h.tests (stmt.Seq h.body)) scope.loops)) (sym (if-text h.tests h.body level scope.loops))
    (subst (Lines (line level (if_text h.tests) ++ (each_text h.body (level + 1) scope.loops ++ line level (codes "}"))))
    (if-regroup if_start (tests_words h.tests) (each_words h.body scope.loops) ∙ sym (if-words h.tests h.body scope.loops))
    (lines_lines _ _ _ _ header (lines_lines _ _ _ _ body (one_line level (codes "}") _ (cuts_any close_brace))))))
form-cuts l each scope marked Put s level g h =
    subst (λ s. Lines (statement_text s level scope.loops) (statement_words s scope.loops)) (sym h.is)
    (subst (λ t. Lines t (statement_words (stmt.Put h.buffer h.place h.word) scope.loops))
    (sym (at (fold-put text.Lines text.statement_step h.buffer h.place h.word) level scope.loops))
    (subst (Lines (line level (store_text (codes " = ") h.buffer h.place h.word)))
    (sym (same-word (fold-put printed.Lines statement_step h.buffer h.place h.word) scope.loops))
    (one_line level (store_text (codes " = ") h.buffer h.place h.word) _
    (store-cuts (element_text h.buffer h.place) (word_text h.word Choice) (sign k.Assign) (element_words h.buffer h.place) (word_words h.word Choice)
    (codes " = ")
    (element-cuts scope g.small h.buffer h.place l h.target.0 h.place_fits) assign_piece (word-cuts scope g.small h.word Choice l h.word_fits)))))
form-cuts l each scope marked AddTo s level g h =
    subst (λ s. Lines (statement_text s level scope.loops) (statement_words s scope.loops)) (sym h.is)
    (subst (λ t. Lines t (statement_words (stmt.AddTo h.buffer h.place h.word) scope.loops))
    (sym (at (fold-add_to text.Lines text.statement_step h.buffer h.place h.word) level scope.loops))
    (subst (Lines (line level (store_text (codes " += ") h.buffer h.place h.word)))
    (sym (same-word (fold-add_to printed.Lines statement_step h.buffer h.place h.word) scope.loops))
    (one_line level (store_text (codes " += ") h.buffer h.place h.word) _
    (store-cuts (element_text h.buffer h.place) (word_text h.word Choice) (sign PlusAssign) (element_words h.buffer h.place) (word_words h.word Choice)
    (codes " += ")
    (element-cuts scope g.small h.buffer h.place l h.target.0 h.place_fits) add_piece (word-cuts scope g.small h.word Choice l h.word_fits)))))
form-cuts l each scope marked Fill s level g h =
    let f = below-some _ l h.place_fits in
    let e = below-some _ l h.count_fits in
    subst (λ s. Lines (statement_text s level scope.loops) (statement_words s scope.loops)) (sym h.is)
    (subst (λ t. Lines t (statement_words (stmt.Zero h.buffer h.place h.count) scope.loops))
    (sym (at (fold-zero text.Lines text.statement_step h.buffer h.place h.count) level scope.loops))
    (subst (Lines (line level (fill_text h.buffer h.place h.count)))
    (sym (same-word (fold-zero printed.Lines statement_step h.buffer h.place h.count) scope.loops))
    (one_line level (fill_text h.buffer h.place h.count) _
    (fill-cuts h.buffer (index_text h.place Choice) (index_text h.count Choice) (index_words h.place Choice) (index_words h.count Choice)
    (few scope h.buffer g.small h.target)
    (index-cuts scope g.small h.place Choice f.0 f.1) (index-cuts scope g.small h.count Choice e.0 e.1)))))

pub statement-cuts : (l : ℕ) → OneCuts l
statement-cuts zero scope marked s level g h = absurd h
statement-cuts (suc l) scope marked s level g h = form-cuts l (each-from l (statement-cuts l)) scope marked h.0 s level g h.1
