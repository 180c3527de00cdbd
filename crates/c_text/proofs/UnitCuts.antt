-- The canonical text of a program is cut into its printed words, and so it is a text of that program.
use Rattle.std.proofs.Common.{◌≡◌, ℕ, zero, suc, ◌+◌, ◌<◌, ◌≤◌, ◌^◌, Bool, true, false, List}
use Rattle.std.proofs.Common.{[], ◌∷◌, ◌++◌, length, map, refl, sym, ap, subst, ◌∙◌, arith, append_assoc}
use Rattle.std.specs.Prelude.{codes, decimal}
use Rattle.std.specs.Fmt.{digits}
use Rattle.std.specs.List.{flat_map, range_with_len}
use Rattle.text_tokens.specs.declared.kind.Kind.TheVariants as k
use Rattle.text_tokens.specs.Kinds.{Text}
use Rattle.loop_lang.specs.declared.index.Iexp.{Iexp}
use Rattle.loop_lang.specs.declared.word.Buf.{Buf}
use Rattle.loop_lang.specs.declared.word.Buf.TheVariants.{Input, Output, Scratch}
use Rattle.loop_lang.specs.declared.stmt.Stmt.TheVariants as stmt
use Rattle.loop_lang.specs.declared.stmt.Prog.{Prog}
use Rattle.c_print.specs.declared.level.Level.TheVariants.{Choice}
use Rattle.c_print.specs.Index.{index_text, size_name}
use Rattle.c_print.specs.Word.{buffer_name}
use Rattle.c_print.specs.Statement.{statement_text}
use Rattle.c_print.specs.Program as text
use Rattle.c_print.specs.Program.{buffers, canonical_text, heading, length_entry, length_line, length_lines, sizes_text}
use Rattle.text_tokens.specs.Spelled.{Token, tokens_of, name_token}
use Rattle.c_words.specs.Tokens.{sign}
use Rattle.c_words.specs.declared.state.Margin.TheVariants.{Indented}
use Rattle.c_words.specs.declared.state.State.TheVariants.{Code}
use Rattle.c_words.specs.Words.{c_words, symbol, word as front_word, words_from}
use Rattle.c_text.specs.Statement.{CText, HasSmallNumbers, max_levels, body_scope, length_scope}
use Rattle.c_text.specs.Printed as printed
use Rattle.c_text.specs.Printed.{block_words, function_start, heading_words, index_words, length_end}
use Rattle.c_text.specs.Printed.{length_start, lengths_words, program_words, sizes_words, statement_words}
use Rattle.c_text.specs.Printable.{All, IsPrintable, LengthsFit}
use Rattle.c_text.proofs.RulesSay.{append-nil}
use Rattle.c_text.proofs.StatementSays.{program-says, seq-words}
use Rattle.c_text.proofs.Cuts.{Cuts, Lines, Passes, between, cuts_any, cuts_passes, decimal-goes, lines_lines, name_cuts, no_lines, one_line, passes_cuts}
use Rattle.c_text.proofs.ExpressionCuts.{IsSmall, below-some, buffer_cuts, comma, index-cuts, number_of, open_paren, size_cuts}
use Rattle.c_text.proofs.StatementCuts.{IsSmallWithin, brace_piece, close_brace, each-from, each_text, seq-text, statement-cuts}

-- ---- lists of parameters

-- each text is cut into its tokens
abbrev AreCut : List Text → List (List Token) → Type 0
AreCut [] [] = Unit {0}
AreCut (t ∷ ts) (u ∷ us) = Cuts t u × AreCut ts us
AreCut ts us = ⊥

are-append : (ts ss : List Text) (us vs : List (List Token)) → AreCut ts us → AreCut ss vs → AreCut (ts ++ ss) (us ++ vs)
are-append [] ss [] vs h g = g
are-append [] ss (u ∷ us) vs h g = absurd h
are-append (t ∷ ts) ss [] vs h g = absurd h
are-append (t ∷ ts) ss (u ∷ us) vs h g = (h.0, are-append ts ss us vs h.1 g)

more-cut : (t : Text) (u : List Token) (ts : List Text) (us : List (List Token)) → Cuts t u → AreCut ts us
    → Cuts (t ++ flat_map text.after_comma ts) (u ++ flat_map printed.after_comma us)
more-cut t u [] [] p h = subst (λ z. Cuts z (u ++ [])) (sym (append-nil t)) (subst (Cuts t) (sym (append-nil u)) p)
more-cut t u [] (v ∷ us) p h = absurd h
more-cut t u (s ∷ ts) [] p h = absurd h
more-cut t u (s ∷ ts) (v ∷ us) p h =
    let one : Cuts ((t ++ codes ", ") ++ s) (u ++ sign k.Comma ∷ v) = between t (codes ", ") s u (sign k.Comma) v p comma refl h.0 in
    subst (λ z. Cuts z (u ++ flat_map printed.after_comma (v ∷ us))) (ap (λ z. z ++ flat_map text.after_comma ts) (append_assoc t (codes ", ") s)
    ∙ append_assoc t (text.after_comma s) (flat_map text.after_comma ts))
    (subst (Cuts (((t ++ codes ", ") ++ s) ++ flat_map text.after_comma ts)) (append_assoc u (sign k.Comma ∷ v) (flat_map printed.after_comma us))
    (more-cut ((t ++ codes ", ") ++ s) (u ++ sign k.Comma ∷ v) ts us one h.1))

-- behind a text that passes, which may be followed by none
commas-cut : (t : Text) (u : List Token) (ts : List Text) (us : List (List Token)) → Passes t u → AreCut ts us
    → Cuts (t ++ text.with_commas ts) (u ++ printed.with_commas us)
commas-cut t u [] [] p h = subst (λ z. Cuts z (u ++ [])) (sym (append-nil t)) (subst (Cuts t) (sym (append-nil u)) (cuts_any p))
commas-cut t u [] (v ∷ us) p h = absurd h
commas-cut t u (s ∷ ts) [] p h = absurd h
commas-cut t u (s ∷ ts) (v ∷ us) p h = passes_cuts t (s ++ flat_map text.after_comma ts) u (v ++ flat_map printed.after_comma us) p (more-cut s v ts us h.0 h.1)

int_piece : Passes (codes "int64_t ") (name_token (codes "int64_t") ∷ [])
unfolding words_from front_word symbol
int_piece = record { passes = λ end m rest. refl }

const_piece : Passes (codes "const uint64_t *") (name_token (codes "const") ∷ name_token (codes "uint64_t") ∷ sign k.Star ∷ [])
unfolding words_from front_word symbol
const_piece = record { passes = λ end m rest. refl }

pointer_piece : Passes (codes "uint64_t *") (name_token (codes "uint64_t") ∷ sign k.Star ∷ [])
unfolding words_from front_word symbol
pointer_piece = record { passes = λ end m rest. refl }

void_cuts : Cuts (codes "void") (name_token (codes "void") ∷ [])
void_cuts = name_cuts 118 (111 ∷ 105 ∷ 100 ∷ []) refl refl

return_piece : Passes (codes ") { return ") (sign k.RParen ∷ sign k.LBrace ∷ name_token (codes "return") ∷ [])
unfolding words_from front_word symbol
return_piece = record { passes = λ end m rest. refl }

length_piece : Passes (codes "; }") length_end
unfolding words_from front_word symbol
length_piece = record { passes = λ end m rest. refl }

atl_piece : Passes (codes "void atl(") (name_token (codes "void") ∷ name_token (codes "atl") ∷ sign k.LParen ∷ [])
unfolding words_from front_word symbol
atl_piece = record { passes = λ end m rest. refl }

size-cut : (n : ℕ) → n < 2 ^ 64 → Cuts (text.size_parameter n) (printed.size_parameter n)
size-cut n h = passes_cuts (codes "int64_t ") (size_name n) _ _ int_piece (size_cuts n h)

buffer-cut : (b : Buf) → number_of b < 2 ^ 64 → Cuts (text.buffer_parameter b) (printed.buffer_parameter b)
buffer-cut (Input n) h = passes_cuts (codes "const uint64_t *") (buffer_name (Input n)) _ _ const_piece (buffer_cuts (Input n) h)
buffer-cut (Output n) h = passes_cuts (codes "uint64_t *") (buffer_name (Output n)) _ _ pointer_piece (buffer_cuts (Output n) h)
buffer-cut (Scratch n) h = passes_cuts (codes "uint64_t *") (buffer_name (Scratch n)) _ _ pointer_piece (buffer_cuts (Scratch n) h)

sizes-from : (a n : ℕ) → a + n ≤ 2 ^ 64 → AreCut (map text.size_parameter (range_with_len a n)) (map printed.size_parameter (range_with_len a n))
sizes-from a zero h = tt
sizes-from a (suc n) h = (size-cut a (omega (arith, h)), sizes-from (a + 1) n (omega (arith, h)))

-- buffers of small number
abbrev pub FewBuffers : List Buf → Type 0
FewBuffers bs = All (λ b. number_of b < 2 ^ 64) bs

few-append : (bs cs : List Buf) → FewBuffers bs → FewBuffers cs → FewBuffers (bs ++ cs)
few-append [] cs h g = g
few-append (b ∷ bs) cs h g = (h.0, few-append bs cs h.1 g)

few-from : (make : ℕ → Buf) → ((n : ℕ) → number_of (make n) ≡ n) → (a n : ℕ) → a + n ≤ 2 ^ 64 → FewBuffers (map make (range_with_len a n))
few-from make is a zero h = tt
few-from make is a (suc n) h = let e = is a in (omega (arith, h, e), few-from make is (a + 1) n (omega (arith, h)))

buffers-cut : (bs : List Buf) → FewBuffers bs → AreCut (map text.buffer_parameter bs) (map printed.buffer_parameter bs)
buffers-cut [] h = tt
buffers-cut (b ∷ bs) h = (buffer-cut b h.0, buffers-cut bs h.1)

-- ---- lengths

length-name : (b : Buf) → number_of b < 2 ^ 64 → Cuts (codes "len_" ++ buffer_name b) (name_token (codes "len_" ++ buffer_name b) ∷ [])
unfolding buffer_name
length-name (Input n) h = name_cuts 108 (101 ∷ 110 ∷ 95 ∷ 97 ∷ decimal n) refl (decimal-goes n h)
length-name (Output n) h = name_cuts 108 (101 ∷ 110 ∷ 95 ∷ 98 ∷ decimal n) refl (decimal-goes n h)
length-name (Scratch n) h = name_cuts 108 (101 ∷ 110 ∷ 95 ∷ 115 ∷ decimal n) refl (decimal-goes n h)

sizes-cut : (t : Text) (u : List Token) (n : ℕ) → n ≤ 2 ^ 64 → Passes t u → Cuts (t ++ sizes_text n) (u ++ sizes_words n)
sizes-cut t u zero h p = passes_cuts t (codes "void") u (name_token (codes "void") ∷ []) p void_cuts
sizes-cut t u (suc n) h p = commas-cut t u (text.size_parameters (suc n)) (printed.size_parameters (suc n)) p (sizes-from 0 (suc n) (omega (arith, h)))

length-regroup : (b : Token) (s i : List Token)
    → (((name_token (codes "int64_t") ∷ b ∷ sign k.LParen ∷ s) ++ (sign k.RParen ∷ sign k.LBrace ∷ name_token (codes "return") ∷ [])) ++ i) ++ length_end
    ≡ (name_token (codes "int64_t") ∷ b ∷ sign k.LParen ∷ (s ++ sign k.RParen ∷ sign k.LBrace ∷ name_token (codes "return") ∷ [])) ++ (i ++ length_end)
length-regroup b s i = simp (append_assoc)

length-cuts : (sizes : ℕ) (b : Buf) (t : Text) (i : List Token) → sizes ≤ 2 ^ 64 → number_of b < 2 ^ 64 → Cuts t i
    → Lines (codes "int64_t len_" ++ buffer_name b ++ codes "(" ++ sizes_text sizes ++ (codes ") { return " ++ t ++ codes "; }\n"))
    (length_start sizes b ++ (i ++ length_end))
length-cuts sizes b t i h g p =
    let a = passes_cuts (codes "int64_t ") (codes "len_" ++ buffer_name b) (name_token (codes "int64_t") ∷ [])
    (name_token (codes "len_" ++ buffer_name b) ∷ []) int_piece (length-name b g) in
    let c = cuts_passes (codes "int64_t len_" ++ buffer_name b) (codes "(") _ (sign k.LParen ∷ []) a open_paren refl in
    let d = sizes-cut (codes "int64_t len_" ++ buffer_name b ++ codes "(") _ sizes h c in
    let e = cuts_passes (codes "int64_t len_" ++ buffer_name b ++ codes "(" ++ sizes_text sizes) (codes ") { return ") _ _ d return_piece refl in
    let f = passes_cuts (codes "int64_t len_" ++ buffer_name b ++ codes "(" ++ sizes_text sizes ++ codes ") { return ") t _ i e p in
    let all = cuts_passes (codes "int64_t len_" ++ buffer_name b ++ codes "(" ++ sizes_text sizes ++ codes ") { return " ++ t)
    (codes "; }") _ length_end f length_piece refl in
    let front = codes "int64_t len_" ++ buffer_name b ++ codes "(" ++ sizes_text sizes in
    subst (λ z. Lines z (length_start sizes b ++ (i ++ length_end))) (regroup front)
    (subst (Lines (front ++ codes ") { return " ++ t ++ codes "; }" ++ codes "\n"))
    (length-regroup (name_token (codes "len_" ++ buffer_name b)) (sizes_words sizes) i)
    (one_line 0 (front ++ codes ") { return " ++ t ++ codes "; }") _ (cuts_any all)))
  where
    regroup : (front : Text) → front ++ codes ") { return " ++ t ++ codes "; }" ++ codes "\n" ≡ front ++ (codes ") { return " ++ t ++ codes "; }\n")
    regroup front = simp (append_assoc)

lengths-cut : (p : Prog) (bs : List Buf) (ns : List Iexp) → IsSmall (length_scope p.sizes) → FewBuffers bs → LengthsFit p.sizes bs ns
    → Lines (length_lines p.sizes bs ns) (lengths_words p.sizes bs ns)
lengths-cut p [] [] g f h = no_lines
lengths-cut p [] (n ∷ ns) g f h = absurd h
lengths-cut p (b ∷ bs) [] g f h = absurd h
lengths-cut p (b ∷ bs) (n ∷ ns) g f h =
    let e = below-some _ max_levels h.0 in
    lines_lines (length_line p.sizes b n) (length_lines p.sizes bs ns) _ _
    (length-cuts p.sizes b (index_text n Choice) (index_words n Choice) g.sizes f.0 (index-cuts (length_scope p.sizes) g n Choice e.0 e.1))
    (lengths-cut p bs ns g f.1 h.1)

-- ---- whole texts

heading-cuts : Lines heading heading_words
unfolding words_from front_word symbol digits
heading-cuts = record { lines = λ end rest. refl }

small-length : (p : Prog) → HasSmallNumbers p → IsSmall (length_scope p.sizes)
small-length p h = record { sizes = omega (arith, h.sizes); inputs = omega arith; outputs = omega arith; scratch = omega arith; loops = omega arith }

small-scope : (p : Prog) → HasSmallNumbers p → IsSmall (body_scope p)
small-scope p h = record {
  sizes = omega (arith, h.sizes);
  inputs = omega (arith, h.inputs);
  outputs = omega (arith, h.outputs);
  scratch = omega
      (arith, h.scratch);
  loops = omega arith;
}

small-within : (p : Prog) (h : HasSmallNumbers p) → IsSmallWithin max_levels (body_scope p)
unfolding max_levels
small-within p h = record { small = small-scope p h; deep = omega arith }

few-buffers : (p : Prog) → HasSmallNumbers p → FewBuffers (buffers p)
few-buffers p h =
    few-append _ _ (few-append _ _ (few-from Input (λ n. refl) 0 p.inputs (omega (arith, h.inputs)))
    (few-from Output (λ n. refl) 0 p.outputs (omega (arith, h.outputs)))) (few-from Scratch (λ n. refl) 0 p.scratch (omega (arith, h.scratch)))

head-cuts : (p : Prog) → HasSmallNumbers p
    → Cuts (codes "void atl(" ++ text.parameters p) (name_token (codes "void") ∷ name_token (codes "atl") ∷ sign k.LParen
    ∷ printed.with_commas (printed.size_parameters p.sizes ++ map printed.buffer_parameter (buffers p)))
head-cuts p h = commas-cut (codes "void atl(") _ _ _ atl_piece
    (are-append (text.size_parameters p.sizes) (map text.buffer_parameter (buffers p)) (printed.size_parameters p.sizes)
    (map printed.buffer_parameter (buffers p)) (sizes-from 0 p.sizes (omega (arith, h.sizes))) (buffers-cut (buffers p) (few-buffers p h)))

body-cuts : (p : Prog) → HasSmallNumbers p → IsPrintable p → Lines (statement_text p.body 1 0) (statement_words p.body 0)
body-cuts p g h =
    subst (λ s. Lines (statement_text s 1 0) (statement_words s 0)) (sym h.is_body)
    (subst (λ t. Lines t (statement_words (stmt.Seq h.body) 0)) (sym (seq-text h.body 1 0))
    (subst (Lines (each_text h.body 1 0)) (sym (seq-words h.body 0))
    (each-from max_levels (statement-cuts max_levels) (body_scope p) false h.body 1 (small-within p g) h.body_fits)))

function-regroup : (a b : List Token) → ((name_token (codes "void") ∷ name_token (codes "atl") ∷ sign k.LParen ∷ a) ++ (sign k.RParen ∷ sign k.LBrace ∷ []))
    ++ b ++ sign k.RBrace ∷ []
    ≡ (name_token (codes "void") ∷ name_token (codes "atl") ∷ sign k.LParen ∷ (a ++ sign k.RParen ∷ [])) ++ block_words b
function-regroup a b = simp (append_assoc)

function-cuts : (p : Prog) → HasSmallNumbers p → IsPrintable p → Lines (text.function_text p) (function_start p ++ block_words (statement_words p.body 0))
function-cuts p g h =
    let front = codes "void atl(" ++ text.parameters p in
    let head = cuts_passes front (codes ") {") _ _ (head-cuts p g) brace_piece refl in
    let tokens = name_token (codes "void") ∷ name_token (codes "atl") ∷ sign k.LParen
    ∷ printed.with_commas (printed.size_parameters p.sizes ++ map printed.buffer_parameter (buffers p)) in
    let first = subst (λ z. Lines z (tokens ++ (sign k.RParen ∷ sign k.LBrace ∷ []))) (append_assoc front (codes ") {") (codes "\n"))
    (one_line 0 (front ++ codes ") {") _ (cuts_any head)) in
    subst (Lines (text.function_text p)) (function-regroup (printed.with_commas (printed.size_parameters p.sizes ++ map printed.buffer_parameter (buffers p)))
    (statement_words p.body 0))
    (lines_lines (front ++ codes ") {\n" ++ statement_text p.body 1 0) (codes "}\n") _ (sign k.RBrace ∷ [])
    (lines_lines (front ++ codes ") {\n") (statement_text p.body 1 0) _ (statement_words p.body 0) first (body-cuts p g h))
    (one_line 0 (codes "}") _ (cuts_any close_brace)))

text-cuts : (p : Prog) → HasSmallNumbers p → IsPrintable p → Lines (canonical_text p) (program_words p)
unfolding canonical_text program_words
text-cuts p g h =
    subst (Lines (heading ++ length_lines p.sizes (buffers p) p.lengths ++ text.function_text p))
    (append_assoc heading_words (lengths_words p.sizes (buffers p) p.lengths) (function_start p ++ block_words (statement_words p.body 0)))
    (lines_lines (heading ++ length_lines p.sizes (buffers p) p.lengths) (text.function_text p) _ _
    (lines_lines heading (length_lines p.sizes (buffers p) p.lengths) _ _ heading-cuts
    (lengths-cut p (buffers p) p.lengths (small-length p g) (few-buffers p g) h.lengths)) (function-cuts p g h))

-- the canonical text is cut into the printed words
pub canonical-words : (p : Prog) → HasSmallNumbers p → IsPrintable p → tokens_of (c_words (canonical_text p)) ≡ program_words p
unfolding words_from
canonical-words p g h =
    ap (λ z. tokens_of (words_from (length (canonical_text p)) 0 (Code Indented) z)) (sym (append-nil (canonical_text p)))
    ∙ (text-cuts p g h).lines (length (canonical_text p)) []
    ∙ append-nil (program_words p)

-- the canonical text of a printable program is a text of that program
pub canonical-is-text : (p : Prog) → HasSmallNumbers p → IsPrintable p → CText (canonical_text p) p
canonical-is-text p g h = program-says p g h (c_words (canonical_text p)) (canonical-words p g h)
