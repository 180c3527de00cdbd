-- The words of the canonical text of expressions, statements and programs.
use Rattle.std.specs.Prelude.{ℕ, zero, suc, ◌+◌, Bool, true, false, List, [], ◌∷◌, ◌++◌, codes, map}
use Rattle.std.specs.Int.RustNames.{unsigned_abs}
use Rattle.std.specs.List.{flat_map, range_with_len}
use Rattle.affine_index.specs.declared.cond.Rel.{Rel}
use Rattle.affine_index.specs.declared.cond.Rel.TheVariants.{Lt, Le, Gt, Ge, Eq}
use Rattle.text_tokens.specs.declared.kind.Kind.{Kind}
use Rattle.text_tokens.specs.declared.kind.Kind.TheVariants as k
use Rattle.loop_lang.specs.declared.index.Iexp.{Iexp, Lit, Size, Loop}
use Rattle.loop_lang.specs.declared.index.Test.{Test}
use Rattle.loop_lang.specs.declared.word.Buf.{Buf}
use Rattle.loop_lang.specs.declared.word.Buf.TheVariants.{Input}
use Rattle.loop_lang.specs.declared.word.Wexp.{Wexp}
use Rattle.loop_lang.specs.declared.word.Wexp as word
use Rattle.loop_lang.specs.declared.stmt.Prog.{Prog}
use Rattle.loop_lang.specs.declared.stmt.Stmt.{Stmt}
use Rattle.loop_lang.specs.declared.stmt.Stmt.TheOpen.{Stmt-F}
use Rattle.loop_lang.specs.declared.stmt.Stmt.TheFolds.{fold-Stmt}
use Rattle.loop_lang.specs.Syntax.{index_sum, index_difference, index_product, index_quotient, index_remainder}
use Rattle.loop_lang.specs.Syntax.{index_larger, word_sum, word_difference, word_product, word_choice}
use Rattle.c_print.specs.declared.level.Level.{Level}
use Rattle.c_print.specs.declared.level.Level.TheVariants.{Choice, Sum, Product, Part}
use Rattle.c_print.specs.Level.{is_looser}
use Rattle.c_print.specs.Index.{size_name, loop_name}
use Rattle.c_print.specs.Word.{buffer_name}
use Rattle.c_print.specs.Program.{buffers}
use Rattle.text_tokens.specs.Spelled.{Token, name_token, number_token}
use Rattle.c_words.specs.Tokens.{AndAnd, Include, PlusAssign, Pragma, Question, sign}

-- in parentheses where a test says so
abbrev pub enclosed : Bool → List Token → List Token
enclosed true ts = sign k.LParen ∷ ts ++ sign k.RParen ∷ []
enclosed false ts = ts

abbrev pub index_number : ℕ → List Token
index_number n = name_token (codes "INT64_C") ∷ sign k.LParen ∷ number_token n ∷ sign k.RParen ∷ []

-- an index expression, where the level is the loosest that may stand
abbrev pub index_words : Iexp → Level → List Token
index_words (Lit n) place = index_number (unsigned_abs n)
index_words (Size n) place = name_token (size_name n) ∷ []
index_words (Loop d) place = name_token (loop_name d) ∷ []
index_words (index_sum a b) place = enclosed (is_looser Sum place) (index_words a Sum ++ sign k.Plus ∷ index_words b Product)
index_words (index_difference a b) place = enclosed (is_looser Sum place) (index_words a Sum ++ sign k.Minus ∷ index_words b Product)
index_words (index_product a b) place = enclosed (is_looser Product place) (index_words a Product ++ sign k.Star ∷ index_words b Part)
index_words (index_quotient a n) place = enclosed (is_looser Product place) (index_words a Product ++ sign k.Slash ∷ index_number n)
index_words (index_remainder a n) place = enclosed (is_looser Product place) (index_words a Product ++ sign k.Percent ∷ index_number n)
index_words (index_larger a b) place = name_token (codes "top") ∷ sign k.LParen ∷ (index_words a Choice ++ sign k.Comma ∷ index_words b Choice)
    ++ sign k.RParen ∷ []

-- a place of a buffer
abbrev pub element_words : Buf → Iexp → List Token
element_words b i = name_token (buffer_name b) ∷ sign k.LBracket ∷ index_words i Choice ++ sign k.RBracket ∷ []

abbrev pub relation_sign : Rel → Kind
relation_sign Lt = k.Less
relation_sign Le = k.LessEqual
relation_sign Gt = k.Greater
relation_sign Ge = k.GreaterEqual
relation_sign Eq = k.Equal

-- a comparison
abbrev pub test_words : Test → List Token
test_words c = index_words c.left Sum ++ sign (relation_sign c.rel) ∷ index_words c.right Sum

-- tests behind another
abbrev pub more_tests : List Test → List Token
more_tests [] = []
more_tests (c ∷ cs) = sign AndAnd ∷ test_words c ++ more_tests cs

-- tests that must all hold
abbrev pub tests_words : List Test → List Token
tests_words [] = []
tests_words (c ∷ cs) = test_words c ++ more_tests cs

-- a word expression
abbrev pub word_words : Wexp → Level → List Token
word_words (word.Lit n) place = name_token (codes "UINT64_C") ∷ sign k.LParen ∷ number_token n ∷ sign k.RParen ∷ []
word_words (word.Load b i) place = element_words b i
word_words (word.OfIndex i) place = sign k.LParen ∷ name_token (codes "uint64_t") ∷ sign k.RParen ∷ sign k.LParen ∷ index_words i Choice ++ sign k.RParen ∷ []
word_words (word_sum a b) place = enclosed (is_looser Sum place) (word_words a Sum ++ sign k.Plus ∷ word_words b Product)
word_words (word_difference a b) place = enclosed (is_looser Sum place) (word_words a Sum ++ sign k.Minus ∷ word_words b Product)
word_words (word_product a b) place = enclosed (is_looser Product place) (word_words a Product ++ sign k.Star ∷ word_words b Part)
word_words (word_choice cs a b) place = enclosed (is_looser Choice place)
    (tests_words cs ++ sign Question ∷ (word_words a Choice ++ sign k.Colon ∷ word_words b Choice))

-- ---- statements

abbrev pub mark_words : Bool → List Token
mark_words true = sign Pragma ∷ []
mark_words false = []

-- a loop's variable and its beginning, before its bound
abbrev pub for_start : ℕ → List Token
for_start depth =
    name_token (codes "for") ∷ sign k.LParen ∷ name_token (codes "int64_t") ∷ name_token (loop_name depth) ∷ sign k.Assign ∷ name_token (codes "INT64_C")
    ∷ sign k.LParen ∷ number_token 0 ∷ sign k.RParen ∷ sign k.Semi ∷ name_token (loop_name depth) ∷ sign k.Less ∷ []

-- the step of a loop's variable by 1, behind its bound
abbrev pub for_end : ℕ → List Token
for_end depth =
    sign k.Semi ∷ name_token (loop_name depth) ∷ sign k.Assign ∷ name_token (loop_name depth) ∷ sign k.Plus ∷ name_token (codes "INT64_C") ∷ sign k.LParen
    ∷ number_token 1 ∷ sign k.RParen ∷ sign k.RParen ∷ []

abbrev pub if_start : List Token
if_start = name_token (codes "if") ∷ sign k.LParen ∷ []

abbrev pub fill_start : List Token
fill_start = name_token (codes "fill") ∷ sign k.LParen ∷ []

abbrev pub fill_end : List Token
fill_end = sign k.RParen ∷ sign k.Semi ∷ []

abbrev pub block_words : List Token → List Token
block_words ts = sign k.LBrace ∷ (ts ++ sign k.RBrace ∷ [])

-- a word put or added, by the sign, at a place of a buffer
abbrev pub store_words : Kind → Buf → Iexp → Wexp → List Token
store_words kd b i w = element_words b i ++ (sign kd ∷ (word_words w Choice ++ sign k.Semi ∷ []))

abbrev pub fill_words : Buf → Iexp → Iexp → List Token
fill_words b at n = fill_start ++ ((name_token (buffer_name b) ∷ ((sign k.Comma ∷ (index_words at Choice ++ sign k.Comma ∷ [])) ++ index_words n Choice))
    ++ fill_end)

-- statements with so many loops around them
abbrev pub Lines : Type 0
Lines = ℕ → List Token

abbrev pub in_turn : List Lines → Lines
in_turn [] depth = []
in_turn (f ∷ fs) depth = f depth ++ in_turn fs depth

abbrev pub statement_step : Stmt-F Lines → Lines
statement_step (Stmt-F.Seq fs) depth = in_turn fs depth
statement_step (Stmt-F.For n marked f) depth = mark_words marked ++
    ((for_start depth ++ (index_words n Choice ++ for_end depth)) ++ block_words (f (depth + 1)))
statement_step (Stmt-F.If cs f) depth = (if_start ++ (tests_words cs ++ sign k.RParen ∷ [])) ++ block_words (f depth)
statement_step (Stmt-F.Put b i w) depth = store_words k.Assign b i w
statement_step (Stmt-F.AddTo b i w) depth = store_words PlusAssign b i w
statement_step (Stmt-F.Zero b at n) depth = fill_words b at n

abbrev pub statement_words : Stmt → Lines
statement_words = fold-Stmt Lines statement_step

-- ---- programs

abbrev pub heading_top : List Token
heading_top =
    name_token (codes "static") ∷ name_token (codes "int64_t") ∷ name_token (codes "top") ∷ sign k.LParen ∷ name_token (codes "int64_t")
    ∷ name_token (codes "x") ∷ sign k.Comma ∷ name_token (codes "int64_t") ∷ name_token (codes "y") ∷ sign k.RParen ∷ sign k.LBrace
    ∷ name_token (codes "return") ∷ name_token (codes "x") ∷ sign k.Greater ∷ name_token (codes "y") ∷ sign Question ∷ name_token (codes "x") ∷ sign k.Colon
    ∷ name_token (codes "y") ∷ sign k.Semi ∷ sign k.RBrace ∷ []

abbrev pub heading_fill : List Token
heading_fill =
    name_token (codes "static") ∷ name_token (codes "void") ∷ name_token (codes "fill") ∷ sign k.LParen ∷ name_token (codes "uint64_t") ∷ sign k.Star
    ∷ name_token (codes "p") ∷ sign k.Comma ∷ name_token (codes "int64_t") ∷ name_token (codes "at") ∷ sign k.Comma ∷ name_token (codes "int64_t")
    ∷ name_token (codes "n") ∷ sign k.RParen ∷ sign k.LBrace
    ∷ name_token (codes "for") ∷ sign k.LParen ∷ name_token (codes "int64_t") ∷ name_token (codes "i") ∷ sign k.Assign ∷ number_token 0 ∷ sign k.Semi
    ∷ name_token (codes "i") ∷ sign k.Less ∷ name_token (codes "n") ∷ sign k.Semi ∷ name_token (codes "i") ∷ sign k.Assign ∷ name_token (codes "i")
    ∷ sign k.Plus ∷ number_token 1 ∷ sign k.RParen
    ∷ name_token (codes "p") ∷ sign k.LBracket ∷ name_token (codes "at") ∷ sign k.Plus ∷ name_token (codes "i") ∷ sign k.RBracket ∷ sign k.Assign
    ∷ number_token 0 ∷ sign k.Semi ∷ sign k.RBrace ∷ []

-- the line that includes, and the two fixed functions
abbrev pub heading_words : List Token
heading_words = sign Include ∷ (heading_top ++ heading_fill)

abbrev pub size_parameter : ℕ → List Token
size_parameter n = name_token (codes "int64_t") ∷ name_token (size_name n) ∷ []

-- inputs are only read
abbrev pub buffer_parameter : Buf → List Token
buffer_parameter (Input n) = name_token (codes "const") ∷ name_token (codes "uint64_t") ∷ sign k.Star ∷ name_token (buffer_name (Input n)) ∷ []
buffer_parameter b = name_token (codes "uint64_t") ∷ sign k.Star ∷ name_token (buffer_name b) ∷ []

abbrev pub after_comma : List Token → List Token
after_comma ts = sign k.Comma ∷ ts

abbrev pub with_commas : List (List Token) → List Token
with_commas [] = []
with_commas (ts ∷ tss) = ts ++ flat_map after_comma tss

abbrev pub size_parameters : ℕ → List (List Token)
size_parameters n = map size_parameter (range_with_len 0 n)

-- the parameters of a length
abbrev pub sizes_words : ℕ → List Token
sizes_words zero = name_token (codes "void") ∷ []
sizes_words (suc n) = with_commas (size_parameters (suc n))

-- what stands before the length of a buffer
abbrev pub length_start : ℕ → Buf → List Token
length_start sizes b = name_token (codes "int64_t") ∷ name_token (codes "len_" ++ buffer_name b) ∷ sign k.LParen
    ∷ (sizes_words sizes ++ sign k.RParen ∷ sign k.LBrace ∷ name_token (codes "return") ∷ [])

abbrev pub length_end : List Token
length_end = sign k.Semi ∷ sign k.RBrace ∷ []

-- the length of each buffer, in order
abbrev pub lengths_words : ℕ → List Buf → List Iexp → List Token
lengths_words sizes (b ∷ bs) (n ∷ ns) = (length_start sizes b ++ (index_words n Choice ++ length_end)) ++ lengths_words sizes bs ns
lengths_words sizes bs ns = []

-- the first line of the function
abbrev pub function_start : Prog → List Token
function_start p = name_token (codes "void") ∷ name_token (codes "atl") ∷ sign k.LParen
    ∷ (with_commas (size_parameters p.sizes ++ map buffer_parameter (buffers p)) ++ sign k.RParen ∷ [])

-- the words of the canonical text
unfoldable pub program_words : Prog → List Token
program_words p = heading_words ++ (lengths_words p.sizes (buffers p) p.lengths ++ (function_start p ++ block_words (statement_words p.body 0)))
