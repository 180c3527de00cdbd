-- The reader of whole C texts, as code opens it.
use Rattle.std.specs.Prelude.{ℕ, zero, suc, ◌-◌, Bool, false, true, map, if◌then◌else◌, List, [], ◌∷◌, codes}
use Rattle.std.specs.List.{flat_map, range_with_len}
use Rattle.text_tokens.specs.declared.kind.Kind.TheVariants as k
use Rattle.text_tokens.specs.Spelled.{Token, name_token, tokens_of}
use Rattle.text_tokens.specs.Kinds.{Text}
use Rattle.text_tokens.specs.Words.{peek}
use Rattle.loop_lang.specs.declared.index.Iexp.{Iexp}
use Rattle.loop_lang.specs.declared.word.Buf.TheVariants.{Input, Output, Scratch}
use Rattle.loop_lang.specs.declared.stmt.Prog.{Prog}
use Rattle.c_print.specs.Index.{size_name}
use Rattle.reader_laws.specs.Steps.{Parser, ◌>>=◌, ◌>>◌, a_word, finish, pure, unexpected}
use Rattle.c_words.specs.Tokens.{sign}
use Rattle.c_words.specs.Words.{c_words}
use Rattle.c_text.specs.Printed.{after_comma, buffer_parameter, function_start, heading_words, length_end, size_parameter}
use Rattle.c_text.specs.Printed.{sizes_words, with_commas}
use Rattle.c_read.specs.Parts.{around, expect_all, until}
use Rattle.c_read.specs.Units as reading
use Rattle.c_read.specs.Units.{Counts, Heads, fits, goes_comma, goes_length, grow, head_of, is_complete, is_void, next_buffer, no_buffers, no_heads}
use Rattle.c_read.specs.Units.{one_size, program_of, return_words}
use Rattle.c_reader.specs.declared.parameters.Group.{Group}
use Rattle.c_reader.specs.declared.parameters.Group.TheVariants as g
use Rattle.c_reader.specs.declared.heads.Counts as code
use Rattle.c_reader.specs.declared.heads.Heads as heads
use Rattle.c_read.specs.Statements.{int_token}

-- what the code holds of the buffers so far
abbrev pub counts_of : code.Counts → Counts
counts_of c = record { inputs = c.inputs; outputs = c.outputs; scratch = c.scratch }

-- what the code holds of the lengths so far
abbrev pub heads_of : heads.Heads → Heads
heads_of h = record { sizes = h.sizes; counts = counts_of h.counts; lengths = h.lengths }

-- the lines that each text begins with
abbrev pub include_line : Text
include_line = codes "#include <stdint.h>\n"

abbrev pub top_line : Text
top_line = codes "static int64_t top(int64_t x, int64_t y) { return x > y ? x : y; }\n"

abbrev pub fill_line : Text
fill_line = codes "static void fill(uint64_t *p, int64_t at, int64_t n) { for (int64_t i = 0; i < n; i = i + 1) p[at + i] = 0; }\n"

unfoldable pub heading_lines : Parser (Unit {0})
heading_lines = expect_all (tokens_of (c_words include_line)) >>= (λ u. expect_all (tokens_of (c_words top_line)) >>=
    (λ v. expect_all (tokens_of (c_words fill_line))))

-- parameters, each behind a comma but the first one of all
abbrev pub parameters : Bool → List (List Token) → List Token
parameters true tss = with_commas tss
parameters false tss = flat_map after_comma tss

-- the comma before a parameter
abbrev pub first_comma : Bool → List Token
first_comma true = []
first_comma false = sign k.Comma ∷ []

-- the parameter of a kind with this number
abbrev pub group_tokens : Group → ℕ → List Token
group_tokens g.Sizes n = size_parameter n
group_tokens g.Inputs n = buffer_parameter (Input n)
group_tokens g.Outputs n = buffer_parameter (Output n)
group_tokens g.Scratch n = buffer_parameter (Scratch n)

-- one parameter, behind a comma where it is not the first of all
abbrev pub parameter : Bool → List Token → Parser (Unit {0})
parameter first ts = expect_all (first_comma first) >>= (λ u. expect_all ts)

-- the parameters of a kind from one number on, below another
unfoldable pub many : (ℕ → List Token) → Bool → ℕ → ℕ → Parser (Unit {0})
many tokens first at n = expect_all (parameters first (map tokens (range_with_len at (n - at))))

-- a program without lengths and statements
abbrev pub head_program : ℕ → Counts → Prog
head_program sizes c = head_of (record { sizes = sizes; counts = c; lengths = [] })

-- whether the first parameter of all comes behind so many
abbrev pub still : Bool → ℕ → Bool
still first zero = first
still first (suc n) = false

-- all parameters of the function, kind by kind
abbrev pub each_parameter : ℕ → Counts → Parser (Unit {0})
each_parameter sizes c = many (group_tokens g.Sizes) true 0 sizes >>= (λ u. many (group_tokens g.Inputs) (still true sizes) 0 c.inputs >>=
    (λ v. many (group_tokens g.Outputs) (still (still true sizes) c.inputs) 0 c.outputs >>= (λ w. many (group_tokens g.Scratch) false 0 c.scratch)))

-- the words of the function before its body
abbrev pub start_by : ℕ → Counts → Parser (Unit {0})
start_by sizes c = expect_all (name_token (codes "void") ∷ name_token (codes "atl") ∷ sign k.LParen ∷ []) >>= (λ u. each_parameter sizes c >>=
    (λ v. expect_all (sign k.RParen ∷ [])))

-- the sizes behind the first one
unfoldable pub more_sizes : ℕ → Parser ℕ
more_sizes = until goes_comma one_size pure

unfoldable pub some_sizes : Parser ℕ
some_sizes = expect_all (int_token ∷ name_token (size_name 0) ∷ []) >>= (λ u. more_sizes 1)

unfoldable pub sizes : Parser ℕ
sizes = λ i. (if is_void (peek i) then reading.no_sizes else some_sizes) i

-- the length of a buffer, behind its parameters
unfoldable pub length_of : ℕ → Parser Iexp
length_of s = around [] length_end (reading.length_value s)

unfoldable pub first_length : Parser Heads
first_length = expect_all (int_token ∷ []) >>= (λ u. a_word k.Name (next_buffer no_buffers) >>= (λ b.
    around (sign k.LParen ∷ []) return_words sizes >>= (λ s. length_of s >>= (λ n. pure (grow (no_heads s) b n)))))

-- the words between the name of a length and its value
unfoldable pub before_value : ℕ → Parser (Unit {0})
before_value s = expect_all (sign k.LParen ∷ []) >>= (λ u. expect_all (sizes_words s) >>= (λ v. expect_all return_words))

-- the length of a buffer, with its parameters
unfoldable pub measured : ℕ → Parser Iexp
measured s = before_value s >>= (λ u. reading.length_value s >>= (λ n. expect_all length_end >>= (λ v. pure n)))

unfoldable pub one_length : Heads → Parser Heads
one_length h = expect_all (int_token ∷ []) >>= (λ u. a_word k.Name (next_buffer h.counts) >>= (λ b. measured h.sizes >>= (λ n. pure (grow h b n))))

unfoldable pub function : Heads → Parser Prog
function h = if is_complete h then expect_all (function_start (head_of h)) >>= (λ u. reading.body_of h >>= (λ s. pure (program_of h s))) else unexpected

unfoldable pub more_lengths : Heads → Parser Prog
more_lengths = until goes_length one_length function

unfoldable pub unit : Parser Prog
unit = expect_all heading_words >>= (λ u. first_length >>= more_lengths)

unfoldable pub whole : Parser Prog
whole = unit >>= (λ x. finish >> pure x)
