-- The reader of whole C texts.
use Rattle.std.specs.Prelude.{ℕ, ◌+◌, ◌^◌, ◌==◌, Bool, false, ◌&&◌, nat_lt, if◌then◌else◌, List, [], ◌∷◌, ◌++◌, length, Result, Ok, Err, codes}
use Rattle.std.specs.Str.{bytes_eq}
use Rattle.text_tokens.specs.declared.kind.Kind.TheVariants as k
use Rattle.text_tokens.specs.Kinds.{Text, same_kind}
use Rattle.text_tokens.specs.Spelled.{Token, name_token, token_of}
use Rattle.text_tokens.specs.Words.{Input, Word, peek}
use Rattle.loop_lang.specs.declared.index.Iexp.{Iexp}
use Rattle.loop_lang.specs.declared.word.Buf.{Buf}
use Rattle.loop_lang.specs.declared.word.Buf.TheVariants as buf
use Rattle.loop_lang.specs.declared.stmt.Stmt.{Stmt}
use Rattle.loop_lang.specs.declared.stmt.Stmt.TheVariants.{Seq}
use Rattle.loop_lang.specs.declared.stmt.Prog.{Prog}
use Rattle.c_print.specs.declared.level.Level.TheVariants.{Choice}
use Rattle.c_print.specs.Index.{size_name}
use Rattle.c_print.specs.Word.{buffer_name}
use Rattle.reader_laws.specs.declared.fault.Fault.{Fault}
use Rattle.reader_laws.specs.declared.fault.Fault.TheVariants.{BadSyntax}
use Rattle.reader_laws.specs.declared.fault.ReadError.{ReadError}
use Rattle.reader_laws.specs.Steps.{Parser, ◌>>=◌, a_word, pure, to_end, unexpected, value_of}
use Rattle.c_words.specs.Tokens.{sign}
use Rattle.c_words.specs.Words.{c_words}
use Rattle.c_text.specs.Statement.{body_scope, length_scope, max_levels}
use Rattle.c_text.specs.Printed.{function_start, heading_words, length_end, sizes_words}
use Rattle.c_read.specs.Parts.{around, checked, expect_all, until}
use Rattle.c_read.specs.Expressions.{as_index, inner}
use Rattle.c_read.specs.Statements.{block, inner_statement, int_token, is_name}

-- how many buffers of each kind have a length so far
pub record Counts : Type 0 where
  pub inputs : ℕ
  pub outputs : ℕ
  pub scratch : ℕ

abbrev pub no_buffers : Counts
no_buffers = record { inputs = 0; outputs = 0; scratch = 0 }

-- a number of 32 bits
abbrev pub fits : ℕ → Bool
fits n = nat_lt n (2 ^ 32)

-- whether the length of this buffer may come next: inputs, then at least one output, then scratch
abbrev pub follows : Counts → Buf → Bool
follows c (buf.Input n) = n == c.inputs && (c.outputs == 0 && (c.scratch == 0 && fits (n + 1)))
follows c (buf.Output n) = n == c.outputs && (c.scratch == 0 && fits (n + 1))
follows c (buf.Scratch n) = n == c.scratch && (nat_lt 0 c.outputs && fits (n + 1))

abbrev pub bump : Counts → Buf → Counts
bump c (buf.Input n) = record c { inputs = c.inputs + 1 }
bump c (buf.Output n) = record c { outputs = c.outputs + 1 }
bump c (buf.Scratch n) = record c { scratch = c.scratch + 1 }

-- what is known when some lengths have been read
pub record Heads : Type 0 where
  pub sizes : ℕ
  pub counts : Counts
  pub lengths : List Iexp

-- with the length of one buffer more
abbrev pub grow : Heads → Buf → Iexp → Heads
grow h b n = record { sizes = h.sizes; counts = bump h.counts b; lengths = h.lengths ++ n ∷ [] }

abbrev pub no_heads : ℕ → Heads
no_heads sizes = record { sizes = sizes; counts = no_buffers; lengths = [] }

abbrev pub program_of : Heads → Stmt → Prog
program_of h s = record {
  sizes = h.sizes;
  inputs = h.counts.inputs;
  outputs = h.counts.outputs;
  scratch = h.counts.scratch;
  lengths = h.lengths;
  body = s;
}

-- ---- names of lengths

abbrev pub length_name : Buf → Text
length_name b = codes "len_" ++ buffer_name b

abbrev pub try : Counts → Buf → Text → Result Buf Fault → Result Buf Fault
try c b t other = if follows c b && bytes_eq t (length_name b) then Ok b else other

-- the buffer whose length comes next
abbrev pub next_buffer : Counts → Text → Result Buf Fault
next_buffer c t = try c (buf.Input c.inputs) t (try c (buf.Output c.outputs) t (try c (buf.Scratch c.scratch) t (Err BadSyntax)))

-- ---- sizes

abbrev pub goes_comma : Word → Bool
goes_comma w = same_kind w.kind k.Comma

abbrev pub one_size : ℕ → Parser ℕ
one_size s = if fits (s + 1) then expect_all (sign k.Comma ∷ int_token ∷ name_token (size_name s) ∷ []) >>= (λ u. pure (s + 1)) else unexpected

abbrev pub some_sizes : Parser ℕ
some_sizes = expect_all (int_token ∷ name_token (size_name 0) ∷ []) >>= (λ u. until goes_comma one_size pure 1)

abbrev pub no_sizes : Parser ℕ
no_sizes = expect_all (name_token (codes "void") ∷ []) >>= (λ u. pure 0)

abbrev pub is_void : Word → Bool
is_void w = is_name (codes "void") (token_of w)

-- the parameters of the first length
abbrev pub sizes : Parser ℕ
sizes = λ i. (if is_void (peek i) then no_sizes else some_sizes) i

-- ---- lengths

abbrev pub length_value : ℕ → Parser Iexp
length_value s = if fits s then checked as_index (inner (length_scope s) max_levels Choice) else unexpected

abbrev pub return_words : List Token
return_words = sign k.RParen ∷ sign k.LBrace ∷ name_token (codes "return") ∷ []

abbrev pub first_length : Parser Heads
first_length = expect_all (int_token ∷ []) >>= (λ u. a_word k.Name (next_buffer no_buffers) >>= (λ b.
    around (sign k.LParen ∷ []) return_words sizes >>= (λ s. around [] length_end (length_value s) >>= (λ n. pure (grow (no_heads s) b n)))))

abbrev pub one_length : Heads → Parser Heads
one_length h = expect_all (int_token ∷ []) >>= (λ u. a_word k.Name (next_buffer h.counts) >>= (λ b.
    around (sign k.LParen ∷ (sizes_words h.sizes ++ return_words)) length_end (length_value h.sizes) >>= (λ n. pure (grow h b n))))

abbrev pub goes_length : Word → Bool
goes_length w = is_name (codes "int64_t") (token_of w)

-- ---- the function

abbrev pub head_of : Heads → Prog
head_of h = program_of h (Seq [])

abbrev pub body_of : Heads → Parser Stmt
body_of h = block (inner_statement max_levels) max_levels (body_scope (head_of h)) false (body_scope (head_of h)) false

-- whether the lengths are those of a program: there is an output, and its numbers are of 32 bits
abbrev pub is_complete : Heads → Bool
is_complete h = nat_lt 0 h.counts.outputs && (fits h.sizes && (fits h.counts.inputs && (fits h.counts.outputs && fits h.counts.scratch)))

abbrev pub function : Heads → Parser Prog
function h = if is_complete h then expect_all (function_start (head_of h)) >>= (λ u. body_of h >>= (λ s. pure (program_of h s))) else unexpected

abbrev pub unit : Parser Prog
unit = expect_all heading_words >>= (λ u. first_length >>= until goes_length one_length function)

-- ---- whole texts

-- a text of which nothing has been read
abbrev pub c_input : Text → Input
c_input z = record { words = c_words z; end = length z }

-- what the reader makes of a C text, all of it
unfoldable pub read_text : Text → Result Prog ReadError
read_text z = value_of (to_end unit (c_input z))
