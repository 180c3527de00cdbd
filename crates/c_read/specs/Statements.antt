-- The reader of C's statements.
use Rattle.std.specs.Prelude.{ℕ, zero, suc, ◌+◌, ◌-◌, ◌++◌, Bool, true, false, not, ◌&&◌, if◌then◌else◌, List, [], ◌∷◌, codes}
use Rattle.std.specs.Str.{bytes_eq}
use Rattle.text_tokens.specs.declared.kind.Kind.{Kind}
use Rattle.text_tokens.specs.declared.kind.Kind.TheVariants as k
use Rattle.text_tokens.specs.Kinds.{Text, same_kind}
use Rattle.text_tokens.specs.Spelled.{Token, name_token, number_token, token_of}
use Rattle.text_tokens.specs.Words.{Word, peek}
use Rattle.loop_lang.specs.declared.index.Iexp.{Iexp}
use Rattle.loop_lang.specs.declared.word.Buf.{Buf}
use Rattle.loop_lang.specs.declared.word.Wexp.{Wexp}
use Rattle.loop_lang.specs.declared.stmt.Stmt.{Stmt}
use Rattle.loop_lang.specs.declared.stmt.Stmt.TheVariants as stmt
use Rattle.c_print.specs.declared.level.Level.TheVariants.{Choice}
use Rattle.c_print.specs.Index.{loop_name}
use Rattle.reader_laws.specs.Steps.{Parser, ◌>>=◌, ◌>>◌, a_word, open_level, pure, unexpected}
use Rattle.c_words.specs.Tokens.{PlusAssign, Pragma, sign}
use Rattle.c_text.specs.Expression.{Scope}
use Rattle.c_text.specs.Statement.{either, filled, if_of, inside_loop}
use Rattle.c_text.specs.Printed.{fill_end}
use Rattle.c_read.specs.Names.{target}
use Rattle.c_read.specs.Parts.{around, checked, expect_all, opened, until}
use Rattle.c_read.specs.Expressions.{as_index, as_tests, as_word, element, expression, inner}

-- ---- pieces of tokens, each of which begins with one that opens a level

pub record Piece : Type 0 where
  -- how many levels may still be opened there
  pub levels : ℕ
  pub tokens : List Token

abbrev pub expect_pieces : List Piece → Parser (Unit {0})
expect_pieces [] = pure tt
expect_pieces (p ∷ ps) = (open_level p.levels >> expect_all p.tokens) >>= (λ u. expect_pieces ps)

abbrev pub int_token : Token
int_token = name_token (codes "int64_t")

abbrev pub literal_token : Token
literal_token = name_token (codes "INT64_C")

-- a loop's variable and its beginning: two brackets open a level each
abbrev pub loop_start : ℕ → ℕ → List Piece
loop_start levels depth =
    record { levels = 1; tokens = name_token (codes "for") ∷ [] }
    ∷ record { levels = levels; tokens = sign k.LParen ∷ int_token ∷ name_token (loop_name depth) ∷ sign k.Assign ∷ literal_token ∷ [] }
    ∷ record { levels = levels - 1; tokens = sign k.LParen ∷ number_token 0 ∷ sign k.RParen ∷ sign k.Semi ∷ name_token (loop_name depth) ∷ sign k.Less ∷ [] }
    ∷ []

-- its step: the sign and the bracket behind it open a level each
abbrev pub loop_end : ℕ → ℕ → List Piece
loop_end levels depth =
    record { levels = 1; tokens = sign k.Semi ∷ name_token (loop_name depth) ∷ sign k.Assign ∷ name_token (loop_name depth) ∷ [] }
    ∷ record { levels = levels - 1; tokens = sign k.Plus ∷ literal_token ∷ [] }
    ∷ record { levels = levels - 2; tokens = sign k.LParen ∷ number_token 1 ∷ sign k.RParen ∷ sign k.RParen ∷ [] }
    ∷ []

-- ---- statements

-- what the first word of a statement begins
pub data Beginning : Type 0 where
  Marked : Beginning
  Unmarked : Beginning
  Testing : Beginning
  Filling : Beginning
  Storing : Beginning

-- a word of this text
abbrev pub is_name : Text → Token → Bool
is_name text t = same_kind t.kind k.Name && bytes_eq t.text text

abbrev pub beginning_token : Token → Beginning
beginning_token t =
    if same_kind t.kind Pragma then Marked else (if is_name (codes "for") t then Unmarked else (if is_name (codes "if") t then Testing
    else (if is_name (codes "fill") t then Filling else Storing)))

abbrev pub beginning : Word → Beginning
beginning w = beginning_token (token_of w)

-- whether a block goes on with a statement
abbrev pub goes_statement : Word → Bool
goes_statement w = not (same_kind w.kind k.RBrace)

-- whether a word is added
abbrev pub adds : Word → Bool
adds w = same_kind w.kind PlusAssign

abbrev pub closing : List Stmt → Parser Stmt
closing done = expect_all (sign k.RBrace ∷ []) >>= (λ u. pure (stmt.Seq done))

-- `below` reads a statement one level further in, `levels` is how many may still be opened, and `marked` says whether a marked loop is around
module _ (below : Scope → Bool → Parser Stmt) (levels : ℕ) (scope : Scope) (marked : Bool) where
  abbrev pub one_more_statement : Scope → Bool → List Stmt → Parser (List Stmt)
  one_more_statement inside in_marked done = below inside in_marked >>= (λ s. pure (done ++ s ∷ []))

  abbrev pub block : Scope → Bool → Parser Stmt
  block inside in_marked = open_level levels >>
      (expect_all (sign k.LBrace ∷ []) >>= (λ u. until goes_statement (one_more_statement inside in_marked) closing []))

  abbrev pub index_within : Parser Iexp
  index_within = checked as_index (inner scope levels Choice)

  abbrev pub header : Parser Iexp
  header = expect_pieces (loop_start levels scope.loops) >>= (λ u. index_within >>= (λ n. expect_pieces (loop_end levels scope.loops) >>= (λ v. pure n)))

  abbrev pub mark : Bool → Parser (Unit {0})
  mark true = if marked then unexpected else expect_all (sign Pragma ∷ [])
  mark false = pure tt

  abbrev pub loop : Bool → Parser Stmt
  loop m = mark m >>= (λ u. header >>= (λ n. block (inside_loop scope) (either m marked) >>= (λ s. pure (stmt.For n m s))))

  abbrev pub guarded : Parser Stmt
  guarded = opened levels (name_token (codes "if") ∷ []) (sign k.LParen ∷ []) (sign k.RParen ∷ []) (checked as_tests (inner scope levels Choice))
      >>= (λ cs. block scope marked >>= (λ s. pure (if_of cs s)))

  abbrev pub fill_parts : Parser (Buf × (Iexp × Iexp))
  fill_parts = a_word k.Name (target scope) >>=
      (λ b. around (sign k.Comma ∷ []) (sign k.Comma ∷ []) index_within >>= (λ at. index_within >>= (λ n. pure (b, (at, n)))))

  abbrev pub fill : Parser Stmt
  fill = opened levels (name_token (codes "fill") ∷ []) (sign k.LParen ∷ []) fill_end fill_parts >>= (λ e. pure (filled e))

  abbrev pub stored : Kind → Parser Wexp
  stored kd = around (sign kd ∷ []) (sign k.Semi ∷ []) (checked as_word (expression scope levels Choice))

  abbrev pub store_by : Buf × Iexp → Bool → Parser Stmt
  store_by e true = stored PlusAssign >>= (λ w. pure (stmt.AddTo e.0 e.1 w))
  store_by e false = stored k.Assign >>= (λ w. pure (stmt.Put e.0 e.1 w))

  abbrev pub store : Parser Stmt
  store = element scope (inner scope levels) levels (target scope) >>= (λ e i. store_by e (adds (peek i)) i)

  abbrev pub statement_by : Beginning → Parser Stmt
  statement_by Marked = loop true
  statement_by Unmarked = loop false
  statement_by Testing = guarded
  statement_by Filling = fill
  statement_by Storing = store

  abbrev pub one_statement : Parser Stmt
  one_statement = λ i. statement_by (beginning (peek i)) i

-- a statement, where so many levels are left but one
abbrev pub inner_statement : ℕ → Scope → Bool → Parser Stmt
inner_statement zero = λ scope marked. unexpected
inner_statement (suc levels) = one_statement (inner_statement levels) levels
