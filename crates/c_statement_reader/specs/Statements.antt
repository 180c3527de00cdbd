-- The reader of C's statements, production by production, as code opens it.
use Rattle.std.specs.Prelude.{ℕ, zero, suc, ◌++◌, Bool, true, false, if◌then◌else◌, List, [], ◌∷◌, codes}
use Rattle.text_tokens.specs.declared.kind.Kind.{Kind}
use Rattle.text_tokens.specs.declared.kind.Kind.TheVariants as k
use Rattle.text_tokens.specs.Spelled.{name_token, number_token}
use Rattle.text_tokens.specs.Words.{peek}
use Rattle.loop_lang.specs.declared.index.Iexp.{Iexp}
use Rattle.loop_lang.specs.declared.index.Test.{Test}
use Rattle.loop_lang.specs.declared.word.Buf.{Buf}
use Rattle.loop_lang.specs.declared.word.Wexp.{Wexp}
use Rattle.loop_lang.specs.declared.stmt.Stmt.{Stmt}
use Rattle.loop_lang.specs.declared.stmt.Stmt.TheVariants as stmt
use Rattle.c_print.specs.declared.level.Level.TheVariants.{Choice}
use Rattle.c_print.specs.Index.{loop_name}
use Rattle.reader_laws.specs.Steps.{Parser, ◌>>=◌, ◌>>◌, a_word, open_level, pure, unexpected}
use Rattle.c_words.specs.Tokens.{PlusAssign, Pragma, sign}
use Rattle.c_text.specs.Expression.{Scope}
use Rattle.c_text.specs.Statement.{either, filled, if_of, inside_loop}
use Rattle.c_text.specs.Printed.{fill_end}
use Rattle.c_read.specs.Names.{target}
use Rattle.c_read.specs.Parts.{around, checked, expect_all, opened, until}
use Rattle.c_read.specs.Expressions.{as_index, as_tests, as_word, element, expression, inner}
use Rattle.c_read.specs.Statements.{Beginning, Marked, Unmarked, Testing, Filling, Storing, adds, beginning, closing, expect_pieces, goes_statement}
use Rattle.c_read.specs.Statements.{int_token, literal_token, loop_end, loop_start}
use Rattle.c_statement_reader.specs.declared.statements.Beginning as code
use Rattle.c_statement_reader.specs.declared.statements.Beginning.TheVariants as b

-- what the code holds of the beginning of a statement
abbrev pub beginning_of : code.Beginning → Beginning
beginning_of b.Marked = Marked
beginning_of b.Unmarked = Unmarked
beginning_of b.Testing = Testing
beginning_of b.Filling = Filling
beginning_of b.Storing = Storing

-- ---- the header of a loop

-- its opening as far as the beginning of its variable
abbrev pub opening_piece : ℕ → ℕ → Parser (Unit {0})
opening_piece levels depth = open_level levels >>
    expect_all (sign k.LParen ∷ int_token ∷ name_token (loop_name depth) ∷ sign k.Assign ∷ literal_token ∷ [])

-- the beginning of its variable, as far as the bound
abbrev pub zero_piece : ℕ → ℕ → Parser (Unit {0})
zero_piece levels depth = open_level levels >>
    expect_all (sign k.LParen ∷ number_token 0 ∷ sign k.RParen ∷ sign k.Semi ∷ name_token (loop_name depth) ∷ sign k.Less ∷ [])

-- what its variable becomes, behind the bound
abbrev pub step_piece : ℕ → Parser (Unit {0})
step_piece depth = expect_all (sign k.Semi ∷ name_token (loop_name depth) ∷ sign k.Assign ∷ name_token (loop_name depth) ∷ [])

-- the sign of the step
abbrev pub plus_piece : ℕ → Parser (Unit {0})
plus_piece levels = open_level levels >> expect_all (sign k.Plus ∷ literal_token ∷ [])

-- the step of 1, and the end of the header
abbrev pub one_piece : ℕ → Parser (Unit {0})
one_piece levels = open_level levels >> expect_all (sign k.LParen ∷ number_token 1 ∷ sign k.RParen ∷ sign k.RParen ∷ [])

-- ---- statements that hold none

module _ (scope : Scope) (levels : ℕ) where
  abbrev pub index_within : Parser Iexp
  index_within = checked as_index (inner scope levels Choice)

  -- the bound of a loop, with all of its header
  unfoldable pub header : Parser Iexp
  header = expect_pieces (loop_start levels scope.loops) >>= (λ u. index_within >>= (λ n. expect_pieces (loop_end levels scope.loops) >>= (λ v. pure n)))

  -- the tests of an `if`
  unfoldable pub tested : Parser (List Test)
  tested = opened levels (name_token (codes "if") ∷ []) (sign k.LParen ∷ []) (sign k.RParen ∷ []) (checked as_tests (inner scope levels Choice))

  -- the place of a fill between its commas
  unfoldable pub fill_place : Parser Iexp
  fill_place = around (sign k.Comma ∷ []) (sign k.Comma ∷ []) index_within

  unfoldable pub fill_parts : Parser (Buf × (Iexp × Iexp))
  fill_parts = a_word k.Name (target scope) >>= (λ b. fill_place >>= (λ at. index_within >>= (λ n. pure (b, (at, n)))))

  unfoldable pub fill : Parser Stmt
  fill = opened levels (name_token (codes "fill") ∷ []) (sign k.LParen ∷ []) fill_end fill_parts >>= (λ e. pure (filled e))

  -- the word that is stored, before its `;`
  unfoldable pub stored : Parser Wexp
  stored = checked as_word (expression scope levels Choice) >>= (λ x. expect_all (sign k.Semi ∷ []) >>= (λ v. pure x))

  -- the word that is stored, behind its sign
  unfoldable pub stored_by : Kind → Parser Wexp
  stored_by kd = expect_all (sign kd ∷ []) >>= (λ u. stored)

  abbrev pub store_by : Buf × Iexp → Bool → Parser Stmt
  store_by e true = stored_by PlusAssign >>= (λ w. pure (stmt.AddTo e.0 e.1 w))
  store_by e false = stored_by k.Assign >>= (λ w. pure (stmt.Put e.0 e.1 w))

  unfoldable pub store : Parser Stmt
  store = element scope (inner scope levels) levels (target scope) >>= (λ e i. store_by e (adds (peek i)) i)

-- ---- statements that hold others

-- `below` reads a statement one level further in, and `levels` is how many may still be opened
module _ (below : Scope → Bool → Parser Stmt) (levels : ℕ) where
  -- one statement more behind these
  abbrev pub one_more : Scope → Bool → List Stmt → Parser (List Stmt)
  one_more inside in_marked done = below inside in_marked >>= (λ s. pure (done ++ s ∷ []))

  unfoldable pub more_statements : Scope → Bool → List Stmt → Parser Stmt
  more_statements inside in_marked = until goes_statement (one_more inside in_marked) closing

  unfoldable pub block : Scope → Bool → Parser Stmt
  block inside in_marked = open_level levels >> (expect_all (sign k.LBrace ∷ []) >>= (λ u. more_statements inside in_marked []))

  -- `marked` says whether a marked loop is around
  module _ (scope : Scope) (marked : Bool) where
    unfoldable pub mark : Bool → Parser (Unit {0})
    mark true = if marked then unexpected else expect_all (sign Pragma ∷ [])
    mark false = pure tt

    -- a loop behind its mark
    unfoldable pub looped : Bool → Parser Stmt
    looped m = header scope levels >>= (λ n. block (inside_loop scope) (either m marked) >>= (λ s. pure (stmt.For n m s)))

    unfoldable pub loop_by : Bool → Parser Stmt
    loop_by m = mark m >>= (λ u. looped m)

    unfoldable pub guarded : Parser Stmt
    guarded = tested scope levels >>= (λ cs. block scope marked >>= (λ s. pure (if_of cs s)))

    abbrev pub statement_by : Beginning → Parser Stmt
    statement_by Marked = loop_by true
    statement_by Unmarked = loop_by false
    statement_by Testing = guarded
    statement_by Filling = fill scope levels
    statement_by Storing = store scope levels

    unfoldable pub one_statement : Parser Stmt
    one_statement = λ i. statement_by (beginning (peek i)) i

-- a statement, where so many levels are left but one
unfoldable pub inner_statement : ℕ → Scope → Bool → Parser Stmt
inner_statement zero = λ scope marked. unexpected
inner_statement (suc levels) = one_statement (inner_statement levels) levels
