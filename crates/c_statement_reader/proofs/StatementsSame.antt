-- The reader as code opens it is the reader of C's statements.
use Rattle.std.proofs.Common.{◌≡◌, ℕ, zero, suc, Bool, true, false, refl, ap, ◌∙◌}
use Rattle.text_tokens.specs.Words.{Input, peek}
use Rattle.loop_lang.specs.declared.stmt.Stmt.{Stmt}
use Rattle.reader_laws.specs.Steps.{Parser}
use Rattle.c_text.specs.Expression.{Scope}
use Rattle.c_read.specs.Statements as reading
use Rattle.c_read.specs.Statements.{Beginning}
use Rattle.c_statement_reader.specs.Statements.{block, fill, fill_parts, fill_place, guarded, header, inner_statement, loop_by, looped}
use Rattle.c_statement_reader.specs.Statements.{mark, more_statements, one_statement, statement_by, store, store_by, stored, stored_by, tested}

module _ (below : Scope → Bool → Parser Stmt) (levels : ℕ) (scope : Scope) (marked : Bool) where
  mark_same : (m : Bool) → mark below levels scope marked m ≡ reading.mark below levels scope marked m
  unfolding mark
  mark_same true = refl
  mark_same false = refl

  by_same : (b : Beginning) → statement_by below levels scope marked b ≡ reading.statement_by below levels scope marked b
  unfolding mark loop_by looped header block more_statements guarded tested fill fill_parts fill_place store stored stored_by
  by_same reading.Marked = refl
  by_same reading.Unmarked = refl
  by_same reading.Testing = refl
  by_same reading.Filling = refl
  by_same reading.Storing = refl

  one_same : one_statement below levels scope marked ≡ reading.one_statement below levels scope marked
  unfolding one_statement
  one_same = λ j i. by_same (reading.beginning (peek i)) j i

pub inner_statement_same : (levels : ℕ) → inner_statement levels ≡ reading.inner_statement levels
unfolding inner_statement
inner_statement_same zero = refl
inner_statement_same (suc levels) =
    (λ j scope marked. one_same (inner_statement levels) levels scope marked j)
    ∙ ap (λ (below : Scope → Bool → Parser Stmt). reading.one_statement below levels) (inner_statement_same levels)

-- a block, where so many levels are left
pub block_is : (scope : Scope) (marked : Bool) (levels : ℕ) (i : Input)
    → block (inner_statement levels) levels scope marked i ≡ reading.block (reading.inner_statement levels) levels scope marked scope marked i
unfolding block more_statements
block_is scope marked levels i =
    ap (λ (below : Scope → Bool → Parser Stmt). reading.block below levels scope marked scope marked i) (inner_statement_same levels)
