-- The form of the programs that have a text, beside being well formed: each body is one sequence of statements that are no sequences, and the levels of C
-- are enough.
use Rattle.std.specs.Prelude.{◌≡◌, ◌≤◌, ◌<◌, ◌+◌, ◌^◌, ℕ, zero, suc, Bool, List}
use Rattle.loop_lang.specs.declared.index.Iexp.{Iexp}
use Rattle.loop_lang.specs.declared.index.Test.{Test}
use Rattle.loop_lang.specs.declared.word.Buf.{Buf}
use Rattle.loop_lang.specs.declared.word.Wexp.{Wexp}
use Rattle.loop_lang.specs.declared.stmt.Stmt.{Stmt}
use Rattle.loop_lang.specs.declared.stmt.Stmt.TheVariants as stmt
use Rattle.loop_lang.specs.declared.stmt.Prog.{Prog}
use Rattle.c_print.specs.declared.level.Level.TheVariants.{Choice}
use Rattle.c_text.specs.Levels.{LiteralsFit, index_levels, index_longest, tests_levels, tests_longest, word_height, word_levels}
use Rattle.c_text.specs.Printable.{All}
use Rattle.c_text.specs.Statement.{AddTo, Fill, Guarded, Loop, Put, StatementForm}

-- an index within so many levels
pub record IndexWithin (i : Iexp) (l : ℕ) : Type 0 where
  pub levels : index_levels i Choice ≤ l
  pub longest : index_longest i ≤ 1000

pub record TestsWithin (cs : List Test) (l : ℕ) : Type 0 where
  pub levels : tests_levels cs ≤ l
  pub longest : tests_longest cs ≤ 1000

pub record WordWithin (w : Wexp) (l : ℕ) : Type 0 where
  pub levels : word_levels w Choice ≤ l
  pub height : word_height w ≤ 1000
  pub literals : LiteralsFit w

pub record FlatFor (below : Stmt → Type 0) (l : ℕ) (s : Stmt) : Type 0 where
  pub bound : Iexp
  pub mark : Bool
  pub body : List Stmt
  pub is : s ≡ stmt.For bound mark (stmt.Seq body)
  pub deep : 2 ≤ l
  pub bound_within : IndexWithin bound l
  pub body_flat : All below body

pub record FlatIf (below : Stmt → Type 0) (l : ℕ) (s : Stmt) : Type 0 where
  pub tests : List Test
  pub body : List Stmt
  pub is : s ≡ stmt.If tests (stmt.Seq body)
  pub tests_within : TestsWithin tests l
  pub body_flat : All below body

pub record FlatStore (make : Buf → Iexp → Wexp → Stmt) (l : ℕ) (s : Stmt) : Type 0 where
  pub buffer : Buf
  pub place : Iexp
  pub word : Wexp
  pub is : s ≡ make buffer place word
  pub place_within : IndexWithin place l
  pub word_within : WordWithin word (l + 1)

pub record FlatFill (l : ℕ) (s : Stmt) : Type 0 where
  pub buffer : Buf
  pub place : Iexp
  pub count : Iexp
  pub is : s ≡ stmt.Zero buffer place count
  pub place_within : IndexWithin place l
  pub count_within : IndexWithin count l

-- `l` is how many levels are left within parentheses in the statement
abbrev pub FlatBy : (Stmt → Type 0) → ℕ → StatementForm → Stmt → Type 0
FlatBy below l Loop s = FlatFor below l s
FlatBy below l Guarded s = FlatIf below l s
FlatBy below l Put s = FlatStore stmt.Put l s
FlatBy below l AddTo s = FlatStore stmt.AddTo l s
FlatBy below l Fill s = FlatFill l s

-- a statement in a block, where so many levels are left outside of the block
abbrev pub Flat : ℕ → Stmt → Type 0
Flat zero s = ⊥
Flat (suc zero) s = ⊥
Flat (suc (suc l)) s = (form : StatementForm) × FlatBy (Flat (suc l)) l form s

pub record IsFlat (p : Prog) : Type 0 where
  pub some : 0 < p.outputs
  pub lengths : All (λ n. IndexWithin n 999) p.lengths
  pub body : List Stmt
  pub is_body : p.body ≡ stmt.Seq body
  pub body_flat : All (Flat 1000) body
