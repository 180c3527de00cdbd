-- The grammar of C's statements and of whole texts: which words stand for which statement, and for which program.
use Rattle.std.specs.Prelude.{◌≡◌, ◌<◌, ◌+◌, ◌^◌, ℕ, zero, suc, Bool, true, false, List, [], ◌∷◌, ◌++◌}
use Rattle.text_tokens.specs.declared.kind.Kind.TheVariants as k
use Rattle.text_tokens.specs.Kinds.{Text}
use Rattle.text_tokens.specs.Words.{Word}
use Rattle.loop_lang.specs.declared.index.Iexp.{Iexp}
use Rattle.loop_lang.specs.declared.index.Test.{Test}
use Rattle.loop_lang.specs.declared.word.Buf.{Buf}
use Rattle.loop_lang.specs.declared.word.Buf.TheVariants.{Input, Output, Scratch}
use Rattle.loop_lang.specs.declared.stmt.Stmt.{Stmt}
use Rattle.loop_lang.specs.declared.stmt.Stmt.TheVariants as stmt
use Rattle.loop_lang.specs.declared.stmt.Prog.{Prog}
use Rattle.c_print.specs.declared.level.Level.TheVariants.{Choice}
use Rattle.c_print.specs.Program.{buffers}
use Rattle.c_print.specs.Word.{buffer_name}
use Rattle.reader_laws.specs.Grammar.{Both, Opened}
use Rattle.text_tokens.specs.Spelled.{tokens_of, name_token}
use Rattle.c_words.specs.Tokens.{PlusAssign, sign}
use Rattle.c_words.specs.Words.{c_words}
use Rattle.c_text.specs.Rules.{Around, Front, IsEach, IsToken, Made}
use Rattle.c_text.specs.Expression.{AWord, HasBuffer, Index, IsElement, IsExpression, IsInner, Scope, Tests}
use Rattle.c_text.specs.Printed.{fill_end, fill_start, for_end, for_start, function_start, heading_words, if_start, length_end, length_start, mark_words}

pub data StatementForm : Type 0 where
  Fill : StatementForm
  Loop : StatementForm
  Guarded : StatementForm
  Put : StatementForm
  AddTo : StatementForm

-- stores and fills go to outputs and scratch
abbrev pub IsTarget : Buf → Type 0
IsTarget (Input n) = ⊥
IsTarget (Output n) = Unit {0}
IsTarget (Scratch n) = Unit {0}

abbrev pub HasTarget : Scope → Buf → Type 0
HasTarget scope b = HasBuffer scope b × IsTarget b

-- one loop more around
abbrev pub inside_loop : Scope → Scope
inside_loop scope = record scope { loops = scope.loops + 1 }

-- no marked loop stands inside a marked loop
abbrev pub MayMark : Bool → Bool → Type 0
MayMark true true = ⊥
MayMark m marked = Unit {0}

abbrev pub either : Bool → Bool → Bool
either true b = true
either false b = b

abbrev pub if_of : List Test → Stmt → Stmt
if_of cs e = stmt.If cs e

abbrev pub filled : Buf × (Iexp × Iexp) → Stmt
filled e = stmt.Zero e.0 e.1.0 e.1.1

-- `below` is what a level below holds, `levels` is how many may still be opened, and `marked` says whether a marked loop is around
module _ (below : Scope → Bool → List Word → Stmt → Type 0) (levels : ℕ) (scope : Scope) (marked : Bool) where
  -- `{ .. }`, which reads as the sequence of its statements
  abbrev pub IsBlock : Scope → Bool → List Word → Stmt → Type 0
  IsBlock inner inside = Opened levels (Around (sign k.LBrace ∷ []) (sign k.RBrace ∷ []) (Made stmt.Seq (IsEach (below inner inside))))

  -- a place of a buffer that may be written
  abbrev pub IsStore : List Word → Buf × Iexp → Type 0
  IsStore ws e = IsTarget e.0 × IsElement scope (IsInner scope levels) levels ws e

  -- an index one level further in
  abbrev pub IsIndexWithin : List Word → Iexp → Type 0
  IsIndexWithin = Index (IsInner scope levels Choice)

  abbrev pub IsFill : List Word → Buf × (Iexp × Iexp) → Type 0
  IsFill = Opened levels (Around fill_start fill_end (Both (IsToken (λ b. name_token (buffer_name b)) (HasTarget scope)) (λ b.
      Both (Around (sign k.Comma ∷ []) (sign k.Comma ∷ []) IsIndexWithin) (λ at. Made (λ n. (b, (at, n))) IsIndexWithin))))

  abbrev pub IsMark : List Word → Bool → Type 0
  IsMark ws m = MayMark m marked × (tokens_of ws ≡ mark_words m)

  -- the header opens three levels: its parentheses, its `+` and those of the 1
  abbrev pub IsHeader : List Word → Iexp → Type 0
  IsHeader ws n = (2 < levels) × Around (for_start scope.loops) (for_end scope.loops) IsIndexWithin ws n

  abbrev pub IsFor : List Word → Stmt → Type 0
  IsFor = Both IsMark (λ m. Both IsHeader (λ n. Made (stmt.For n m) (IsBlock (inside_loop scope) (either m marked))))

  abbrev pub IsIf : List Word → Stmt → Type 0
  IsIf = Both (Opened levels (Around if_start (sign k.RParen ∷ []) (Tests (IsInner scope levels Choice)))) (λ cs. Made (if_of cs) (IsBlock scope marked))

  abbrev pub IsStatementBy : StatementForm → List Word → Stmt → Type 0
  IsStatementBy Fill = Made filled IsFill
  IsStatementBy Loop = IsFor
  IsStatementBy Guarded = IsIf
  IsStatementBy Put = Both IsStore (λ e. Made (stmt.Put e.0 e.1) (Around (sign k.Assign ∷ []) (sign k.Semi ∷ []) (AWord (IsExpression scope levels Choice))))
  IsStatementBy AddTo = Both IsStore
      (λ e. Made (stmt.AddTo e.0 e.1) (Around (sign PlusAssign ∷ []) (sign k.Semi ∷ []) (AWord (IsExpression scope levels Choice))))

  abbrev pub IsOneStatement : List Word → Stmt → Type 0
  IsOneStatement ws s = (form : StatementForm) × IsStatementBy form ws s

-- a statement, where so many levels are left but one
abbrev pub IsInnerStatement : ℕ → Scope → Bool → List Word → Stmt → Type 0
IsInnerStatement zero scope marked = λ ws s. ⊥
IsInnerStatement (suc levels) scope marked = IsOneStatement (IsInnerStatement levels) levels scope marked

-- ---- whole texts

-- at most so many levels are open
unfoldable pub max_levels : ℕ
max_levels = 1000

-- what the body of the function names
abbrev pub body_scope : Prog → Scope
body_scope p = record { sizes = p.sizes; inputs = p.inputs; outputs = p.outputs; scratch = p.scratch; loops = 0; in_length = false }

-- What a length names. A load there is a word of whichever buffer, and so its kind is wrong.
abbrev pub length_scope : ℕ → Scope
length_scope sizes = record { sizes = sizes; inputs = 2 ^ 32; outputs = 2 ^ 32; scratch = 2 ^ 32; loops = 0; in_length = true }

-- the length of a buffer, in a block of its own
abbrev pub IsLength : ℕ → Buf → List Word → Iexp → Type 0
IsLength sizes b = Around (length_start sizes b) length_end (Index (IsInner (length_scope sizes) max_levels Choice))

-- one length for each buffer, in order
abbrev pub AreLengths : ℕ → List Buf → List Word → List Iexp → Type 0
AreLengths sizes (b ∷ bs) ws (n ∷ ns) = Front (IsLength sizes b) (λ us. AreLengths sizes bs us ns) ws n
AreLengths sizes [] ws [] = ws ≡ []
AreLengths sizes bs ws ns = ⊥

-- the body of the function
abbrev pub IsBody : Prog → List Word → Stmt → Type 0
IsBody p = IsBlock (IsInnerStatement max_levels) max_levels (body_scope p) false (body_scope p) false

-- the numbers of sizes and buffers are of 32 bits
pub record HasSmallNumbers (p : Prog) : Type 0 where
  pub sizes : p.sizes < 2 ^ 32
  pub inputs : p.inputs < 2 ^ 32
  pub outputs : p.outputs < 2 ^ 32
  pub scratch : p.scratch < 2 ^ 32

-- the words of a whole text
pub record IsUnit (ws : List Word) (p : Prog) : Type 0 where
  pub heading : List Word
  pub lengths : List Word
  pub start : List Word
  pub body : List Word
  pub words : ws ≡ heading ++ (lengths ++ (start ++ body))
  pub is_heading : tokens_of heading ≡ heading_words
  pub are_lengths : AreLengths p.sizes (buffers p) lengths p.lengths
  pub is_start : tokens_of start ≡ function_start p
  pub is_body : IsBody p body p.body
  -- there is an output
  pub some : 0 < p.outputs
  -- its numbers are of 32 bits
  pub small : HasSmallNumbers p

-- a text that stands for the program
abbrev pub CText : Text → Prog → Type 0
CText z p = IsUnit (c_words z) p
