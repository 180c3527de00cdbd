-- Well formed programs: everything that a program names is there.
use Rattle.std.specs.Prelude.{◌≡◌, ℕ, ◌+◌, ◌^◌, Bool, true, false, ◌&&◌, not, nat_lt, ℤ, pos, negsuc, List, [], ◌∷◌, length}
use Rattle.loop_lang.specs.declared.index.Iexp.{Iexp, Lit, Size, Loop}
use Rattle.loop_lang.specs.declared.index.Test.{Test}
use Rattle.loop_lang.specs.declared.word.Buf.{Buf}
use Rattle.loop_lang.specs.declared.word.Buf.TheVariants.{Input, Output, Scratch}
use Rattle.loop_lang.specs.declared.word.Wexp.{Wexp, Load, OfIndex}
use Rattle.loop_lang.specs.declared.word.Wexp as word
use Rattle.loop_lang.specs.declared.stmt.Stmt.TheOpen.{Stmt-F}
use Rattle.loop_lang.specs.declared.stmt.Stmt.TheFolds.{fold-Stmt}
use Rattle.loop_lang.specs.declared.stmt.Stmt.{Stmt}
use Rattle.loop_lang.specs.declared.stmt.Prog.{Prog}
use Rattle.loop_lang.specs.Syntax.{index_sum, index_difference, index_product, index_quotient, index_remainder, index_larger, word_sum, word_difference}
use Rattle.loop_lang.specs.Syntax.{word_product, word_choice}

-- a literal is 0 or more
abbrev pub is_literal : ℤ → Bool
is_literal (pos n) = nat_lt n (2 ^ 63)
is_literal (negsuc n) = false

abbrev pub is_divisor : ℕ → Bool
is_divisor k = nat_lt 0 k && nat_lt k (2 ^ 63)

-- an index under so many loops, over so many sizes; `Larger` stands in lengths alone
module _ (sizes : ℕ) (in_length : Bool) where
  abbrev pub index_formed : Iexp → ℕ → Bool
  index_formed (Lit n) d = is_literal n
  index_formed (Size k) d = nat_lt k sizes
  index_formed (Loop k) d = nat_lt k d
  index_formed (index_sum a b) d = index_formed a d && index_formed b d
  index_formed (index_difference a b) d = index_formed a d && index_formed b d
  index_formed (index_product a b) d = index_formed a d && index_formed b d
  index_formed (index_quotient a k) d = index_formed a d && is_divisor k
  index_formed (index_remainder a k) d = index_formed a d && is_divisor k
  index_formed (index_larger a b) d = in_length && (index_formed a d && index_formed b d)

abbrev pub each_test_formed : ℕ → List Test → ℕ → Bool
each_test_formed sizes [] d = true
each_test_formed sizes (c ∷ cs) d = index_formed sizes false c.left d && (index_formed sizes false c.right d && each_test_formed sizes cs d)

abbrev pub is_empty : {A : Type 0} → List A → Bool
is_empty [] = true
is_empty (x ∷ xs) = false

-- there is a test, and each is well formed
abbrev pub tests_formed : ℕ → List Test → ℕ → Bool
tests_formed sizes cs d = not (is_empty cs) && each_test_formed sizes cs d

-- the buffer is there
abbrev pub buffer_there : Prog → Buf → Bool
buffer_there p (Input k) = nat_lt k p.inputs
buffer_there p (Output k) = nat_lt k p.outputs
buffer_there p (Scratch k) = nat_lt k p.scratch

-- stores and fills go to outputs and scratch
abbrev pub target_there : Prog → Buf → Bool
target_there p (Input k) = false
target_there p (Output k) = nat_lt k p.outputs
target_there p (Scratch k) = nat_lt k p.scratch

module _ (p : Prog) where
  abbrev pub word_formed : Wexp → ℕ → Bool
  word_formed (word.Lit w) d = true
  word_formed (Load b i) d = buffer_there p b && index_formed p.sizes false i d
  word_formed (OfIndex i) d = index_formed p.sizes false i d
  word_formed (word_sum a b) d = word_formed a d && word_formed b d
  word_formed (word_difference a b) d = word_formed a d && word_formed b d
  word_formed (word_product a b) d = word_formed a d && word_formed b d
  word_formed (word_choice cs a b) d = tests_formed p.sizes cs d && (word_formed a d && word_formed b d)

  abbrev pub store_formed : Buf → Iexp → Wexp → ℕ → Bool
  store_formed b i w d = target_there p b && (index_formed p.sizes false i d && word_formed w d)

  -- under so many loops, and whether one of them is marked parallel
  abbrev pub Formed : Type 0
  Formed = ℕ → Bool → Bool

  abbrev pub each_formed : List Formed → Formed
  each_formed [] d marked = true
  each_formed (f ∷ fs) d marked = f d marked && each_formed fs d marked

  -- no marked loop stands inside a marked loop
  abbrev pub mark_formed : Bool → Bool → Bool
  mark_formed true inside = not inside
  mark_formed false inside = true

  abbrev pub either : Bool → Bool → Bool
  either true b = true
  either false b = b

  abbrev pub formed_step : Stmt-F Formed → Formed
  formed_step (Stmt-F.Seq fs) d inside = each_formed fs d inside
  formed_step (Stmt-F.For n marked f) d inside = index_formed p.sizes false n d && (mark_formed marked inside && f (d + 1) (either marked inside))
  formed_step (Stmt-F.If cs f) d inside = tests_formed p.sizes cs d && f d inside
  formed_step (Stmt-F.Put b i w) d inside = store_formed b i w d
  formed_step (Stmt-F.AddTo b i w) d inside = store_formed b i w d
  formed_step (Stmt-F.Zero b i n) d inside = target_there p b && (index_formed p.sizes false i d && index_formed p.sizes false n d)

  abbrev pub stmt_formed : Stmt → Formed
  stmt_formed = fold-Stmt Formed formed_step

abbrev pub lengths_formed : ℕ → List Iexp → Bool
lengths_formed sizes [] = true
lengths_formed sizes (x ∷ xs) = index_formed sizes true x 0 && lengths_formed sizes xs

pub record IsWellFormed (p : Prog) : Type 0 where
  pub many : length p.lengths ≡ p.inputs + p.outputs + p.scratch
  pub lengths : lengths_formed p.sizes p.lengths ≡ true
  pub body : stmt_formed p p.body 0 false ≡ true
