-- Whether expressions and statements are well formed, as folds.
use Rattle.std.specs.Prelude.{ℕ, ◌+◌, Bool, true, false, ◌&&◌, nat_lt, List, [], ◌∷◌}
use Rattle.loop_lang.specs.declared.index.Iexp.{Iexp}
use Rattle.loop_lang.specs.declared.index.Iexp.TheOpen.{Iexp-F}
use Rattle.loop_lang.specs.declared.index.Iexp.TheFolds.{fold-Iexp}
use Rattle.loop_lang.specs.declared.index.Test.{Test}
use Rattle.loop_lang.specs.declared.word.Buf.{Buf}
use Rattle.loop_lang.specs.declared.word.Wexp.{Wexp}
use Rattle.loop_lang.specs.declared.word.Wexp.TheOpen.{Wexp-F}
use Rattle.loop_lang.specs.declared.word.Wexp.TheFolds.{fold-Wexp}
use Rattle.loop_lang.specs.declared.stmt.Stmt.{Stmt}
use Rattle.loop_lang.specs.declared.stmt.Stmt.TheOpen.{Stmt-F}
use Rattle.loop_lang.specs.declared.stmt.Stmt.TheFolds.{fold-Stmt}
use Rattle.loop_lang.specs.declared.stmt.Prog.{Prog}
use Rattle.loop_lang.specs.Form.{is_literal, is_divisor, buffer_there, target_there, Formed, each_formed, mark_formed, either}

module _ (sizes : ℕ) (in_length : Bool) (d : ℕ) where
  abbrev pub index_step : Iexp-F Bool → Bool
  index_step (Iexp-F.Lit n) = is_literal n
  index_step (Iexp-F.Size k) = nat_lt k sizes
  index_step (Iexp-F.Loop k) = nat_lt k d
  index_step (Iexp-F.Add a b) = a && b
  index_step (Iexp-F.Sub a b) = a && b
  index_step (Iexp-F.Mul a b) = a && b
  index_step (Iexp-F.Div a k) = a && is_divisor k
  index_step (Iexp-F.Rem a k) = a && is_divisor k
  index_step (Iexp-F.Larger a b) = in_length && (a && b)

  abbrev pub index_fold : Iexp → Bool
  index_fold = fold-Iexp Bool index_step

module _ (sizes d : ℕ) where
  abbrev pub test_fold : Test → Bool
  test_fold c = index_fold sizes false d c.left && index_fold sizes false d c.right

  abbrev pub each_test_fold : List Test → Bool
  each_test_fold [] = true
  each_test_fold (c ∷ cs) = test_fold c && each_test_fold cs

  -- there is a test, and each is well formed
  abbrev pub tests_fold : List Test → Bool
  tests_fold [] = false
  tests_fold (c ∷ cs) = each_test_fold (c ∷ cs)

module _ (p : Prog) (d : ℕ) where
  abbrev pub word_step : Wexp-F Bool → Bool
  word_step (Wexp-F.Lit w) = true
  word_step (Wexp-F.Load b i) = buffer_there p b && index_fold p.sizes false d i
  word_step (Wexp-F.OfIndex i) = index_fold p.sizes false d i
  word_step (Wexp-F.Add a b) = a && b
  word_step (Wexp-F.Sub a b) = a && b
  word_step (Wexp-F.Mul a b) = a && b
  word_step (Wexp-F.Choose cs a b) = tests_fold p.sizes d cs && (a && b)

  abbrev pub word_fold : Wexp → Bool
  word_fold = fold-Wexp Bool word_step

-- the statements of a program, under so many loops, one of which may be marked
module _ (p : Prog) where
  abbrev pub store_fold : Buf → Iexp → Wexp → ℕ → Bool
  store_fold b i w d = target_there p b && (index_fold p.sizes false d i && word_fold p d w)

  abbrev pub fill_fold : Buf → Iexp → Iexp → ℕ → Bool
  fill_fold b i n d = target_there p b && (index_fold p.sizes false d i && index_fold p.sizes false d n)

  abbrev pub body_fold : Bool → Formed p → Formed p
  body_fold marked f d inside = mark_formed p marked inside && f (d + 1) (either p marked inside)

  abbrev pub statement_step : Stmt-F (Formed p) → Formed p
  statement_step (Stmt-F.Seq fs) d inside = each_formed p fs d inside
  statement_step (Stmt-F.For n marked f) d inside = index_fold p.sizes false d n && body_fold marked f d inside
  statement_step (Stmt-F.If cs f) d inside = tests_fold p.sizes d cs && f d inside
  statement_step (Stmt-F.Put b i w) d inside = store_fold b i w d
  statement_step (Stmt-F.AddTo b i w) d inside = store_fold b i w d
  statement_step (Stmt-F.Zero b i n) d inside = fill_fold b i n d

  abbrev pub statement_fold : Stmt → Formed p
  statement_fold = fold-Stmt (Formed p) statement_step

abbrev pub lengths_fold : ℕ → List Iexp → Bool
lengths_fold sizes [] = true
lengths_fold sizes (x ∷ xs) = index_fold sizes true 0 x && lengths_fold sizes xs
