-- A statement with a body as code makes it is the form that specs/ matches on, and a fold at each statement.
use Rattle.std.proofs.Common.{◌≡◌, List, Bool, map, refl, ap, sym, ◌∙◌}
use denote.Hole.Carrier.{hidden}
use Rattle.loop_lang.specs.declared.index.Iexp.{Iexp}
use Rattle.loop_lang.specs.declared.index.Test.{Test}
use Rattle.loop_lang.specs.declared.word.Buf.{Buf}
use Rattle.loop_lang.specs.declared.word.Wexp.{Wexp}
use Rattle.loop_lang.specs.declared.stmt.Stmt.{Stmt}
use Rattle.loop_lang.specs.declared.stmt.Stmt.TheVariants as variant
use Rattle.loop_lang.specs.declared.stmt.Stmt.TheBlock.{shape-the_row-Stmt-1, hidden-the_row-Stmt-1}
use Rattle.loop_lang.specs.declared.stmt.Stmt.TheOpen.{Stmt-F}
use Rattle.loop_lang.specs.declared.stmt.Stmt.TheFolds.{fold-Stmt, fold-roll-Stmt}
use Rattle.loop_lang.specs.Syntax.{for_loop, if_tests}

pub for_loop-is : (n : Iexp) (marked : Bool) (e : Stmt) → variant.For n marked e ≡ for_loop n marked e
unfolding shape-the_row-Stmt-1 hidden-the_row-Stmt-1 hidden
for_loop-is n marked e = refl

pub if_tests-is : (cs : List Test) (e : Stmt) → variant.If cs e ≡ if_tests cs e
unfolding shape-the_row-Stmt-1 hidden-the_row-Stmt-1 hidden
if_tests-is cs e = refl

module _ (A : Type 0) (step : Stmt-F A → A) where
  pub fold-seq : (xs : List Stmt) → fold-Stmt A step (variant.Seq xs) ≡ step (Stmt-F.Seq (map (fold-Stmt A step) xs))
  fold-seq xs = ap (fold-Stmt A step) (sym (variant.rolls-Seq xs)) ∙ fold-roll-Stmt A step (Stmt-F.Seq xs)

  pub fold-for : (n : Iexp) (marked : Bool) (e : Stmt) → fold-Stmt A step (variant.For n marked e) ≡ step (Stmt-F.For n marked (fold-Stmt A step e))
  fold-for n marked e = ap (fold-Stmt A step) (sym (variant.rolls-For n marked e)) ∙ fold-roll-Stmt A step (Stmt-F.For n marked e)

  pub fold-if : (cs : List Test) (e : Stmt) → fold-Stmt A step (variant.If cs e) ≡ step (Stmt-F.If cs (fold-Stmt A step e))
  fold-if cs e = ap (fold-Stmt A step) (sym (variant.rolls-If cs e)) ∙ fold-roll-Stmt A step (Stmt-F.If cs e)

  pub fold-put : (b : Buf) (i : Iexp) (w : Wexp) → fold-Stmt A step (variant.Put b i w) ≡ step (Stmt-F.Put b i w)
  fold-put b i w = ap (fold-Stmt A step) (sym (variant.rolls-Put b i w)) ∙ fold-roll-Stmt A step (Stmt-F.Put b i w)

  pub fold-add_to : (b : Buf) (i : Iexp) (w : Wexp) → fold-Stmt A step (variant.AddTo b i w) ≡ step (Stmt-F.AddTo b i w)
  fold-add_to b i w = ap (fold-Stmt A step) (sym (variant.rolls-AddTo b i w)) ∙ fold-roll-Stmt A step (Stmt-F.AddTo b i w)

  pub fold-zero : (b : Buf) (at n : Iexp) → fold-Stmt A step (variant.Zero b at n) ≡ step (Stmt-F.Zero b at n)
  fold-zero b at n = ap (fold-Stmt A step) (sym (variant.rolls-Zero b at n)) ∙ fold-roll-Stmt A step (Stmt-F.Zero b at n)
