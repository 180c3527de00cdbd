-- The actions of each statement, as the code writes it, and whether it is well formed.
use Rattle.std.proofs.Common.{◌≡◌, ℕ, ◌+◌, Bool, false, ◌&&◌, List, [], ◌∷◌, ◌++◌, map, refl, ap, sym, ◌∙◌}
use Rattle.loop_lang.specs.declared.index.Iexp.{Iexp}
use Rattle.loop_lang.specs.declared.index.Test.{Test}
use Rattle.loop_lang.specs.declared.word.Buf.{Buf}
use Rattle.loop_lang.specs.declared.word.Wexp.{Wexp}
use Rattle.loop_lang.specs.declared.stmt.Prog.{Prog}
use Rattle.loop_lang.specs.declared.stmt.Stmt.{Stmt}
use Rattle.loop_lang.specs.declared.stmt.Stmt.TheOpen.{Stmt-F}
use Rattle.loop_lang.specs.declared.stmt.Stmt.TheFolds.{fold-Stmt, fold-roll-Stmt}
use Rattle.loop_lang.specs.declared.stmt.Stmt.TheVariants.{Seq, For, If, Put, AddTo, Zero, rolls-Seq, rolls-For, rolls-If, rolls-Put, rolls-AddTo, rolls-Zero}
use Rattle.loop_lang.proofs.StatementForms.{fold-seq, fold-for, fold-if, fold-put, fold-add_to, fold-zero}
use Rattle.loop_lang.specs.Reckoning.{reckon, tested}
use Rattle.loop_lang.specs.Actions.{Action, grow, Puts, Adds, then_follow, turns_below, if_holds, store, fill, Doing, in_turn, acts_step, acts, acts_all}
use Rattle.loop_lang.specs.Form.{index_formed, tests_formed, target_there, store_formed, Formed, each_formed, mark_formed, either, formed_step, stmt_formed}

in_turn-is : (xs : List Stmt) (s r : List ℕ) → in_turn (map acts xs) s r ≡ acts_all xs s r
in_turn-is [] s r = refl
in_turn-is (x ∷ xs) s r = ap (then_follow (acts x s r)) (in_turn-is xs s r)

at : (f g : Doing) (s r : List ℕ) → f ≡ g → f s r ≡ g s r
at f g s r e = λ i. e i s r

pub acts-seq : (xs : List Stmt) (s r : List ℕ) → acts (Seq xs) s r ≡ acts_all xs s r
acts-seq xs s r = at _ _ s r (fold-seq Doing acts_step xs) ∙ in_turn-is xs s r

pub acts-for : (n : Iexp) (p : Bool) (e : Stmt) (s r : List ℕ) → acts (For n p e) s r ≡ turns_below (reckon n s r) (λ i. acts e s (r ++ i ∷ []))
acts-for n p e s r = at _ _ s r (fold-for Doing acts_step n p e)

pub acts-if : (cs : List Test) (e : Stmt) (s r : List ℕ) → acts (If cs e) s r ≡ if_holds (tested cs s r) (acts e s r)
acts-if cs e s r = at _ _ s r (fold-if Doing acts_step cs e)

pub acts-put : (b : Buf) (i : Iexp) (w : Wexp) (s r : List ℕ) → acts (Put b i w) s r ≡ store Puts b (grow w s r) (reckon i s r)
acts-put b i w s r = at _ _ s r (fold-put Doing acts_step b i w)

pub acts-add_to : (b : Buf) (i : Iexp) (w : Wexp) (s r : List ℕ) → acts (AddTo b i w) s r ≡ store Adds b (grow w s r) (reckon i s r)
acts-add_to b i w s r = at _ _ s r (fold-add_to Doing acts_step b i w)

pub acts-zero : (b : Buf) (i n : Iexp) (s r : List ℕ) → acts (Zero b i n) s r ≡ fill b (reckon i s r) (reckon n s r)
acts-zero b i n s r = at _ _ s r (fold-zero Doing acts_step b i n)

module _ (p : Prog) where
  abbrev pub all_formed : List Stmt → Formed p
  all_formed xs = each_formed p (map (stmt_formed p) xs)

  pub formed-seq : (xs : List Stmt) → stmt_formed p (Seq xs) ≡ all_formed xs
  formed-seq xs = fold-seq (Formed p) (formed_step p) xs

  pub formed-for : (n : Iexp) (marked : Bool) (e : Stmt) (d : ℕ) (inside : Bool)
      → stmt_formed p (For n marked e) d inside ≡
      (index_formed p.sizes false n d && (mark_formed p marked inside && stmt_formed p e (d + 1) (either p marked inside)))
  formed-for n marked e d inside = λ i. fold-for (Formed p) (formed_step p) n marked e i d inside

  pub formed-put : (b : Buf) (i : Iexp) (w : Wexp) (d : ℕ) (inside : Bool) → stmt_formed p (Put b i w) d inside ≡ store_formed p b i w d
  formed-put b i w d inside = λ j. fold-put (Formed p) (formed_step p) b i w j d inside

  pub formed-add_to : (b : Buf) (i : Iexp) (w : Wexp) (d : ℕ) (inside : Bool) → stmt_formed p (AddTo b i w) d inside ≡ store_formed p b i w d
  formed-add_to b i w d inside = λ j. fold-add_to (Formed p) (formed_step p) b i w j d inside

  pub formed-zero : (b : Buf) (i n : Iexp) (d : ℕ) (inside : Bool)
      → stmt_formed p (Zero b i n) d inside ≡ (target_there p b && (index_formed p.sizes false i d && index_formed p.sizes false n d))
  formed-zero b i n d inside = λ j. fold-zero (Formed p) (formed_step p) b i n j d inside
