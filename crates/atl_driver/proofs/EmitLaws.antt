-- What holds of what is asked for.
use Rattle.std.proofs.Common.{◌≡◌, ℕ, subst, sym, IfOk}
use Rattle.std.specs.Prelude.{IsErrOf}
use Rattle.std.specs.declared.result.Result.{Result}
use Rattle.std.specs.declared.vec.Vec.{Vec}
use Rattle.schedule_script.specs.declared.tree.Script.{Script}
use Rattle.term_tree.specs.declared.term.Module.{Module}
use Rattle.atl_driver.specs.Asked.{Asked}
use Rattle.atl_driver.specs.Compile.{Answers, emitted_as}
use Rattle.atl_driver.specs.Correct.{IsEmitted, IsUnemitted}
use Rattle.atl_driver.specs.declared.compile.CompileRefusal.{CompileRefusal}
use Rattle.atl_driver.specs.declared.compile.CompileRefusal.TheVariants.{Refused}
use Rattle.atl_driver.specs.declared.fault.Fault.{Fault}

module _ {A : Type 0} (e f : Asked) (m : Module) (s : Script) (r : Result (Vec ℕ A) CompileRefusal) (is : e ≡ f) where
  pub answers_as : Answers (emitted_as f m s) r → Answers (emitted_as e m s) r
  answers_as h = subst (λ (x : Asked). Answers (emitted_as x m s) r) (sym is) h

  pub emitted_as_asked : IfOk r (λ text. IsEmitted f m s text.items) → IfOk r (λ text. IsEmitted e m s text.items)
  emitted_as_asked h = subst (λ (x : Asked). IfOk r (λ text. IsEmitted x m s text.items)) (sym is) h

  pub refused_as_asked : ((fault : Fault) → IsErrOf r (Refused fault) → IsUnemitted f m s fault) → (fault : Fault) → IsErrOf r (Refused fault)
      → IsUnemitted e m s fault
  refused_as_asked h fault told = subst (λ (x : Asked). IsUnemitted x m s fault) (sym is) (h fault told)
