use Rattle.std.proofs.Common.{◌≡◌, subst, IfOk}
use Rattle.affine_index.specs.declared.cond.Cond.{Cond}
use Rattle.term_tree.specs.Syntax.{guard}
use Rattle.rules_shape_gen.proofs.formed.guarded.Goals as goal

pub returns : goal.returns
returns c = subst (λ (k : Cond). IfOk c.guard.result (λ e. e ≡ guard k c.args.body)) (c.in_ok-cond.ensures {u = tt}) c.guard.ensures
