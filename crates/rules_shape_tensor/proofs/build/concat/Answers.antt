use Rattle.std.proofs.Common.{◌≡◌, subst, IfOk}
use Rattle.term_tree.specs.declared.term.Term.{Term}
use Rattle.term_tree.proofs.Forms.{Concat-is}
use Rattle.rules_shape_tensor.proofs.build.concat.Goals as goal

pub returns : goal.returns
returns c = subst (λ (t : Term). IfOk c.boxed.result (λ e. e ≡ t)) (Concat-is c.args.a c.args.b) c.boxed.ensures
