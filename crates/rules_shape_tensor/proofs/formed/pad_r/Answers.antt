use Rattle.std.proofs.Common.{◌≡◌, subst, IfOk}
use Rattle.term_tree.specs.declared.term.Term.{Term}
use Rattle.term_tree.proofs.Forms.{PadR-is}
use Rattle.rules_shape_tensor.proofs.formed.pad_r.Goals as goal

pub returns : goal.returns
returns c = subst (λ (t : Term). IfOk c.boxed.result (λ e. e ≡ t)) (PadR-is c.args.a c.args.body) c.boxed.ensures
