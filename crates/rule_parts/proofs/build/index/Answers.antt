use Rattle.std.proofs.Common.{◌≡◌, subst, IfOk}
use Rattle.term_tree.specs.declared.term.Term.{Term}
use Rattle.term_tree.proofs.Forms.{Index-is}
use Rattle.rule_parts.proofs.build.index.Goals as goal

pub returns : goal.returns
returns c = subst (λ (t : Term). IfOk c.boxed.result (λ e. e ≡ t)) (Index-is c.args.array c.args.x) c.boxed.ensures
