use Rattle.std.proofs.Common.{◌≡◌, subst, IfOk}
use Rattle.term_tree.specs.declared.term.Term.{Term}
use Rattle.term_tree.proofs.Forms.{Sub-is}
use Rattle.rule_parts.proofs.build.sub.Goals as goal

pub returns : goal.returns
returns c = subst (λ (t : Term). IfOk c.boxed.result (λ e. e ≡ t)) (Sub-is c.args.a c.args.b) c.boxed.ensures
