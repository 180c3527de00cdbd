use Rattle.std.proofs.Common.{◌≡◌, subst, IfOk}
use Rattle.term_tree.specs.declared.term.Term.{Term}
use Rattle.term_tree.proofs.Forms.{Gen-is}
use Rattle.rule_parts.proofs.build.generated.Goals as goal

pub returns : goal.returns
returns c = subst (λ (t : Term). IfOk c.boxed.result (λ e. e ≡ t)) (Gen-is c.args.n c.args.body) c.boxed.ensures
