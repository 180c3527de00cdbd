use Rattle.std.proofs.Common.{sym, ◌∙◌}
use Rattle.term_tree.proofs.Forms.{Sub-is}
use Rattle.term_tree.specs.Syntax.{sub}
use Rattle.rules_shape.proofs.patterns.as_sub.Goals as goal

pub returns-in-Sub : goal.returns-in-Sub
returns-in-Sub c = c.in-Sub.is ∙ Sub-is _ _ ∙ (λ i. sub (sym c.get.ensures i) (sym c.get-in-Sub.ensures i))
