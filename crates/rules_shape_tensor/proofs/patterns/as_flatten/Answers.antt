use Rattle.std.proofs.Common.{sym, ◌∙◌}
use Rattle.term_tree.proofs.Forms.{Flatten-is}
use Rattle.term_tree.specs.Syntax.{flatten}
use Rattle.rules_shape_tensor.proofs.patterns.as_flatten.Goals as goal

pub returns-in-Flatten : goal.returns-in-Flatten
returns-in-Flatten c = c.in-Flatten.is ∙ Flatten-is _ ∙ (λ i. flatten (sym c.get.ensures i))
