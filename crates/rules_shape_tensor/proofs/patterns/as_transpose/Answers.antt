use Rattle.std.proofs.Common.{sym, ◌∙◌}
use Rattle.term_tree.proofs.Forms.{Transpose-is}
use Rattle.term_tree.specs.Syntax.{transpose}
use Rattle.rules_shape_tensor.proofs.patterns.as_transpose.Goals as goal

pub returns-in-Transpose : goal.returns-in-Transpose
returns-in-Transpose c = c.in-Transpose.is ∙ Transpose-is _ ∙ (λ i. transpose (sym c.get.ensures i))
