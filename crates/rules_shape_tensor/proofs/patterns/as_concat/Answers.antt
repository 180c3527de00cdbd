use Rattle.std.proofs.Common.{sym, ◌∙◌}
use Rattle.term_tree.proofs.Forms.{Concat-is}
use Rattle.term_tree.specs.Syntax.{concat}
use Rattle.rules_shape_tensor.proofs.patterns.as_concat.Goals as goal

pub returns-in-Concat : goal.returns-in-Concat
returns-in-Concat c = c.in-Concat.is ∙ Concat-is _ _ ∙ (λ i. concat (sym c.get.ensures i) (sym c.get-in-Concat.ensures i))
