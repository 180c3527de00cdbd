use Rattle.std.proofs.Common.{sym, ◌∙◌}
use Rattle.term_tree.proofs.Forms.{Add-is}
use Rattle.term_tree.specs.Syntax.{add}
use Rattle.rules_shape.proofs.patterns.as_add.Goals as goal

pub returns-in-Add : goal.returns-in-Add
returns-in-Add c = c.in-Add.is ∙ Add-is _ _ ∙ (λ i. add (sym c.get.ensures i) (sym c.get-in-Add.ensures i))
