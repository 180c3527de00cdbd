use Rattle.std.proofs.Common.{sym, ◌∙◌}
use Rattle.term_tree.proofs.Forms.{Mul-is}
use Rattle.term_tree.specs.Syntax.{mul}
use Rattle.rules_shape.proofs.patterns.as_mul.Goals as goal

pub returns-in-Mul : goal.returns-in-Mul
returns-in-Mul c = c.in-Mul.is ∙ Mul-is _ _ ∙ (λ i. mul (sym c.get.ensures i) (sym c.get-in-Mul.ensures i))
