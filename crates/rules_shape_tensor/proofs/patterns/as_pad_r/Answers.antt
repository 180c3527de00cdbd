use Rattle.std.proofs.Common.{sym, ◌∙◌}
use Rattle.term_tree.proofs.Forms.{PadR-is}
use Rattle.term_tree.specs.Syntax.{pad_r}
use Rattle.rules_shape_tensor.proofs.patterns.as_pad_r.Goals as goal

pub returns-in-PadR : goal.returns-in-PadR
returns-in-PadR c = c.in-PadR.is ∙ PadR-is _ _ ∙ (λ i. pad_r c.in-PadR.a (sym c.get.ensures i))
