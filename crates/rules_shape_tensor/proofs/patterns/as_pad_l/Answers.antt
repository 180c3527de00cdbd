use Rattle.std.proofs.Common.{sym, ◌∙◌}
use Rattle.term_tree.proofs.Forms.{PadL-is}
use Rattle.term_tree.specs.Syntax.{pad_l}
use Rattle.rules_shape_tensor.proofs.patterns.as_pad_l.Goals as goal

pub returns-in-PadL : goal.returns-in-PadL
returns-in-PadL c = c.in-PadL.is ∙ PadL-is _ _ ∙ (λ i. pad_l c.in-PadL.a (sym c.get.ensures i))
