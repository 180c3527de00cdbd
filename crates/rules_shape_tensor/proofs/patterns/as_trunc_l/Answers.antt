use Rattle.std.proofs.Common.{sym, ◌∙◌}
use Rattle.term_tree.proofs.Forms.{TruncL-is}
use Rattle.term_tree.specs.Syntax.{trunc_l}
use Rattle.rules_shape_tensor.proofs.patterns.as_trunc_l.Goals as goal

pub returns-in-TruncL : goal.returns-in-TruncL
returns-in-TruncL c = c.in-TruncL.is ∙ TruncL-is _ _ ∙ (λ i. trunc_l c.in-TruncL.a (sym c.get.ensures i))
