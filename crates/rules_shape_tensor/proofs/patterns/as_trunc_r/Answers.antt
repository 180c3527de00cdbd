use Rattle.std.proofs.Common.{sym, ◌∙◌}
use Rattle.term_tree.proofs.Forms.{TruncR-is}
use Rattle.term_tree.specs.Syntax.{trunc_r}
use Rattle.rules_shape_tensor.proofs.patterns.as_trunc_r.Goals as goal

pub returns-in-TruncR : goal.returns-in-TruncR
returns-in-TruncR c = c.in-TruncR.is ∙ TruncR-is _ _ ∙ (λ i. trunc_r c.in-TruncR.a (sym c.get.ensures i))
