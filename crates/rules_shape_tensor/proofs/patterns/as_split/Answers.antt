use Rattle.std.proofs.Common.{sym, ◌∙◌}
use Rattle.term_tree.proofs.Forms.{Split-is}
use Rattle.term_tree.specs.Syntax.{split}
use Rattle.rules_shape_tensor.proofs.patterns.as_split.Goals as goal

pub returns-in-Split : goal.returns-in-Split
returns-in-Split c = c.in-Split.is ∙ Split-is _ _ ∙ (λ i. split c.in-Split.k (sym c.get.ensures i))
