use Rattle.std.proofs.Common.{sym, ◌∙◌}
use Rattle.term_tree.proofs.Forms.{Index-is}
use Rattle.term_tree.specs.Syntax.{index}
use Rattle.rule_parts.proofs.patterns.as_index.Goals as goal

pub returns-in-Index : goal.returns-in-Index
returns-in-Index c = c.in-Index.is ∙ Index-is _ _ ∙ (λ i. index (sym c.get.ensures i) c.in-Index.x)
