use Rattle.std.proofs.Common.{sym, ◌∙◌}
use Rattle.term_tree.proofs.Forms.{Sum-is}
use Rattle.term_tree.specs.Syntax.{sum}
use Rattle.rule_parts.proofs.patterns.as_sum.Goals as goal

pub returns-in-Sum : goal.returns-in-Sum
returns-in-Sum c = c.in-Sum.is ∙ Sum-is _ _ ∙ (λ i. sum c.in-Sum.n (sym c.get.ensures i))
