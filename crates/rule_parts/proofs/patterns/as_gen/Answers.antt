use Rattle.std.proofs.Common.{sym, ◌∙◌}
use Rattle.term_tree.proofs.Forms.{Gen-is}
use Rattle.term_tree.specs.Syntax.{gen}
use Rattle.rule_parts.proofs.patterns.as_gen.Goals as goal

pub returns-in-Gen : goal.returns-in-Gen
returns-in-Gen c = c.in-Gen.is ∙ Gen-is _ _ ∙ (λ i. gen c.in-Gen.n (sym c.get.ensures i))
