use Rattle.std.proofs.Common.{sym, ◌∙◌}
use Rattle.term_tree.proofs.Forms.{Guard-is}
use Rattle.term_tree.specs.Syntax.{guard}
use Rattle.rule_parts.proofs.patterns.as_guard.Goals as goal

pub returns-in-Guard : goal.returns-in-Guard
returns-in-Guard c = c.in-Guard.is ∙ Guard-is _ _ ∙ (λ i. guard c.in-Guard.c (sym c.get.ensures i))
