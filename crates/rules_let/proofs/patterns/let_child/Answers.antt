use Rattle.std.proofs.Common.{sym, ◌∙◌}
use Rattle.term_tree.proofs.Forms.{Let-is}
use Rattle.term_tree.specs.Syntax.{let_in}
use Rattle.rules_let.proofs.patterns.let_child.Goals as goal

pub returns-in-Let : goal.returns-in-Let
returns-in-Let c = c.in-Let.is ∙ Let-is _ _ ∙ (λ i. let_in (sym c.get.ensures i) (sym c.get-in-Let.ensures i))
