use Rattle.std.proofs.Common.{sym, ap, ◌∙◌}
use Rattle.term_tree.proofs.Forms.{Add-is, Sub-is}
use Rattle.term_reader.specs.Forms.{signed_term}
use Rattle.term_reader.proofs.forms.signed_term.Goals as goal

pub returns-in-Plus : goal.returns-in-Plus
returns-in-Plus c = Add-is c.args.left c.args.right ∙ ap (λ f. signed_term f c.args.left c.args.right) (sym c.in-Plus.is)

pub returns-in-Minus : goal.returns-in-Minus
returns-in-Minus c = Sub-is c.args.left c.args.right ∙ ap (λ f. signed_term f c.args.left c.args.right) (sym c.in-Minus.is)
