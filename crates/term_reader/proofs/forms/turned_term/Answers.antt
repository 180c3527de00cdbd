use Rattle.std.proofs.Common.{sym, ap, ◌∙◌}
use Rattle.term_tree.proofs.Forms.{Flatten-is, Transpose-is}
use Rattle.term_reader.specs.Forms.{turned_term}
use Rattle.term_reader.proofs.forms.turned_term.Goals as goal

pub returns-in-Flatten : goal.returns-in-Flatten
returns-in-Flatten c = Flatten-is c.args.term ∙ ap (λ f. turned_term f c.args.term) (sym c.in-Flatten.is)

pub returns-in-Transpose : goal.returns-in-Transpose
returns-in-Transpose c = Transpose-is c.args.term ∙ ap (λ f. turned_term f c.args.term) (sym c.in-Transpose.is)
