use Rattle.term_tree.proofs.Forms.{Mul-is}
use Rattle.term_reader.proofs.forms.mul_term.Goals as goal

pub returns : goal.returns
returns c = Mul-is c.args.left c.args.right
