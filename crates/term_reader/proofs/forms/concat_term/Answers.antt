use Rattle.term_tree.proofs.Forms.{Concat-is}
use Rattle.term_reader.proofs.forms.concat_term.Goals as goal

pub returns : goal.returns
returns c = Concat-is c.args.left c.args.right
