use Rattle.term_tree.proofs.Forms.{Split-is}
use Rattle.term_reader.proofs.forms.split_term.Goals as goal

pub returns : goal.returns
returns c = Split-is c.args.rows c.args.tensor
