use Rattle.term_tree.proofs.Forms.{Index-is}
use Rattle.term_reader.proofs.forms.index_term.Goals as goal

pub returns : goal.returns
returns c = Index-is c.args.tensor c.args.index
