use Rattle.term_tree.proofs.Forms.{Let-is}
use Rattle.term_reader.proofs.forms.let_term.Goals as goal

pub returns : goal.returns
returns c = Let-is c.args.definition c.args.body
