use Rattle.term_tree.proofs.Forms.{Guard-is}
use Rattle.term_reader.proofs.forms.guard_term.Goals as goal

pub returns : goal.returns
returns c = Guard-is c.args.condition c.args.body
