use Rattle.c_read.proofs.Alone.{exact, refusals}
use Rattle.c_read.proofs.Formed.{text_formed}
use Rattle.c_read.proofs.laws.text_reader_is_exact.Goals as goal

pub returns-clause-exact : goal.returns-clause-exact
returns-clause-exact c = exact c.args.text.now

pub returns-clause-refused : goal.returns-clause-refused
returns-clause-refused c = refusals c.args.text.now

pub returns-clause-formed : goal.returns-clause-formed
returns-clause-formed c = text_formed c.args.text.now
