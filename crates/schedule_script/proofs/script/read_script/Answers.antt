use Rattle.schedule_script.proofs.WholeLaws.{found, only, refused}
use Rattle.schedule_script.proofs.script.read_script.Goals as goal

pub returns-clause-found : goal.returns-clause-found
returns-clause-found c = found c.args.text.now c.read_bytes.result c.read_bytes.ensures

pub returns-clause-only : goal.returns-clause-only
returns-clause-only c = λ s is. only c.args.text.now c.read_bytes.result s c.read_bytes.ensures is

pub returns-clause-refused : goal.returns-clause-refused
returns-clause-refused c = refused c.args.text.now c.read_bytes.result c.read_bytes.ensures

pub returns-clause-exact : goal.returns-clause-exact
returns-clause-exact c = c.read_bytes.ensures
