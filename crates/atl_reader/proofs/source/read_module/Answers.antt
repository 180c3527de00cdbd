use Rattle.atl_reader.proofs.Bytes.{example_found, few_found, found, only, scoped_found}
use Rattle.atl_reader.proofs.Causes.{refused}
use Rattle.atl_reader.proofs.FirstLaws.{first}
use Rattle.atl_reader.proofs.source.read_module.Goals as goal

pub returns-clause-found : goal.returns-clause-found
returns-clause-found c = found c.args.text.now c.read_bytes.result c.read_bytes.ensures

pub returns-clause-only : goal.returns-clause-only
returns-clause-only c = λ m is. only c.args.text.now c.read_bytes.result m c.read_bytes.ensures is

pub returns-clause-refused : goal.returns-clause-refused
returns-clause-refused c = refused c.args.text.now c.read_bytes.result c.read_bytes.ensures

pub returns-clause-first : goal.returns-clause-first
returns-clause-first c = first c.args.text.now c.read_bytes.result c.read_bytes.ensures

pub returns-clause-exact : goal.returns-clause-exact
returns-clause-exact c = c.read_bytes.ensures

pub returns-clause-scoped : goal.returns-clause-scoped
returns-clause-scoped c = scoped_found c.args.text.now c.read_bytes.result c.read_bytes.ensures

pub returns-clause-few : goal.returns-clause-few
returns-clause-few c = few_found c.args.text.now c.read_bytes.result c.read_bytes.ensures

pub returns-clause-example : goal.returns-clause-example
returns-clause-example c = example_found c.args.text.now c.read_bytes.result c.read_bytes.ensures
