use Rattle.c_first_fault.proofs.Whole.{first, texts}
use Rattle.c_first_fault.proofs.laws.faults_are_first.Goals as goal

pub returns-clause-first : goal.returns-clause-first
returns-clause-first c = first c.args.text.now

pub returns-clause-shaped : goal.returns-clause-shaped
returns-clause-shaped c = texts c.args.text.now
