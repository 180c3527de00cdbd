use Rattle.first_fault.proofs.WholeBegins.{first_of_index}
use Rattle.first_fault.proofs.laws.index_faults_are_first.Goals as goal

pub returns : goal.returns
returns c = first_of_index
