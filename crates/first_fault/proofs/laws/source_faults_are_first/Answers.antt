use Rattle.first_fault.proofs.WholeBegins.{first_of_source}
use Rattle.first_fault.proofs.laws.source_faults_are_first.Goals as goal

pub returns : goal.returns
returns c = first_of_source
