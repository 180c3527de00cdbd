use Rattle.first_fault.proofs.WholeBegins.{first_of_extent}
use Rattle.first_fault.proofs.laws.extent_faults_are_first.Goals as goal

pub returns : goal.returns
returns c = first_of_extent
