use Rattle.first_fault.proofs.WholeBegins.{first_of_term}
use Rattle.first_fault.proofs.laws.term_faults_are_first.Goals as goal

pub returns : goal.returns
returns c = first_of_term
