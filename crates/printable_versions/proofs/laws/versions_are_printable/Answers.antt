use Rattle.printable_versions.proofs.Versions.{versions_printable}
use Rattle.printable_versions.proofs.laws.versions_are_printable.Goals as goal

pub returns : goal.returns
returns c = versions_printable
