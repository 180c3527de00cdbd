use Rattle.atl_printer.proofs.ReadModules.{read-is-printable}
use Rattle.atl_printer.proofs.laws.what_is_read_is_printable.Goals as goal

pub returns : goal.returns
returns c = read-is-printable
