use Rattle.std.proofs.Common.{sym, subst}
use Rattle.atl_printer.specs.PrintableModule.{IsPrintableModule}
use Rattle.printer_rows.proofs.Printable.{printable}
use Rattle.printer_rows.proofs.tests.a_vector_doubled_prints_as_five_lines.Goals as goal

pub print_module-requires : goal.print_module-requires
print_module-requires g c = subst IsPrintableModule (sym (c.in_ok-source.ensures {u = tt})) printable
