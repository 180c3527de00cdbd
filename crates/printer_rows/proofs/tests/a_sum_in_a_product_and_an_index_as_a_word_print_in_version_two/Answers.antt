use Rattle.std.proofs.Common.{sym, subst}
use Rattle.atl_printer.specs.PrintableModule.{IsPrintableModule}
use Rattle.printer_rows.proofs.Printable.{paired-printable}
use Rattle.printer_rows.proofs.tests.a_sum_in_a_product_and_an_index_as_a_word_print_in_version_two.Goals as goal

pub print_module-requires : goal.print_module-requires
print_module-requires g c = subst IsPrintableModule (sym (c.in_ok-source.ensures {u = tt})) paired-printable
