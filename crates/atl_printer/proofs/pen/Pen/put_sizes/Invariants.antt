use Rattle.std.proofs.Common.{◌≡◌, drop}
use Rattle.atl_printer.specs.ModulePages.{in_turn, size_page}
use Rattle.atl_printer.proofs.pen.Pen.put_sizes.Given as goal

abbrev pub invariant-loop-size : goal.invariant-loop-size
invariant-loop-size l = in_turn size_page (drop l.size-index l.sizes) l.self ≡ in_turn size_page l.sizes l.fn.self
