use Rattle.std.proofs.Common.{◌≡◌, drop}
use Rattle.atl_printer.specs.ModulePages.{in_turn, assume_page}
use Rattle.atl_printer.proofs.pen.Pen.put_assumes.Given as goal

abbrev pub invariant-loop-assume : goal.invariant-loop-assume
invariant-loop-assume l = in_turn (assume_page l.sizes) (drop l.assume-index l.assumes) l.self ≡ in_turn (assume_page l.sizes) l.assumes l.fn.self
