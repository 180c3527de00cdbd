use Rattle.std.proofs.Common.{◌≡◌, drop}
use Rattle.atl_printer.specs.ModulePages.{in_turn, input_page}
use Rattle.atl_printer.proofs.pen.Pen.put_inputs.Given as goal

abbrev pub invariant-loop-input : goal.invariant-loop-input
invariant-loop-input l = in_turn (input_page l.sizes) (drop l.input-index l.inputs) l.self ≡ in_turn (input_page l.sizes) l.inputs l.fn.self
