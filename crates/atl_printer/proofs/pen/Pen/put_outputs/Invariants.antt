use Rattle.std.proofs.Common.{◌≡◌, drop}
use Rattle.atl_printer.specs.ModulePages.{in_turn, output_page}
use Rattle.atl_printer.proofs.pen.Pen.put_outputs.Given as goal

abbrev pub invariant-loop-output : goal.invariant-loop-output
invariant-loop-output l = in_turn (output_page l.sizes l.inputs) (drop l.output-index l.outputs) l.self ≡ in_turn
    (output_page l.sizes l.inputs) l.outputs l.fn.self
