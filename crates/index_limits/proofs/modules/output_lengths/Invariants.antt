use Rattle.std.proofs.Common.{◌≡◌, drop, length}
use Rattle.region_plan.specs.Shaped.{EachShaped}
use Rattle.shape_rules.specs.Scopes.{given}
use Rattle.final_rules.specs.Printing.{sized}
use Rattle.index_limits.specs.Modules.{lengths_printed}
use Rattle.index_limits.specs.Ready.{AllInScope}
use Rattle.index_limits.proofs.modules.output_lengths.Given as goal

abbrev pub invariant-loop-output : goal.invariant-loop-output
invariant-loop-output l = record {
  shaped : EachShaped l.shapes (drop l.output-index l.outputs);
  ready : AllInScope (length l.maxima) (lengths_printed (given l.shapes) (drop l.output-index l.outputs));
  rest : sized l.maxima (lengths_printed (given l.shapes) (drop l.output-index l.outputs)) l.number
      ≡ sized l.maxima (lengths_printed (given l.shapes) l.outputs) l.fn.first;
}
