use Rattle.std.proofs.Common.{◌≡◌, true, drop, length, map}
use Rattle.shape_rules.specs.Scopes.{all_free}
use Rattle.final_rules.specs.Printed.{length_printed}
use Rattle.final_rules.specs.Printing.{sized}
use Rattle.final_rules.specs.Rules.{nowhere_yet}
use Rattle.index_limits.specs.Ready.{AllInScope}
use Rattle.index_limits.proofs.modules.input_lengths.Given as goal

abbrev pub invariant-loop-input : goal.invariant-loop-input
invariant-loop-input l = record {
  free : all_free (map (λ d. d.extents) (drop l.input-index l.inputs)) ≡ true;
  ready : AllInScope (length l.maxima) (map (λ d. length_printed d.extents nowhere_yet) (drop l.input-index l.inputs));
  rest : sized l.maxima (map (λ d. length_printed d.extents nowhere_yet) (drop l.input-index l.inputs)) l.number
      ≡ sized l.maxima (map (λ d. length_printed d.extents nowhere_yet) l.inputs) l.fn.first;
}
