use Rattle.std.proofs.Common.{◌≡◌, [], drop, map, take, true}
use Rattle.term_tree.specs.Meaning.{extents_of}
use Rattle.atl_meaning.specs.Denoted.{outputs_fit, outputs_tensors, scope}
use Rattle.atl_meaning.specs.Exact.{outputs_exact}
use Rattle.atl_meaning.specs.Values.{meant}
use Rattle.atl_meaning.proofs.outputs.evaluated.Given as goal

abbrev pub invariant-loop-output : goal.invariant-loop-output
invariant-loop-output l = record {
  vars : l.vars ≡ [];
  bindings : l.bindings ≡ l.initial.bindings;
  exact : outputs_exact l.sizes (drop l.output-index l.outputs) ≡ true;
  fits : outputs_fit l.sizes (drop l.output-index l.outputs) (extents_of (scope l.initial.bindings)) ≡ true;
  tensors : map meant l.tensors ≡ outputs_tensors l.sizes (take l.output-index l.outputs) (scope l.initial.bindings);
}
