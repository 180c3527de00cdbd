use Rattle.std.proofs.Common.{◌≡◌, [], drop, length, true}
use Rattle.atl_meaning.specs.Scopes.{outputs_ready}
use Rattle.atl_meaning.specs.Surveyed.{outputs_surveyed}
use Rattle.atl_meaning.proofs.outputs.first_big_node.Given as goal

abbrev pub invariant-loop-output : goal.invariant-loop-output
invariant-loop-output l = record {
  vars : l.vars ≡ [];
  shapes : l.shapes ≡ l.initial.shapes;
  ready : outputs_ready (length l.sizes) (drop l.output-index l.outputs) ≡ true;
  rest : outputs_surveyed l.sizes (drop l.output-index l.outputs) l.initial.shapes ≡ outputs_surveyed l.sizes l.outputs l.initial.shapes;
}
