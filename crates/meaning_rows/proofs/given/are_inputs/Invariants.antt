use Rattle.std.proofs.Common.{◌≡◌, ◌≤◌, drop, length, map}
use Rattle.atl_meaning.specs.Values.{meant}
use Rattle.term_tree.specs.Modules.{AreInputs}
use Rattle.meaning_rows.proofs.given.are_inputs.Given as goal

abbrev pub invariant-loop-at : goal.invariant-loop-at
invariant-loop-at l = record {
  same : length l.declared ≡ length l.inputs;
  within : l.at ≤ length l.inputs;
  rest : AreInputs (drop l.at l.declared) l.sizes (map meant (drop l.at l.inputs)) → AreInputs l.declared l.sizes (map meant l.inputs);
}
