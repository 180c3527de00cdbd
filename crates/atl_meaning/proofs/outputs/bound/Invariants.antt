use Rattle.std.proofs.Common.{◌≡◌, ◌≤◌, drop, length, map, min, take, true}
use Rattle.term_tree.specs.Modules.{inputs_bound}
use Rattle.atl_meaning.specs.Denoted.{scope}
use Rattle.atl_meaning.specs.Exact.{inputs_counted}
use Rattle.atl_meaning.specs.Values.{meant}
use Rattle.atl_meaning.proofs.outputs.bound.Given as goal

abbrev pub invariant-loop-at : goal.invariant-loop-at
invariant-loop-at l = record {
  within : l.at ≤ min (length l.declared) (length l.inputs);
  counted : inputs_counted l.sizes (drop l.at l.declared) ≡ true;
  bound : scope l.bindings.items ≡ inputs_bound (take l.at l.declared) l.sizes (map meant (take l.at l.inputs));
}
