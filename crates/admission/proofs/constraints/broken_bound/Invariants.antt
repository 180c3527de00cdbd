use Rattle.std.proofs.Common.{◌≡◌, ◌+◌, ◌≤◌, drop, length}
use Rattle.admission.specs.Admission.{first_false, within}
use Rattle.admission.proofs.constraints.broken_bound.Given as goal

abbrev pub invariant-loop-at : goal.invariant-loop-at
invariant-loop-at l = record {
  same : length l.declared ≡ length l.sizes;
  few : l.at ≤ length l.sizes;
  before : first_false 1 (within l.declared l.sizes) ≡ first_false (1 + l.at) (within (drop l.at l.declared) (drop l.at l.sizes));
}
