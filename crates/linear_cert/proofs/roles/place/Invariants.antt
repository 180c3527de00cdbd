use Rattle.std.proofs.Common.{◌-◌, ◌≤◌, drop, length, take}
use Rattle.affine_index.proofs.Factors.{AtMost}
use Rattle.affine_index.proofs.Induction.{Each}
use Rattle.fact_list.specs.Sorted.{less_than}
use Rattle.linear_cert.specs.Roles.{keys, role_atom, wanted_role}
use Rattle.linear_cert.proofs.roles.place.Given as goal

abbrev pub invariant-loop-low : goal.invariant-loop-low
invariant-loop-low l = record {
  ordered : l.low ≤ l.high;
  within : l.high ≤ length l.places;
  before : Each (less_than (role_atom (wanted_role l.wanted))) (take l.low (keys l.facts l.places));
  after : Each (AtMost (role_atom (wanted_role l.wanted))) (drop l.high (keys l.facts l.places));
}

abbrev pub decreases-loop-low : goal.decreases-loop-low
decreases-loop-low l = l.high - l.low
