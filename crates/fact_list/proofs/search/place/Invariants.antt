use Rattle.std.proofs.Common.{◌-◌, ◌≤◌, drop, length, take}
use Rattle.affine_index.proofs.Factors.{AtMost}
use Rattle.affine_index.proofs.Induction.{Each}
use Rattle.fact_list.specs.Sorted.{less_than}
use Rattle.fact_list.proofs.search.place.Given as goal

abbrev pub invariant-loop-low : goal.invariant-loop-low
invariant-loop-low l = record {
  ordered : l.low ≤ l.high;
  within : l.high ≤ length l.list;
  before : Each (less_than l.atom) (take l.low l.list);
  after : Each (AtMost l.atom) (drop l.high l.list);
}

abbrev pub decreases-loop-low : goal.decreases-loop-low
decreases-loop-low l = l.high - l.low
