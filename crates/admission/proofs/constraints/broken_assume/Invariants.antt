use Rattle.std.proofs.Common.{◌≡◌, ◌+◌, drop, length, map, true}
use Rattle.affine_index.specs.Condition.{all_scoped}
use Rattle.admission.specs.Admission.{assume_holds, first_false}
use Rattle.admission.proofs.constraints.broken_assume.Given as goal

abbrev pub invariant-loop-at : goal.invariant-loop-at
invariant-loop-at l = record {
  scoped : all_scoped (length l.sizes) 0 (drop l.at l.assumes) ≡ true;
  before : first_false l.first (map (assume_holds l.sizes) l.assumes) ≡ first_false (l.first + l.at) (map (assume_holds l.sizes) (drop l.at l.assumes));
}
