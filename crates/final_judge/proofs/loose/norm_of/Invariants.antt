use Rattle.std.proofs.Common.{◌≡◌, ◌-◌, ◌^◌, ◌+◌, ◌≤◌, min, drop}
use Rattle.affine_index.specs.Wide.{norm, terms_norm}
use Rattle.final_judge.proofs.loose.norm_of.Given as goal

abbrev pub invariant-loop-at : goal.invariant-loop-at
invariant-loop-at l = record {
  fits : l.total ≤ 2 ^ 128 - 1;
  rest : min (l.total + terms_norm (drop l.at l.form.terms)) (2 ^ 128 - 1) ≡ min (norm l.form) (2 ^ 128 - 1);
}
