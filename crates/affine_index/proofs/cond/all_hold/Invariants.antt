use Rattle.std.proofs.Common.{◌≡◌, drop, length, IsTrue}
use Rattle.affine_index.specs.Condition.{all_limited, all_scoped}
use Rattle.affine_index.proofs.ConditionLaws.{held_after}
use Rattle.affine_index.proofs.cond.all_hold.Given as goal

abbrev pub invariant-loop-cmp : goal.invariant-loop-cmp
invariant-loop-cmp l = record {
  scoped : IsTrue (all_scoped (length l.sizes) (length l.vars) (drop l.cmp-index l.cmps));
  rest : held_after l.held (all_limited l.sizes l.vars (drop l.cmp-index l.cmps)) ≡ all_limited l.sizes l.vars l.cmps;
}
