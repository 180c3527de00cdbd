use Rattle.std.proofs.Common.{◌≡◌, true, drop, length}
use Rattle.affine_index.specs.Condition.{all_scoped}
use Rattle.final_rules.specs.Printing.{compared}
use Rattle.final_rules.proofs.printing.compared.Given as goal

abbrev pub invariant-loop-cmp : goal.invariant-loop-cmp
invariant-loop-cmp l = record {
  scoped : all_scoped (length l.maxima) (length l.vars) (drop l.cmp-index l.cmps) ≡ true;
  rest : compared l.maxima l.vars (drop l.cmp-index l.cmps) l.number ≡ compared l.maxima l.vars l.cmps l.fn.first;
}
