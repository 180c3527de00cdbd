use Rattle.std.proofs.Common.{◌≡◌, ◌+◌, ◌∷◌, Some}
use Rattle.atl_meaning.specs.Turns.{spent, total_below, turn_fold}
use Rattle.atl_meaning.proofs.turns.+turns.Given as goal

abbrev pub invariant-left_after_loop-loop-i : goal.invariant-left_after_loop-loop-i
invariant-left_after_loop-loop-i l = record {
  vars : l.vars ≡ l.initial.vars;
  left : spent (total_below l.i (λ i. 1 + turn_fold l.sizes l.body (i ∷ l.initial.vars))) l.left ≡ Some l.rest;
}
