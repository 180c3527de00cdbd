use Rattle.std.proofs.Common.{◌≡◌, ◌+◌, ◌-◌, ◌≤◌, map}
use Rattle.term_tree.specs.Tensors.{tabulate, total}
use Rattle.atl_meaning.specs.Denoted.{body_in}
use Rattle.atl_meaning.specs.Values.{meant}
use Rattle.atl_meaning.proofs.evaluate.+evaluate.Given as goal

abbrev pub invariant-rows-loop-i : goal.invariant-rows-loop-i
invariant-rows-loop-i l = record {
  vars : l.vars ≡ l.initial.vars;
  bindings : l.bindings ≡ l.initial.bindings;
  rows : map meant l.rows ≡ tabulate l.i (body_in l.sizes l.body l.initial.vars l.initial.bindings);
}

abbrev pub invariant-summed-loop-left : goal.invariant-summed-loop-left
invariant-summed-loop-left l = record {
  within : l.left ≤ l.count;
  vars : l.vars ≡ l.initial.vars;
  bindings : l.bindings ≡ l.initial.bindings;
  sum : meant l.sum ≡ total (meant l.fn.start) (tabulate (l.count - l.left) (λ j. body_in l.sizes l.body l.initial.vars l.initial.bindings (l.left + j)));
}

abbrev pub decreases-summed-loop-left : goal.decreases-summed-loop-left
decreases-summed-loop-left l = l.left
