use Rattle.std.proofs.Common.{◌≤◌}
use Rattle.shape_rules.specs.Faults.{AllBefore}
use Rattle.term_tree.specs.Counts.{node_count}
use Rattle.final_rows.proofs.judged.are_small.Given as goal

abbrev pub invariant-loop-output : goal.invariant-loop-output
invariant-loop-output l = AllBefore (λ o. node_count o.term ≤ 20000) l.output-index l.outputs
