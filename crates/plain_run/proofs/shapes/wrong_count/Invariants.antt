use Rattle.std.proofs.Common.{◌≡◌, drop, map}
use Rattle.plain_run.specs.Shapes.{capped_count, wrong_count}
use Rattle.plain_run.proofs.shapes.wrong_count.Given as goal

abbrev pub invariant-loop-at : goal.invariant-loop-at
invariant-loop-at l = wrong_count l.at (map capped_count (drop l.at l.shapes)) (drop l.at l.inputs) ≡ wrong_count 0 (map capped_count l.shapes) l.inputs
