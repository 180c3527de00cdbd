use Rattle.std.proofs.Common.{◌≡◌, take}
use Rattle.source_grammar.specs.Source.{nodes}
use Rattle.trial_run.proofs.sums.nodes_of.Given as goal

abbrev pub invariant-loop-output : goal.invariant-loop-output
invariant-loop-output l = l.total ≡ nodes (take l.output-index l.outputs)
