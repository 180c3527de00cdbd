use Rattle.std.proofs.Common.{◌≡◌, map, take}
use Rattle.shape_rules.specs.Scopes.{given}
use Rattle.final_rules.specs.Places.{extents_under}
use Rattle.lowering_laws.specs.Lowered.{words_tree}
use Rattle.lowering.proofs.outputs.output_lengths.Given as goal

abbrev pub invariant-loop-output : goal.invariant-loop-output
invariant-loop-output l = l.all ≡ map (λ o. words_tree (extents_under o.term (given l.shapes))) (take l.output-index l.outputs)
