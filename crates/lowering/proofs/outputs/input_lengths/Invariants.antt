use Rattle.std.proofs.Common.{◌≡◌, map, take}
use Rattle.lowering_laws.specs.Lowered.{words_tree}
use Rattle.lowering.proofs.outputs.input_lengths.Given as goal

abbrev pub invariant-loop-input : goal.invariant-loop-input
invariant-loop-input l = l.all ≡ map (λ d. words_tree d.extents) (take l.input-index l.inputs)
