use Rattle.std.proofs.Common.{◌≡◌, drop, length, true}
use Rattle.term_tree.specs.Modules.{inputs_scoped}
use Rattle.atl_meaning.specs.Words.{first_big_input}
use Rattle.atl_meaning.proofs.outputs.first_big_input.Given as goal

abbrev pub invariant-loop-input : goal.invariant-loop-input
invariant-loop-input l = record {
  scoped : inputs_scoped (length l.sizes) (drop l.input-index l.inputs) ≡ true;
  rest : first_big_input (drop l.input-index l.inputs) l.sizes ≡ first_big_input l.inputs l.sizes;
}
