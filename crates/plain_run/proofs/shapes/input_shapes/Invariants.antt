use Rattle.std.proofs.Common.{◌≡◌, drop, length, map, take, true}
use Rattle.term_tree.specs.Modules.{extents_at, inputs_scoped}
use Rattle.term_tree.specs.declared.term.InputDecl.{InputDecl}
use Rattle.atl_meaning.specs.Words.{first_big_input}
use Rattle.plain_run.proofs.shapes.input_shapes.Given as goal

abbrev pub invariant-loop-input : goal.invariant-loop-input
invariant-loop-input l = record {
  scoped : inputs_scoped (length l.sizes) (drop l.input-index l.inputs) ≡ true;
  rest : first_big_input (drop l.input-index l.inputs) l.sizes ≡ first_big_input l.inputs l.sizes;
  shapes : l.shapes ≡ map (λ (d : InputDecl). extents_at d.extents l.sizes) (take l.input-index l.inputs);
}
