use Rattle.shape_rules.proofs.ModuleLaws.{sound_shapes, sound_tensors}
use Rattle.shape_rules.proofs.laws.shapes_are_those_of_the_meaning.Goals as goal

pub returns : goal.returns
returns c = record {
  shapes = sound_shapes;
  tensors = sound_tensors;
}
