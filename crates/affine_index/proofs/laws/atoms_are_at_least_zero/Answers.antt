use Rattle.affine_index.proofs.ZeroLaws.{atom_natural}
use Rattle.affine_index.proofs.laws.atoms_are_at_least_zero.Goals as goal

pub returns : goal.returns
returns c = λ a s v o. atom_natural s v a o
