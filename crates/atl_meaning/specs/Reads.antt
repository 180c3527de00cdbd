-- What is read of a term.
use Rattle.std.specs.Prelude.{◌≡◌}
use Rattle.term_tree.specs.Tensors.{Tensor}
use Rattle.atl_meaning.specs.Values.{meant}
use Rattle.atl_meaning.specs.declared.read.Read.{Read}
use Rattle.atl_meaning.specs.declared.read.Read.TheVariants.{Row, Missing, Computed}

-- the row itself; the row is zeros where it is missing; nothing is said where the tensor is computed
abbrev pub IsRead : (row zeros : Tensor) → Read → Type 0
IsRead row zeros (Row v) = meant v ≡ row
IsRead row zeros Missing = row ≡ zeros
IsRead row zeros Computed = Unit {0}
