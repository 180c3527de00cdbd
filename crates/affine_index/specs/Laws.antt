-- Laws of forms that hold of all of them.
use Rattle.std.specs.Prelude.{◌≡◌, ℕ, ◌≤◌, true, List, length, pos, Some}
use Rattle.affine_index.specs.Limited.{items_scoped}
use Rattle.affine_index.specs.Magnitude.{magnitude}
use Rattle.affine_index.specs.Normal.{atom_is_ordered}
use Rattle.affine_index.specs.Printed.{WithinMaxima, printed_value}
use Rattle.affine_index.specs.Value.{atom_value, items_value}
use Rattle.affine_index.specs.declared.form.Atom.{Atom}
use Rattle.affine_index.specs.declared.form.Items.{Items}

-- an atom of a normal form is at least 0 at all sizes and variables
abbrev pub AtomsAtLeastZero : Type 0
AtomsAtLeastZero = (a : Atom) (sizes vars : List ℕ) → atom_is_ordered a ≡ true → (n : ℕ) × (atom_value sizes vars a ≡ pos n)

-- where the magnitude at maxima of at least 1 is within a limit, the text computes the value at sizes and variables within the maxima, and no partial result
-- passes the limit in size
abbrev pub PrintsWithin : Items → Type 0
PrintsWithin i =
    (limit : ℕ) (sizes vars maxima vars_maxima : List ℕ) → WithinMaxima sizes maxima → WithinMaxima vars vars_maxima
    → items_scoped (length maxima) (length vars_maxima) i ≡ true → magnitude maxima vars_maxima i ≤ limit
    → printed_value limit sizes vars i ≡ Some (items_value sizes vars i)
