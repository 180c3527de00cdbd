-- What a form with 0 for an atom has of the form.
use Rattle.std.specs.Prelude.{◌≡◌, ℕ, true, List, pos, Some}
use Rattle.affine_index.specs.Limited.{items_scoped}
use Rattle.affine_index.specs.Value.{atom_value, items_value}
use Rattle.affine_index.specs.declared.form.Atom.{Atom}
use Rattle.affine_index.specs.declared.form.Items.{Items}
use Rattle.zeroed_forms.specs.Zeroed.{zeroed}

-- its value, wherever the value of the atom is 0
abbrev pub ZeroedKeepsValue : Type 0
ZeroedKeepsValue = (s r : List ℕ) (z : Atom) (x y : Items) → atom_value s r z ≡ pos 0 → zeroed z x ≡ Some y → items_value s r y ≡ items_value s r x

-- no other sizes and variables
abbrev pub ZeroedKeepsScope : Type 0
ZeroedKeepsScope = (sizes vars : ℕ) (z : Atom) (x y : Items) → items_scoped sizes vars x ≡ true → zeroed z x ≡ Some y → items_scoped sizes vars y ≡ true
