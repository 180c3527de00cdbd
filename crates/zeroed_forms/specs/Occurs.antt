-- Whether a quotient or product stands within a form, at any depth.
use Rattle.std.specs.Prelude.{List, [], ◌∷◌, Bool, false, ◌||◌}
use Rattle.affine_index.specs.declared.form.Atom.{Atom}
use Rattle.affine_index.specs.declared.form.Item.{Item}
use Rattle.affine_index.specs.declared.form.Items.{Items}
use Rattle.fact_list.specs.Atoms.{stands_in}
use Rattle.fact_list.specs.Within.{atom_parts, form_parts}

-- within an atom, or the atom itself
abbrev pub atom_has : Atom → Atom → Bool
atom_has z a = stands_in z (atom_parts a)

-- within a form
abbrev pub occurs : Atom → Items → Bool
occurs z x = stands_in z (form_parts x)

-- within an atom of a list
abbrev pub atoms_have : Atom → List Atom → Bool
atoms_have z [] = false
atoms_have z (a ∷ as') = atom_has z a || atoms_have z as'

-- within the atom of an item of a list
abbrev pub terms_have : Atom → List (Item Atom) → Bool
terms_have z [] = false
terms_have z (t ∷ ts) = atom_has z t.atom || terms_have z ts
