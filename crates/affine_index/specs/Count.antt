-- How many atoms a form holds at every depth.
use Rattle.std.specs.Prelude.{ℕ, ◌+◌, List, [], ◌∷◌}
use Rattle.affine_index.specs.declared.form.Atom.{Atom}
use Rattle.affine_index.specs.declared.form.Items.{Items}
use Rattle.affine_index.specs.declared.form.Item.{Item}
use Rattle.affine_index.specs.declared.form.Atom.TheOpen.{Atom-F, Items-F}
use Rattle.affine_index.specs.declared.form.Atom.TheFolds.{fold-Atom, fold-Items}

-- the sum of numbers
abbrev pub total : List ℕ → ℕ
total [] = 0
total (n ∷ ns) = n + total ns

-- the sum of the numbers that stand at the atoms
abbrev pub total_of_firsts : List (Item ℕ) → ℕ
total_of_firsts [] = 0
total_of_firsts (t ∷ ts) = t.atom + total_of_firsts ts

-- a quotient counts itself and its dividend, a product its factors
abbrev pub count_step : Atom-F ℕ ℕ → ℕ
count_step (Atom-F.Size s) = 1
count_step (Atom-F.Var v) = 1
count_step (Atom-F.Div items k) = items + 1
count_step (Atom-F.Mul factors) = total factors

-- a form counts its atoms
abbrev pub count_items_step : Items-F ℕ ℕ → ℕ
count_items_step i = total_of_firsts i.terms

-- the number of atoms in an atom
abbrev pub atom_count : Atom → ℕ
atom_count = fold-Atom ℕ ℕ count_step count_items_step

-- the number of atoms in a form
abbrev pub items_count : Items → ℕ
items_count = fold-Items ℕ ℕ count_step count_items_step

-- the number of atoms in a list of items
abbrev pub terms_count : List (Item Atom) → ℕ
terms_count [] = 0
terms_count (t ∷ ts) = atom_count t.atom + terms_count ts
