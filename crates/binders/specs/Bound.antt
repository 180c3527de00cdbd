-- The variable numbers of a form are below its bound.
use Rattle.std.specs.Prelude.{ℕ, ◌+◌, max, List, [], ◌∷◌}
use Rattle.affine_index.specs.declared.form.Atom.{Atom}
use Rattle.affine_index.specs.declared.form.Item.{Item}
use Rattle.affine_index.specs.declared.form.Items.{Items}
use Rattle.affine_index.specs.declared.form.Atom.TheOpen.{Atom-F, Items-F}
use Rattle.affine_index.specs.declared.form.Atom.TheFolds.{fold-Atom, fold-Items}

-- the largest of some numbers, or 0
abbrev pub largest : List ℕ → ℕ
largest [] = 0
largest (n ∷ ns) = max n (largest ns)

-- the largest of the numbers that stand at atoms, or 0
abbrev pub largest_first : List (Item ℕ) → ℕ
largest_first [] = 0
largest_first (t ∷ ts) = max t.atom (largest_first ts)

-- one more than a variable's number, and the largest of the parts
abbrev pub bound_step : Atom-F ℕ ℕ → ℕ
bound_step (Atom-F.Size s) = 0
bound_step (Atom-F.Var v) = v + 1
bound_step (Atom-F.Div i k) = i
bound_step (Atom-F.Mul factors) = largest factors

-- the largest of the atoms
abbrev pub bound_items_step : Items-F ℕ ℕ → ℕ
bound_items_step i = largest_first i.terms

-- one more than the largest number of a variable in an atom, 0 without variables
abbrev pub atom_bound : Atom → ℕ
atom_bound = fold-Atom ℕ ℕ bound_step bound_items_step

-- the same of a form
abbrev pub form_bound : Items → ℕ
form_bound = fold-Items ℕ ℕ bound_step bound_items_step

-- the same of a list of items
abbrev pub terms_bound : List (Item Atom) → ℕ
terms_bound [] = 0
terms_bound (t ∷ ts) = max (atom_bound t.atom) (terms_bound ts)
