-- A test of every atom and every form within a form.
use Rattle.std.specs.Prelude.{List, [], ◌∷◌, Bool, true, ◌&&◌}
use Rattle.affine_index.specs.declared.form.Atom.{Atom}
use Rattle.affine_index.specs.declared.form.Atom.TheVariants.{Size, Var, Div, Mul}
use Rattle.affine_index.specs.declared.form.Items.{Items}
use Rattle.affine_index.specs.declared.form.Item.{Item}
use Rattle.affine_index.specs.declared.form.Atom.TheOpen.{Atom-F, Items-F}
use Rattle.affine_index.specs.declared.form.Atom.TheFolds.{fold-Atom, fold-Items}

-- an atom, and whether a test holds throughout it
pub record Told (A : Type 0) : Type 0 where
  pub whole : A
  pub holds : Bool

-- the atoms without what is told of them
abbrev pub whole_atoms : List (Told Atom) → List Atom
whole_atoms [] = []
whole_atoms (p ∷ ps) = p.whole ∷ whole_atoms ps

-- the items without what is told of them
abbrev pub whole_items : List (Item (Told Atom)) → List (Item Atom)
whole_items [] = []
whole_items (t ∷ ts) = record { atom = t.atom.whole; coefficient = t.coefficient } ∷ whole_items ts

-- whether all of them hold
abbrev pub all_told : List (Told Atom) → Bool
all_told [] = true
all_told (p ∷ ps) = p.holds && all_told ps

-- whether all atoms of the items hold
abbrev pub all_terms_told : List (Item (Told Atom)) → Bool
all_terms_told [] = true
all_terms_told (t ∷ ts) = t.atom.holds && all_terms_told ts

module _ (atom_good : Atom → Bool) (items_good : Items → Bool) where
  -- an atom is good, and so is all within it
  abbrev pub every_step : Atom-F (Told Atom) (Told Items) → Told Atom
  every_step (Atom-F.Size s) = record { whole = Size s; holds = atom_good (Size s) }
  every_step (Atom-F.Var v) = record { whole = Var v; holds = atom_good (Var v) }
  every_step (Atom-F.Div i k) = record { whole = Div i.whole k; holds = atom_good (Div i.whole k) && i.holds }
  every_step (Atom-F.Mul fs) = record { whole = Mul (whole_atoms fs); holds = atom_good (Mul (whole_atoms fs)) && all_told fs }

  -- a form is good, and so is all within it
  abbrev pub every_items_step : Items-F (Told Atom) (Told Items) → Told Items
  every_items_step i =
      let whole : Items = record { terms = whole_items i.terms; constant = i.constant } in
      record { whole = whole; holds = items_good whole && all_terms_told i.terms }

  -- whether each atom and each form within an atom is good
  abbrev pub atom_every : Atom → Bool
  atom_every a = (fold-Atom (Told Atom) (Told Items) every_step every_items_step a).holds

  -- whether each atom and each form within a form is good
  abbrev pub items_every : Items → Bool
  items_every i = (fold-Items (Told Atom) (Told Items) every_step every_items_step i).holds

  -- the same of a list of atoms
  abbrev pub atoms_every : List Atom → Bool
  atoms_every [] = true
  atoms_every (a ∷ as') = atom_every a && atoms_every as'

  -- the same of a list of items
  abbrev pub terms_every : List (Item Atom) → Bool
  terms_every [] = true
  terms_every (t ∷ ts) = atom_every t.atom && terms_every ts
