-- The quotients and products within a form, each before those inside it.
use Rattle.std.specs.Prelude.{List, [], ◌∷◌, ◌++◌}
use Rattle.affine_index.specs.declared.form.Atom.{Atom}
use Rattle.affine_index.specs.declared.form.Atom.TheVariants.{Size, Var, Div, Mul}
use Rattle.affine_index.specs.declared.form.Items.{Items}
use Rattle.affine_index.specs.declared.form.Item.{Item}
use Rattle.affine_index.specs.declared.form.Atom.TheOpen.{Atom-F, Items-F}
use Rattle.affine_index.specs.declared.form.Atom.TheFolds.{fold-Atom, fold-Items}

-- an atom or a form, and the quotients and products within it
pub record Inside (A : Type 0) : Type 0 where
  pub whole : A
  pub parts : List Atom

-- the atoms alone
abbrev pub wholes : List (Inside Atom) → List Atom
wholes [] = []
wholes (p ∷ ps) = p.whole ∷ wholes ps

-- the quotients and products within atoms
abbrev pub all_parts : List (Inside Atom) → List Atom
all_parts [] = []
all_parts (p ∷ ps) = p.parts ++ all_parts ps

-- the items of the atoms alone
abbrev pub whole_items : List (Item (Inside Atom)) → List (Item Atom)
whole_items [] = []
whole_items (t ∷ ts) = record { atom = t.atom.whole; coefficient = t.coefficient } ∷ whole_items ts

-- the quotients and products within the atoms of items
abbrev pub all_item_parts : List (Item (Inside Atom)) → List Atom
all_item_parts [] = []
all_item_parts (t ∷ ts) = t.atom.parts ++ all_item_parts ts

-- a quotient or product stands before those inside it
abbrev pub inside_step : Atom-F (Inside Atom) (Inside Items) → Inside Atom
inside_step (Atom-F.Size s) = record { whole = Size s; parts = [] }
inside_step (Atom-F.Var v) = record { whole = Var v; parts = [] }
inside_step (Atom-F.Div i k) = record { whole = Div i.whole k; parts = Div i.whole k ∷ i.parts }
inside_step (Atom-F.Mul fs) = record { whole = Mul (wholes fs); parts = Mul (wholes fs) ∷ all_parts fs }

-- a form has those of its atoms
abbrev pub inside_items_step : Items-F (Inside Atom) (Inside Items) → Inside Items
inside_items_step i = record { whole = record { terms = whole_items i.terms; constant = i.constant }; parts = all_item_parts i.terms }

-- the quotients and products within an atom, itself first
abbrev pub atom_parts : Atom → List Atom
atom_parts a = (fold-Atom (Inside Atom) (Inside Items) inside_step inside_items_step a).parts

-- the quotients and products within a form
abbrev pub form_parts : Items → List Atom
form_parts i = (fold-Items (Inside Atom) (Inside Items) inside_step inside_items_step i).parts

-- the same of a list of atoms
abbrev pub list_parts : List Atom → List Atom
list_parts [] = []
list_parts (a ∷ as') = atom_parts a ++ list_parts as'

-- the same of a list of items
abbrev pub terms_parts : List (Item Atom) → List Atom
terms_parts [] = []
terms_parts (t ∷ ts) = atom_parts t.atom ++ terms_parts ts
