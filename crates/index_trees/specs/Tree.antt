-- The tree that a normal form prints as: its items with positive coefficient in order, the constant last among them,
-- joined by +, then those with negative coefficient, the constant last, each after -.
use Rattle.std.specs.Prelude.{ℕ, ◌-◌, ◌^◌, ℤ, pos, negsuc, unsigned_abs, Bool, true, false, ◌&&◌, ◌==◌, nat_lt, if◌then◌else◌}
use Rattle.std.specs.Prelude.{List, [], ◌∷◌, Option, Some, None}
use Rattle.affine_index.specs.Limited.{all_true}
use Rattle.affine_index.specs.Printed.{is_positive}
use Rattle.affine_index.specs.declared.form.Atom.{Atom}
use Rattle.affine_index.specs.declared.form.Items.{Items}
use Rattle.affine_index.specs.declared.form.Item.{Item}
use Rattle.affine_index.specs.declared.form.Atom.TheOpen.{Atom-F, Items-F}
use Rattle.affine_index.specs.declared.form.Atom.TheFolds.{fold-Atom, fold-Items}
use Rattle.loop_lang.specs.declared.index.Iexp.{Iexp}
use Rattle.loop_lang.specs.declared.index.Iexp.TheVariants.{Lit, Size, Loop, Add, Sub, Mul, Div}

-- a product so far, if any, times more
abbrev pub Joins : Type 0
Joins = Option Iexp → Option Iexp

-- one more factor, to the left of which the product so far stands
abbrev pub with_factor : Option Iexp → Iexp → Option Iexp
with_factor None x = Some x
with_factor (Some a) x = Some (Mul a x)

-- one factor after another
abbrev pub through : List Joins → Joins
through [] p = p
through (f ∷ fs) p = through fs (f p)

-- one more summand, to the left of which the sum so far stands
abbrev pub with_summand : Option Iexp → Iexp → Option Iexp
with_summand None x = Some x
with_summand (Some a) x = Some (Add a x)

-- a number below 0
abbrev pub is_negative : ℤ → Bool
is_negative (pos n) = false
is_negative (negsuc n) = true

-- the tree, or that of a number where there is none
abbrev pub or_number : ℤ → Option Iexp → Iexp
or_number n None = Lit n
or_number n (Some x) = x

-- the size of a coefficient as a factor, left out where it is 1
abbrev pub leading : ℕ → Option Iexp
leading n = if n == 1 then None else Some (Lit (pos n))

-- an item: the size of its coefficient times its factors
abbrev pub item_tree : ℤ → Joins → Iexp
item_tree c f = or_number (pos 1) (f (leading (unsigned_abs c)))

-- an item is added where its coefficient is positive
abbrev pub plus_item : ℤ → Joins → Option Iexp → Option Iexp
plus_item c f a = if is_positive c then with_summand a (item_tree c f) else a

-- an item is subtracted where its coefficient is negative
abbrev pub minus_item : ℤ → Joins → Iexp → Iexp
minus_item c f a = if is_negative c then Sub a (item_tree c f) else a

-- the items with positive coefficient, added
abbrev pub plus_items : List (Item Joins) → Option Iexp → Option Iexp
plus_items [] a = a
plus_items (t ∷ ts) a = plus_items ts (plus_item t.coefficient t.atom a)

-- the items with negative coefficient, subtracted
abbrev pub minus_items : List (Item Joins) → Iexp → Iexp
minus_items [] a = a
minus_items (t ∷ ts) a = minus_items ts (minus_item t.coefficient t.atom a)

-- the constant is added where it is positive
abbrev pub plus_constant : ℤ → Option Iexp → Option Iexp
plus_constant c a = if is_positive c then with_summand a (Lit c) else a

-- the size of the constant is subtracted where it is negative
abbrev pub minus_constant : ℤ → Iexp → Iexp
minus_constant c a = if is_negative c then Sub a (Lit (pos (unsigned_abs c))) else a

-- under so many loops; variables are counted from the innermost, loops from the outermost
module _ (loops : ℕ) where
  -- the factors of one level of an atom
  abbrev pub factor_step : Atom-F Joins Iexp → Joins
  factor_step (Atom-F.Size s) p = with_factor p (Size s)
  factor_step (Atom-F.Var v) p = with_factor p (Loop (loops - 1 - v))
  factor_step (Atom-F.Div r k) p = with_factor p (Div r k)
  factor_step (Atom-F.Mul fs) p = through fs p

  -- the items and the constant of one level of a form
  abbrev pub tree_step : Items-F Joins Iexp → Iexp
  tree_step i = minus_constant i.constant (minus_items i.terms (or_number (pos 0) (plus_constant i.constant (plus_items i.terms None))))

  -- the factors of an atom after a product so far
  abbrev pub joined_atom : Atom → Joins
  joined_atom = fold-Atom Joins Iexp factor_step tree_step

  -- the tree of a form
  abbrev pub index_tree : Items → Iexp
  index_tree = fold-Items Joins Iexp factor_step tree_step

  -- the same of lists of atoms and items
  abbrev pub joined_atoms : List Atom → Joins
  joined_atoms [] p = p
  joined_atoms (a ∷ as') p = joined_atoms as' (joined_atom a p)

  -- the items of a form with positive coefficient, added
  abbrev pub plus_terms : List (Item Atom) → Option Iexp → Option Iexp
  plus_terms [] a = a
  plus_terms (t ∷ ts) a = plus_terms ts (plus_item t.coefficient (joined_atom t.atom) a)

  -- the items of a form with negative coefficient, subtracted
  abbrev pub minus_terms : List (Item Atom) → Iexp → Iexp
  minus_terms [] a = a
  minus_terms (t ∷ ts) a = minus_terms ts (minus_item t.coefficient (joined_atom t.atom) a)

  -- the tree of a form behind a first summand, if any
  abbrev pub tree_after : Option Iexp → Items → Iexp
  tree_after a i = minus_constant i.constant (minus_terms i.terms (or_number (pos 0) (plus_constant i.constant (plus_terms i.terms a))))

-- whether each number of a form fits 64 signed bits at every depth, and each divisor is above 0
abbrev pub number_fits : ℤ → Bool
number_fits c = nat_lt (unsigned_abs c) (2 ^ 63)

-- whether each coefficient fits and each atom does
abbrev pub terms_step : List (Item Bool) → Bool
terms_step [] = true
terms_step (t ∷ ts) = (number_fits t.coefficient && t.atom) && terms_step ts

-- one level of an atom
abbrev pub atom_fits_step : Atom-F Bool Bool → Bool
atom_fits_step (Atom-F.Size s) = true
atom_fits_step (Atom-F.Var v) = true
atom_fits_step (Atom-F.Div r k) = (nat_lt 0 k && nat_lt k (2 ^ 63)) && r
atom_fits_step (Atom-F.Mul fs) = all_true fs

-- one level of a form
abbrev pub form_fits_step : Items-F Bool Bool → Bool
form_fits_step i = number_fits i.constant && terms_step i.terms

-- the same of an atom
abbrev pub atom_fits : Atom → Bool
atom_fits = fold-Atom Bool Bool atom_fits_step form_fits_step

-- the same of a form
abbrev pub form_fits : Items → Bool
form_fits = fold-Items Bool Bool atom_fits_step form_fits_step

-- the same of a list of atoms
abbrev pub atoms_fit : List Atom → Bool
atoms_fit [] = true
atoms_fit (a ∷ as') = atom_fits a && atoms_fit as'

-- the same of a list of items
abbrev pub terms_fit : List (Item Atom) → Bool
terms_fit [] = true
terms_fit (t ∷ ts) = (number_fits t.coefficient && atom_fits t.atom) && terms_fit ts
