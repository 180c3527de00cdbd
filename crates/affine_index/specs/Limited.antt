-- The value as `value` computes it, which gives up at 2^120.
use Rattle.std.specs.Prelude.{ℕ, ◌^◌, List, [], ◌∷◌, slice_index, ℤ, pos, ◌+ℤ◌, ◌*ℤ◌, Option, Some, None, if◌then◌else◌, nat_lt, Bool, true, ◌&&◌}
use Rattle.std.specs.Option.{option_and_then}
use Rattle.std.specs.Int.{int_div_euclid}
use Rattle.std.specs.Int.RustNames.{unsigned_abs}
use Rattle.affine_index.specs.declared.form.Atom.{Atom}
use Rattle.affine_index.specs.declared.form.Items.{Items}
use Rattle.affine_index.specs.declared.form.Item.{Item}
use Rattle.affine_index.specs.declared.form.Atom.TheOpen.{Atom-F, Items-F}
use Rattle.affine_index.specs.declared.form.Atom.TheFolds.{fold-Atom, fold-Items}

-- a number below 2^120 in size
abbrev pub limited : ℤ → Option ℤ
limited z = if nat_lt (unsigned_abs z) (2 ^ 120) then Some z else None

-- a number taken through each factor in turn
abbrev pub through : List (ℤ → Option ℤ) → ℤ → Option ℤ
through [] c = Some c
through (f ∷ fs) c = option_and_then (through fs) (f c)

-- a number and another, where there is one
abbrev pub plus : ℤ → Option ℤ → Option ℤ
plus total None = None
plus total (Some v) = limited (total +ℤ v)

-- each coefficient taken through its factors, and added
abbrev pub added : List (Item (ℤ → Option ℤ)) → ℤ → Option ℤ
added [] total = Some total
added (t ∷ ts) total = option_and_then (added ts) (plus total (t.atom t.coefficient))

module _ (sizes vars : List ℕ) where
  -- a number times an atom of values
  abbrev pub times_step : Atom-F (ℤ → Option ℤ) (Option ℤ) → ℤ → Option ℤ
  times_step (Atom-F.Size s) c = limited (c *ℤ pos (slice_index sizes s))
  times_step (Atom-F.Var v) c = limited (c *ℤ pos (slice_index vars v))
  times_step (Atom-F.Div items k) c = option_and_then (λ v. limited (c *ℤ int_div_euclid v (pos k))) items
  times_step (Atom-F.Mul factors) c = through factors c

  -- the items, then the constant
  abbrev pub total_step : Items-F (ℤ → Option ℤ) (Option ℤ) → Option ℤ
  total_step i = plus i.constant (added i.terms (pos 0))

  -- a number times an atom
  abbrev pub times : Atom → ℤ → Option ℤ
  times = fold-Atom (ℤ → Option ℤ) (Option ℤ) times_step total_step

  -- the value of a form, or None where a partial result is 2^120 or more in size
  abbrev pub limited_value : Items → Option ℤ
  limited_value = fold-Items (ℤ → Option ℤ) (Option ℤ) times_step total_step

  -- a number times the atoms of a list in turn
  abbrev pub times_all : List Atom → ℤ → Option ℤ
  times_all [] c = Some c
  times_all (a ∷ as') c = option_and_then (times_all as') (times a c)

  -- a number and the items of a list in turn
  abbrev pub added_all : List (Item Atom) → ℤ → Option ℤ
  added_all [] total = Some total
  added_all (t ∷ ts) total = option_and_then (added_all ts) (plus total (times t.atom t.coefficient))

-- whether all are true
abbrev pub all_true : List Bool → Bool
all_true [] = true
all_true (b ∷ bs) = b && all_true bs

-- whether all atoms are true
abbrev pub all_firsts : List (Item Bool) → Bool
all_firsts [] = true
all_firsts (t ∷ ts) = t.atom && all_firsts ts

module _ (sizes vars : ℕ) where
  -- a size is below the first number, a variable below the second
  abbrev pub scoped_step : Atom-F Bool Bool → Bool
  scoped_step (Atom-F.Size s) = nat_lt s sizes
  scoped_step (Atom-F.Var v) = nat_lt v vars
  scoped_step (Atom-F.Div items k) = items
  scoped_step (Atom-F.Mul factors) = all_true factors

  -- each atom is scoped
  abbrev pub scoped_items_step : Items-F Bool Bool → Bool
  scoped_items_step i = all_firsts i.terms

  -- whether each number of a size and of a variable in an atom is below these
  abbrev pub atom_scoped : Atom → Bool
  atom_scoped = fold-Atom Bool Bool scoped_step scoped_items_step

  -- whether each number of a size and of a variable in a form is below these
  abbrev pub items_scoped : Items → Bool
  items_scoped = fold-Items Bool Bool scoped_step scoped_items_step

  -- the same of a list of atoms
  abbrev pub atoms_scoped : List Atom → Bool
  atoms_scoped [] = true
  atoms_scoped (a ∷ as') = atom_scoped a && atoms_scoped as'

  -- the same of a list of items
  abbrev pub terms_scoped : List (Item Atom) → Bool
  terms_scoped [] = true
  terms_scoped (t ∷ ts) = atom_scoped t.atom && terms_scoped ts

  -- scoped, and each divisor is above 0
  abbrev pub ready_step : Atom-F Bool Bool → Bool
  ready_step (Atom-F.Size s) = nat_lt s sizes
  ready_step (Atom-F.Var v) = nat_lt v vars
  ready_step (Atom-F.Div items k) = nat_lt 0 k && items
  ready_step (Atom-F.Mul factors) = all_true factors

  -- whether an atom can be computed: it is scoped, and each divisor is above 0
  abbrev pub atom_ready : Atom → Bool
  atom_ready = fold-Atom Bool Bool ready_step scoped_items_step

  -- whether a form can be computed
  abbrev pub items_ready : Items → Bool
  items_ready = fold-Items Bool Bool ready_step scoped_items_step

  -- the same of a list of atoms
  abbrev pub atoms_ready : List Atom → Bool
  atoms_ready [] = true
  atoms_ready (a ∷ as') = atom_ready a && atoms_ready as'

  -- the same of a list of items
  abbrev pub terms_ready : List (Item Atom) → Bool
  terms_ready [] = true
  terms_ready (t ∷ ts) = atom_ready t.atom && terms_ready ts
