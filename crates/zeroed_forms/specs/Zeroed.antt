-- A form with 0 for an atom, wherever it stands.
use Rattle.std.specs.Prelude.{ℕ, List, [], ◌∷◌, ℤ, pos, ◌&&◌, nat_le, nat_lt, Option, Some, None, if◌then◌else◌}
use Rattle.affine_index.specs.Form.{literal_form, size_form, var_form}
use Rattle.affine_index.specs.Quotient.{quotient_of}
use Rattle.affine_index.specs.Sum.{scaled, sum_of}
use Rattle.affine_index.specs.declared.form.Atom.{Atom}
use Rattle.affine_index.specs.declared.form.Atom.TheVariants.{Size, Var, Div, Mul}
use Rattle.affine_index.specs.declared.form.Item.{Item}
use Rattle.affine_index.specs.declared.form.Items.{Items}
use Rattle.affine_index.specs.declared.form.Atom.TheOpen.{Atom-F, Items-F}
use Rattle.affine_index.specs.declared.form.Atom.TheFolds.{fold-Atom, fold-Items}
use Rattle.fact_list.specs.Atoms.{same_atoms}
use Rattle.fact_list.specs.Facts.{normal_product, where_normal}

-- a multiple of a form, where there is one within the limits
abbrev pub times : ℤ → Option Items → Option Items
times c (Some x) = where_normal (scaled c x)
times c None = None

-- the sum of two forms, where there is one within the limits
abbrev pub plus : Option Items → Option Items → Option Items
plus (Some x) (Some y) = where_normal (sum_of x y)
plus _ _ = None

-- the product of two forms, where there is one within the limits
abbrev pub product : Option Items → Option Items → Option Items
product (Some x) (Some y) = normal_product x y
product _ _ = None

-- the floor of a form by a number, where there is one within the limits
abbrev pub quotient : Option Items → ℕ → Option Items
quotient (Some x) k = if nat_lt 0 k && nat_le k 2147483647 then where_normal (quotient_of x k) else None
quotient None k = None

-- an atom or a form, and what it is with 0 for another atom
pub record Zeroed (A : Type 0) : Type 0 where
  pub whole : A
  pub form : Option Items

-- the atoms alone
abbrev pub wholes : List (Zeroed Atom) → List Atom
wholes [] = []
wholes (p ∷ ps) = p.whole ∷ wholes ps

-- the items of the atoms alone
abbrev pub whole_items : List (Item (Zeroed Atom)) → List (Item Atom)
whole_items [] = []
whole_items (t ∷ ts) = record { atom = t.atom.whole; coefficient = t.coefficient } ∷ whole_items ts

-- a form times those of the factors
abbrev pub all_times : List (Zeroed Atom) → Option Items → Option Items
all_times [] o = o
all_times (p ∷ ps) o = all_times ps (product o p.form)

-- a form and the multiples of those of the atoms, added
abbrev pub all_plus : List (Item (Zeroed Atom)) → Option Items → Option Items
all_plus [] o = o
all_plus (t ∷ ts) o = all_plus ts (plus o (times t.coefficient t.atom.form))

-- 0 for the one atom, and else what is made of the parts
abbrev pub instead : Atom → Atom → Option Items → Zeroed Atom
instead z a o = record { whole = a; form = if same_atoms z a then Some (literal_form (pos 0)) else o }

-- one level of an atom
abbrev pub zero_step : Atom → Atom-F (Zeroed Atom) (Zeroed Items) → Zeroed Atom
zero_step z (Atom-F.Size s) = instead z (Size s) (Some (size_form s))
zero_step z (Atom-F.Var v) = instead z (Var v) (Some (var_form v))
zero_step z (Atom-F.Div i k) = instead z (Div i.whole k) (quotient i.form k)
zero_step z (Atom-F.Mul fs) = instead z (Mul (wholes fs)) (all_times fs (Some (literal_form (pos 1))))

-- one level of a form
abbrev pub zero_items_step : Items-F (Zeroed Atom) (Zeroed Items) → Zeroed Items
zero_items_step i = record {
  whole = record { terms = whole_items i.terms; constant = i.constant };
  form = all_plus i.terms (where_normal (literal_form i.constant));
}

-- an atom with 0 for another; none where a part of it breaks a limit
abbrev pub atom_zeroed : Atom → Atom → Option Items
atom_zeroed z a = (fold-Atom (Zeroed Atom) (Zeroed Items) (zero_step z) zero_items_step a).form

-- a form with 0 for an atom at each place where it stands, in normal form; none where a part of it breaks a limit
abbrev pub zeroed : Atom → Items → Option Items
zeroed z x = (fold-Items (Zeroed Atom) (Zeroed Items) (zero_step z) zero_items_step x).form

-- a form times each atom of a list, with 0 for the one
abbrev pub factors_zeroed : Atom → List Atom → Option Items → Option Items
factors_zeroed z [] o = o
factors_zeroed z (a ∷ as') o = factors_zeroed z as' (product o (atom_zeroed z a))

-- a form and each item of a list, with 0 for the one
abbrev pub terms_zeroed : Atom → List (Item Atom) → Option Items → Option Items
terms_zeroed z [] o = o
terms_zeroed z (t ∷ ts) o = terms_zeroed z ts (plus o (times t.coefficient (atom_zeroed z t.atom)))
