-- Atoms in order, in which one is found by halving.
use Rattle.std.specs.Prelude.{◌≡◌, ℕ, ◌≤◌, List, length, take, drop}
use Rattle.std.specs.declared.cmp.Ordering.TheVariants.{Less}
use Rattle.affine_index.specs.Order.{atom_order}
use Rattle.affine_index.proofs.Factors.{AtMost, SortedFactors}
use Rattle.affine_index.proofs.Induction.{Each}
use Rattle.affine_index.specs.declared.form.Atom.{Atom}
use Rattle.fact_list.specs.Atoms.{stands_in}

-- stands before an atom
abbrev pub less_than : Atom → Atom → Type 0
less_than a b = atom_order b a ≡ Less

-- the atoms of a list that are less than one stand before a place, and the others from there on
pub record Splits (a : Atom) (list : List Atom) (n : ℕ) : Type 0 where
  pub within : n ≤ length list
  pub before : Each (less_than a) (take n list)
  pub after : Each (AtMost a) (drop n list)

-- the same atoms in order
pub record Known (met list : List Atom) : Type 0 where
  pub sorted : SortedFactors list
  pub same : (a : Atom) → stands_in a list ≡ stands_in a met
