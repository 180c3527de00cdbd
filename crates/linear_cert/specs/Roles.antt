-- Places of facts in the order of their roles, in which the first fact of a role is found by halving. Only the code's own clauses speak of these.
use Rattle.std.specs.Prelude.{◌≡◌, ◌<◌, ℕ, zero, suc, List, [], ◌∷◌, take, length, Bool, true, false, Option, Some, None, if◌then◌else◌}
use Rattle.std.specs.Ordering.{ordering_then}
use Rattle.std.specs.declared.cmp.Ordering.{Ordering}
use Rattle.std.specs.declared.cmp.Ordering.TheVariants.{Less, Equal, Greater}
use Rattle.affine_index.specs.Order.{atom_order}
use Rattle.affine_index.proofs.Factors.{SortedFactors}
use Rattle.affine_index.specs.declared.form.Atom.{Atom}
use Rattle.affine_index.specs.declared.form.Atom.TheVariants.{Size, Mul}
use Rattle.fact_list.specs.declared.role.Fact.{Fact}
use Rattle.fact_list.specs.declared.role.Role.{Role}
use Rattle.fact_list.specs.declared.role.Role.TheVariants.{Stated, BoundOf, FactorOf, ProductOf}
use Rattle.fact_list.specs.declared.role.Side.{Side}
use Rattle.fact_list.specs.declared.role.Side.TheVariants.{Lower, Upper}
use Rattle.linear_cert.specs.DefaultLines.{find_role, same_role}
use Rattle.linear_cert.specs.declared.roles.Wanted.{Wanted}
use Rattle.linear_cert.specs.declared.roles.Wanted.TheVariants.{Bound, Factor, Product}

-- the role that a fact is looked for by
abbrev pub wanted_role : Wanted → Role
wanted_role (Bound side a) = BoundOf side a.now
wanted_role (Factor side a m) = FactorOf side a.now m.now
wanted_role (Product m) = ProductOf m.now

-- the lower side before the upper
abbrev pub side_order : Side → Side → Ordering
side_order Lower Lower = Equal
side_order Lower Upper = Less
side_order Upper Lower = Greater
side_order Upper Upper = Equal

-- stated facts, bounds, bounds of factors, products; those of a kind by side, then by atoms, the product before the factor
abbrev pub role_order : Role → Role → Ordering
role_order Stated Stated = Equal
role_order Stated _ = Less
role_order (BoundOf x a) Stated = Greater
role_order (BoundOf x a) (BoundOf y b) = ordering_then (side_order x y) (atom_order a b)
role_order (BoundOf x a) _ = Less
role_order (FactorOf x a m) (FactorOf y b n) = ordering_then (side_order x y) (ordering_then (atom_order m n) (atom_order a b))
role_order (FactorOf x a m) (ProductOf n) = Less
role_order (FactorOf x a m) _ = Greater
role_order (ProductOf m) (ProductOf n) = atom_order m n
role_order (ProductOf m) _ = Greater

-- a side as an atom
abbrev pub side_atom : Side → Atom
side_atom Lower = Size 0
side_atom Upper = Size 1

-- a role as an atom, by which roles have the order of atoms
abbrev pub role_atom : Role → Atom
role_atom Stated = Mul (Size 0 ∷ [])
role_atom (BoundOf side a) = Mul (Size 1 ∷ side_atom side ∷ a ∷ [])
role_atom (FactorOf side a m) = Mul (Size 2 ∷ side_atom side ∷ m ∷ a ∷ [])
role_atom (ProductOf m) = Mul (Size 3 ∷ m ∷ [])

-- the role of the fact at a place
abbrev pub role_at : List Fact → ℕ → Role
role_at [] p = Stated
role_at (x ∷ xs) zero = x.role
role_at (x ∷ xs) (suc p) = role_at xs p

-- the roles of the facts at places, as atoms
abbrev pub keys : List Fact → List ℕ → List Atom
keys facts [] = []
keys facts (p ∷ ps) = role_atom (role_at facts p) ∷ keys facts ps

-- the first of some places whose fact has a role
abbrev pub first_place : List Fact → Role → List ℕ → Option ℕ
first_place facts r [] = None
first_place facts r (p ∷ ps) = if same_role r (role_at facts p) then Some p else first_place facts r ps

-- each place is that of a fact
abbrev pub AllWithin : ℕ → List ℕ → Type 0
AllWithin n [] = Unit {0}
AllWithin n (p ∷ ps) = (p < n) × AllWithin n ps

-- whether a role is not that of a stated fact
abbrev pub is_bound : Role → Bool
is_bound Stated = false
is_bound _ = true

-- places in the order of their roles, among which stands the first of each role but that of stated facts, of so many facts
pub record Mapped (facts : List Fact) (n : ℕ) (places : List ℕ) : Type 0 where
  pub sorted : SortedFactors (keys facts places)
  pub within : AllWithin (length facts) places
  pub same : (r : Role) → is_bound r ≡ true → first_place facts r places ≡ find_role r 0 (take n facts)
