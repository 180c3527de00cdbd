-- The procedure of default lines: each atom of a goal is replaced by a bound, until a number is left.
use Rattle.std.specs.Prelude.{ℕ, zero, suc, ◌*◌, ◌/◌, ◌%◌, ◌^◌, List, [], ◌∷◌, ◌++◌, reverse, ℤ, pos, negsuc, ◌+ℤ◌, ◌*ℤ◌, Bool, true, false, ◌&&◌}
use Rattle.std.specs.Prelude.{if◌then◌else◌, nat_le, slice_get, Option, Some, None, min}
use Rattle.std.specs.List.{find}
use Rattle.std.specs.Option.{is_some, option_and_then, option_or}
use Rattle.std.specs.Ordering.{int_eq, is_eq, nat_cmp}
use Rattle.std.specs.Int.RustNames.{unsigned_abs}
use Rattle.affine_index.specs.Condition.{at_least_zero, cmp_form}
use Rattle.affine_index.specs.Form.{literal_form}
use Rattle.affine_index.specs.Sum.{difference_of, scaled}
use Rattle.affine_index.specs.declared.cond.Cmp.{Cmp}
use Rattle.affine_index.specs.declared.cond.Cmp.TheVariants.{Ge, Eq}
use Rattle.affine_index.specs.declared.form.Atom.{Atom, out-Atom}
use Rattle.affine_index.specs.declared.form.Atom.TheOpen.{Atom-F, Items-F}
use Rattle.affine_index.specs.declared.form.Atom.TheFolds.{fold-Atom, fold-Items}
use Rattle.affine_index.specs.declared.form.Item.{Item}
use Rattle.affine_index.specs.declared.form.Items.{Items}
use Rattle.fact_list.specs.Atoms.{same_atoms}
use Rattle.fact_list.specs.declared.role.Fact.{Fact}
use Rattle.fact_list.specs.declared.role.Role.{Role}
use Rattle.fact_list.specs.declared.role.Role.TheVariants.{Stated, BoundOf, FactorOf, ProductOf}
use Rattle.fact_list.specs.declared.role.Side.{Side}
use Rattle.fact_list.specs.declared.role.Side.TheVariants.{Lower, Upper}
use Rattle.linear_cert.specs.declared.attempt.Attempt.{Attempt}
use Rattle.linear_cert.specs.declared.lines.Line.{Line}

-- the lesser of two variables, where there are any
abbrev pub lesser : Option ℕ → Option ℕ → Option ℕ
lesser None w = w
lesser (Some v) None = Some v
lesser (Some v) (Some w) = Some (min v w)

-- the least of variables
abbrev pub least_of_all : List (Option ℕ) → Option ℕ
least_of_all [] = None
least_of_all (v ∷ vs) = lesser v (least_of_all vs)

-- the least of the variables of items
abbrev pub least_of_items : List (Item (Option ℕ)) → Option ℕ
least_of_items [] = None
least_of_items (t ∷ ts) = lesser t.atom (least_of_items ts)

-- the least variable in an atom is that of its parts
abbrev pub least_step : Atom-F (Option ℕ) (Option ℕ) → Option ℕ
least_step (Atom-F.Size s) = None
least_step (Atom-F.Var v) = Some v
least_step (Atom-F.Div i k) = i
least_step (Atom-F.Mul fs) = least_of_all fs

-- the least variable in a form is that of its atoms
abbrev pub least_items_step : Items-F (Option ℕ) (Option ℕ) → Option ℕ
least_items_step i = least_of_items i.terms

-- the least variable in an atom, at any depth
abbrev pub atom_least : Atom → Option ℕ
atom_least = fold-Atom (Option ℕ) (Option ℕ) least_step least_items_step

-- the least variable in a form
abbrev pub form_least : Items → Option ℕ
form_least = fold-Items (Option ℕ) (Option ℕ) least_step least_items_step

-- the least variable in any of some atoms
abbrev pub list_least : List Atom → Option ℕ
list_least [] = None
list_least (a ∷ as') = lesser (atom_least a) (list_least as')

-- the least variable in any of some items
abbrev pub terms_least : List (Item Atom) → Option ℕ
terms_least [] = None
terms_least (t ∷ ts) = lesser (atom_least t.atom) (terms_least ts)

-- whether both are the same variable, or none
abbrev pub same_var : Option ℕ → Option ℕ → Bool
same_var None None = true
same_var None (Some w) = false
same_var (Some v) None = false
same_var (Some v) (Some w) = is_eq (nat_cmp v w)

-- the item to replace: the last of those with the least variable, or the last where no atom holds a variable
abbrev pub chosen_item : Items → Option (Item Atom)
chosen_item q = find (λ t. same_var (atom_least t.atom) (form_least q)) (reverse q.terms)

-- whether an atom is a quotient
abbrev pub layer_is_quotient : Atom-F Atom Items → Bool
layer_is_quotient (Atom-F.Div i k) = true
layer_is_quotient _ = false

-- the factor of a product to bound: the first that holds a variable, else the first quotient, else the first
abbrev pub chosen_of : List Atom → Option Atom
chosen_of fs = option_or (find (λ a. is_some (atom_least a)) fs) (option_or (find (λ a. layer_is_quotient (out-Atom a)) fs) (slice_get fs 0))

-- an atom or a default
abbrev pub atom_or : Atom → Option Atom → Atom
atom_or a None = a
atom_or a (Some b) = b

-- the factor to bound, which an atom is itself where it is no product
abbrev pub layer_chosen : Atom → Atom-F Atom Items → Atom
layer_chosen a (Atom-F.Mul fs) = atom_or a (chosen_of fs)
layer_chosen a _ = a

-- the factor to bound
abbrev pub chosen_factor : Atom → Atom
chosen_factor a = layer_chosen a (out-Atom a)

-- the divisor of a quotient, and 1 for what is none
abbrev pub layer_divisor : Atom-F Atom Items → ℕ
layer_divisor (Atom-F.Div i k) = k
layer_divisor _ = 1

-- the same of an atom
abbrev pub divisor_of : Atom → ℕ
divisor_of a = layer_divisor (out-Atom a)

-- a bound of a factor of a product: a variable is at least 0 where the product is
abbrev pub factor_role : Side → Atom → Atom → Atom-F Atom Items → Role
factor_role Lower f m (Atom-F.Var v) = ProductOf m
factor_role side f m _ = FactorOf side f m

-- the bound to use for an atom with a factor
abbrev pub layer_role : Side → Atom → Atom → Atom-F Atom Items → Role
layer_role side a f (Atom-F.Mul fs) = factor_role side f a (out-Atom f)
layer_role side a f _ = BoundOf side a

-- the same of an atom
abbrev pub role_for : Side → Atom → Atom → Role
role_for side a f = layer_role side a f (out-Atom a)

-- whether two sides are equal
abbrev pub same_side : Side → Side → Bool
same_side Lower Lower = true
same_side Upper Upper = true
same_side _ _ = false

-- whether two facts are known for the same
abbrev pub same_role : Role → Role → Bool
same_role Stated Stated = true
same_role (BoundOf x a) (BoundOf y b) = same_side x y && same_atoms a b
same_role (FactorOf x a m) (FactorOf y b n) = same_side x y && (same_atoms a b && same_atoms m n)
same_role (ProductOf m) (ProductOf n) = same_atoms m n
same_role _ _ = false

-- the place of the first fact of a role, counted from n
abbrev pub find_role : Role → ℕ → List Fact → Option ℕ
find_role r n [] = None
find_role r n (x ∷ xs) = if same_role r x.role then Some n else find_role r (suc n) xs

-- the form of the fact at a place
abbrev pub fact_form : List Fact → ℕ → Items
fact_form [] n = literal_form (pos 0)
fact_form (x ∷ xs) zero = cmp_form x.cmp
fact_form (x ∷ xs) (suc n) = fact_form xs n

-- the lower bound for a positive coefficient
abbrev pub side_for : ℤ → Side
side_for c = if at_least_zero c then Lower else Upper

-- a number added at a place
abbrev pub add_at : List ℤ → ℕ → ℤ → List ℤ
add_at [] n z = []
add_at (x ∷ xs) zero z = (x +ℤ z) ∷ xs
add_at (x ∷ xs) (suc n) z = x ∷ add_at xs n z

-- at most 2^31 in size
abbrev pub multiplier_fits : ℤ → Bool
multiplier_fits z = nat_le (unsigned_abs z) (2 ^ 31)

-- all at most 2^31 in size
abbrev pub multipliers_fit : List ℤ → Bool
multipliers_fit [] = true
multipliers_fit (z ∷ zs) = multiplier_fits z && multipliers_fit zs

-- an attempt whose multipliers are at most 2^31 in size
abbrev pub limited_attempt : Attempt → Option Attempt
limited_attempt a = if nat_le a.goal_times (2 ^ 31) && multipliers_fit a.times then Some a else None

-- each number times by
abbrev pub all_times : ℕ → List ℤ → List ℤ
all_times by [] = []
all_times by (z ∷ zs) = (pos by *ℤ z) ∷ all_times by zs

-- all times a number by, then less a fact so often
abbrev pub less_fact : List Fact → Attempt → ℕ → ℕ → ℕ → Attempt
less_fact facts a by amount n = record {
  left = difference_of (scaled (pos by) a.left) (scaled (pos amount) (fact_form facts n));
  goal_times = by * a.goal_times;
  times = add_at (all_times by a.times) n (pos amount);
}

-- the greatest number that divides both, by Euclid's steps
abbrev pub gcd_steps : ℕ → ℕ → ℕ → ℕ
gcd_steps zero a b = a
gcd_steps (suc n) a zero = a
gcd_steps (suc n) a (suc b) = gcd_steps n (suc b) (a % suc b)

-- the greatest number that divides both
abbrev pub gcd : ℕ → ℕ → ℕ
gcd a b = gcd_steps (suc b) a b

-- the least number by which c has to be taken so that k divides it
abbrev pub needed : ℕ → ℕ → ℕ
needed c k = k / gcd c k

-- the bound of an atom with a coefficient, where the divisor of its factor is k
abbrev pub with_bound : List Fact → Attempt → ℕ → ℕ → Option ℕ → Option Attempt
with_bound facts a c k None = None
with_bound facts a c k (Some n) = limited_attempt (less_fact facts a (needed c k) ((c * needed c k) / k) n)

-- an attempt with one atom replaced by a bound of it
abbrev pub replaced_item : List Fact → Attempt → Option (Item Atom) → Option Attempt
replaced_item facts a None = None
replaced_item facts a (Some t) =
    let f = chosen_factor t.atom in
    with_bound facts a (unsigned_abs t.coefficient) (divisor_of f) (find_role (role_for (side_for t.coefficient) t.atom f) 0 facts)

-- an attempt with one atom replaced
abbrev pub replaced : List Fact → Attempt → Option Attempt
replaced facts a = replaced_item facts a (chosen_item a.left)

-- the lines of multipliers from a number on, without multipliers of 0
abbrev pub lines_from : ℕ → List ℤ → List Line
lines_from n [] = []
lines_from n (z ∷ zs) = if int_eq z (pos 0) then lines_from (suc n) zs else record { fact = n; multiplier = z } ∷ lines_from (suc n) zs

-- the lines of an attempt: the negated goal, then the facts
abbrev pub attempt_lines : Attempt → List Line
attempt_lines a = record { fact = 0; multiplier = pos a.goal_times } ∷ lines_from 1 a.times

-- an attempt without atoms shows the goal where its constant and the multiplier of the goal are above 0 together
abbrev pub finished : Attempt → Option (List Line)
finished a = if at_least_zero (a.left.constant +ℤ (pos a.goal_times +ℤ negsuc 0)) then Some (attempt_lines a) else None

-- the end of an attempt, or what follows it
abbrev pub unless_done : List (Item Atom) → Attempt → Option (List Line) → Option (List Line)
unless_done [] a rest = finished a
unless_done (t ∷ ts) a rest = rest

-- an attempt carried on for at most so many replacements
abbrev pub carried_on : ℕ → List Fact → Attempt → Option (List Line)
carried_on zero facts a = unless_done a.left.terms a None
carried_on (suc n) facts a = unless_done a.left.terms a (option_and_then (carried_on n facts) (replaced facts a))

-- a multiplier for each fact, all 0
abbrev pub no_times : List Fact → List ℤ
no_times [] = []
no_times (x ∷ xs) = pos 0 ∷ no_times xs

-- the goal as it stands
abbrev pub first_attempt : List Fact → Items → Attempt
first_attempt facts goal = record { left = goal; goal_times = 1; times = no_times facts }

-- the goal less a fact times a multiplier
abbrev pub attempt_with : List Fact → Items → ℕ → Items → ℤ → Attempt
attempt_with facts goal n x m = record { left = difference_of goal (scaled m x); goal_times = 1; times = add_at (no_times facts) n m }

-- the goal less a comparison that was stated, and plus it where it is an equation
abbrev pub attempts_of_cmp : List Fact → Items → ℕ → Cmp → List Attempt
attempts_of_cmp facts goal n (Ge x) = attempt_with facts goal n x (pos 1) ∷ []
attempts_of_cmp facts goal n (Eq x) = attempt_with facts goal n x (pos 1) ∷ attempt_with facts goal n x (negsuc 0) ∷ []

-- the attempts with a fact, if it was stated
abbrev pub attempts_of_role : List Fact → Items → ℕ → Role → Cmp → List Attempt
attempts_of_role facts goal n Stated c = attempts_of_cmp facts goal n c
attempts_of_role facts goal n _ c = []

-- the attempts with each stated fact, from a place on
abbrev pub attempts_from : List Fact → Items → ℕ → List Fact → List Attempt
attempts_from facts goal n [] = []
attempts_from facts goal n (x ∷ xs) = attempts_of_role facts goal n x.role x.cmp ++ attempts_from facts goal (suc n) xs

-- the lines of the first attempt that ends with some
abbrev pub first_lines : List Fact → List Attempt → Option (List Line)
first_lines facts [] = None
first_lines facts (a ∷ as') = option_or (carried_on 512 facts a) (first_lines facts as')

-- the lines that the procedure ends with
abbrev pub default_lines_of : List Fact → Items → Option (List Line)
default_lines_of facts goal = first_lines facts (first_attempt facts goal ∷ attempts_from facts goal 0 facts)
