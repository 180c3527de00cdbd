-- The numbered facts of a goal: the bounds of the sizes, the assumes, the path, and what quotients and products add.
use Rattle.std.specs.Prelude.{◌≡◌, ◌≤◌, ℕ, zero, suc, ◌-◌, List, [], ◌∷◌, ◌++◌, ℤ, pos, negsuc, neg_ℤ, Bool, true, false, ◌&&◌, eqb, if◌then◌else◌, slice_get}
use Rattle.std.specs.Prelude.{Option, Some, None}
use Rattle.affine_index.specs.Count.{atom_count}
use Rattle.affine_index.specs.Form.{literal_form, of_atom, var_form}
use Rattle.affine_index.specs.Normal.{atom_is_ordered, holds_var, is_normal}
use Rattle.affine_index.specs.Product.{product_of}
use Rattle.affine_index.specs.Put.{numbers_fit, shifted}
use Rattle.affine_index.specs.Sum.{difference_of}
use Rattle.affine_index.specs.Condition.{cmp_form}
use Rattle.affine_index.specs.declared.cond.Cmp.{Cmp}
use Rattle.affine_index.specs.declared.cond.Cmp.TheVariants.{Ge, Eq}
use Rattle.affine_index.specs.declared.form.Atom.{Atom, out-Atom}
use Rattle.affine_index.specs.declared.form.Atom.TheVariants.{Size, Var, Div, Mul}
use Rattle.affine_index.specs.declared.form.Atom.TheOpen.{Atom-F}
use Rattle.affine_index.specs.declared.form.Items.{Items}
use Rattle.fact_list.specs.Atoms.{different, stands_in, without}
use Rattle.fact_list.specs.Within.{form_parts}
use Rattle.fact_list.specs.declared.facts.Facts.{Facts}
use Rattle.fact_list.specs.declared.facts.PathFact.{PathFact}
use Rattle.fact_list.specs.declared.facts.PathFact.TheVariants.{Bound, Holds}
use Rattle.fact_list.specs.declared.facts.SizeBounds.{SizeBounds}
use Rattle.fact_list.specs.declared.limits.Limit.{Limit}
use Rattle.fact_list.specs.declared.role.Fact.{Fact}
use Rattle.fact_list.specs.declared.met.Met.{Met}
use Rattle.fact_list.specs.declared.role.Role.{Role}
use Rattle.fact_list.specs.declared.role.Role.TheVariants.{Stated, BoundOf, FactorOf, ProductOf}
use Rattle.fact_list.specs.declared.role.Side.{Side}
use Rattle.fact_list.specs.declared.role.Side.TheVariants.{Lower, Upper}

-- the number of binders on a path; the extents on it hold sizes alone, so they stay as they are under more binders
abbrev pub binders : List PathFact → ℕ
binders [] = 0
binders (Bound n ∷ ps) = suc (binders ps)
binders (Holds c ∷ ps) = binders ps

-- the form of a comparison moved under binders
abbrev pub moved_cmp : ℕ → Cmp → Cmp
moved_cmp by (Ge x) = Ge (shifted 0 by x)
moved_cmp by (Eq x) = Eq (shifted 0 by x)

-- a form that is at least 0, and what for it is known
abbrev pub at_least : Role → Items → Fact
at_least role x = record { role = role; cmp = Ge x }

-- a comparison that was stated
abbrev pub stated : Cmp → Fact
stated c = record { role = Stated; cmp = c }

-- c*a + z
abbrev pub single : ℤ → Atom → ℤ → Items
single c a z = record { terms = record { atom = a; coefficient = c } ∷ []; constant = z }

-- s - low
abbrev pub above_low : ℕ → ℕ → Items
above_low s low = single (pos 1) (Size s) (neg_ℤ (pos low))

-- high - s
abbrev pub below_high : ℕ → ℕ → Items
below_high s high = single (negsuc 0) (Size s) (pos high)

-- n - (v + 1)
abbrev pub below_extent : ℕ → Items → Items
below_extent v n = difference_of n (single (pos 1) (Var v) (pos 1))

-- a - k*d for the quotient d of a by k
abbrev pub above_quotient : Items → ℕ → Items
above_quotient a k = difference_of a (single (pos k) (Div a k) (pos 0))

-- k*d + k - 1 - a for the quotient d of a by k
abbrev pub below_next_quotient : Items → ℕ → Items
below_next_quotient a k = difference_of (single (pos k) (Div a k) (pos (k - 1))) a

-- a form, if it is one of normal forms within the limits
abbrev pub where_normal : Items → Option Items
where_normal x = if is_normal x then Some x else None

-- a fact, if there is a form
abbrev pub fact_if : Role → Option Items → List Fact
fact_if role None = []
fact_if role (Some x) = at_least role x ∷ []

-- the two bounds of each size
abbrev pub size_facts : ℕ → List SizeBounds → List Fact
size_facts s [] = []
size_facts s (b ∷ bs) =
    fact_if (BoundOf Lower (Size s)) (where_normal (above_low s b.low))
    ++ (fact_if (BoundOf Upper (Size s)) (where_normal (below_high s b.high)) ++ size_facts (suc s) bs)

-- a comparison, if it is kept
abbrev pub stated_if : Bool → Cmp → List Fact
stated_if true c = stated c ∷ []
stated_if false c = []

-- comparisons moved under binders, of which those within the limits of normal forms are kept
abbrev pub moved_facts : ℕ → List Cmp → List Fact
moved_facts by [] = []
moved_facts by (c ∷ cs) = stated_if (is_normal (cmp_form (moved_cmp by c))) (moved_cmp by c) ++ moved_facts by cs

-- the assumes within the limits of normal forms
abbrev pub stated_facts : List Cmp → List Fact
stated_facts [] = []
stated_facts (c ∷ cs) = stated_if (is_normal (cmp_form c)) c ++ stated_facts cs

-- the bounds of each variable and the comparisons of each guard, from outside
abbrev pub path_facts : List PathFact → List Fact
path_facts [] = []
path_facts (Bound n ∷ ps) =
    fact_if (BoundOf Lower (Var (binders ps))) (where_normal (var_form (binders ps)))
    ++ (fact_if (BoundOf Upper (Var (binders ps))) (where_normal (below_extent (binders ps) n)) ++ path_facts ps)
path_facts (Holds c ∷ ps) = moved_facts (binders ps) c.all ++ path_facts ps

-- the facts that are declared: the sizes, the assumes, the path
abbrev pub declared_facts : Facts → List Fact
declared_facts f = size_facts 0 f.sizes ++ (stated_facts f.assumes ++ path_facts f.path)

-- the extent of a variable at the end of a path
abbrev pub extent_at : List PathFact → ℕ → Option Items
extent_at [] v = None
extent_at (Bound n ∷ ps) v = if eqb v (binders ps) then Some n else extent_at ps v
extent_at (Holds c ∷ ps) v = extent_at ps v

-- a bound, if there is a form
abbrev pub limit_if : Side → Option Items → List Limit
limit_if side None = []
limit_if side (Some x) = record { side = side; form = x } ∷ []

-- the bounds of a size
abbrev pub size_limits : ℕ → Option SizeBounds → List Limit
size_limits s None = []
size_limits s (Some b) = limit_if Lower (where_normal (above_low s b.low)) ++ limit_if Upper (where_normal (below_high s b.high))

-- the upper bound of a variable
abbrev pub var_limits : ℕ → Option Items → List Limit
var_limits v None = []
var_limits v (Some n) = limit_if Upper (where_normal (below_extent v n))

-- the two facts of a quotient by a number above 0
abbrev pub quotient_limits : Items → ℕ → List Limit
quotient_limits a zero = []
quotient_limits a (suc k) = limit_if Upper (where_normal (above_quotient a (suc k))) ++ limit_if Lower (where_normal (below_next_quotient a (suc k)))

-- the bounds of a size, a variable or a quotient that are within the limits of normal forms
abbrev pub layer_limits : Facts → Atom-F Atom Items → List Limit
layer_limits f (Atom-F.Size s) = size_limits s (slice_get f.sizes s)
layer_limits f (Atom-F.Var v) = var_limits v (extent_at f.path v)
layer_limits f (Atom-F.Div a k) = quotient_limits a k
layer_limits f (Atom-F.Mul fs) = []

-- the same of an atom
abbrev pub limits_of : Facts → Atom → List Limit
limits_of f a = layer_limits f (out-Atom a)

-- an atom of a normal form within the limits
abbrev pub NormalAtom : Atom → Type 0
NormalAtom a = (atom_is_ordered a ≡ true) × (atom_count a ≤ 128)

-- the product of two forms, if it is one of normal forms within the limits, in which no atom holds two index variables
abbrev pub normal_product : Items → Items → Option Items
normal_product a b = if holds_var a && holds_var b then None else where_normal (product_of a b)

-- a factor times a product of others, if there is one
abbrev pub times_others : Atom → Option Items → Option Items
times_others f None = None
times_others f (Some g) = normal_product (of_atom f) g

-- the product of some factors, if it is one of normal forms within the limits
abbrev pub product_of_others : List Atom → Option Items
product_of_others [] = Some (literal_form (pos 1))
product_of_others (f ∷ fs) = times_others f (product_of_others fs)

-- bounds of a factor of a product times a form
abbrev pub limit_products : Atom → Atom → Items → List Limit → List Fact
limit_products m a g [] = []
limit_products m a g (l ∷ ls) = fact_if (FactorOf l.side a m) (normal_product l.form g) ++ limit_products m a g ls

-- the same where there is a form
abbrev pub limit_products_if : Atom → Atom → Option Items → List Limit → List Fact
limit_products_if m a None ls = []
limit_products_if m a (Some g) ls = limit_products m a g ls

-- the bounds of a factor times the other factors of a product
abbrev pub factor_facts : Facts → List Atom → Atom → List Fact
factor_facts f fs a = limit_products_if (Mul fs) a (product_of_others (without a fs)) (limits_of f a)

-- the bounds of each of some factors times the other factors of a product
abbrev pub all_factor_facts : Facts → List Atom → List Atom → List Fact
all_factor_facts f fs [] = []
all_factor_facts f fs (a ∷ as') = factor_facts f fs a ++ all_factor_facts f fs as'

-- whether a fact is within the limits of normal forms
abbrev pub is_normal_fact : Fact → Bool
is_normal_fact x = is_normal (cmp_form x.cmp)

-- the bounds of a quotient as facts
abbrev pub limit_facts : Atom → List Limit → List Fact
limit_facts a [] = []
limit_facts a (l ∷ ls) = at_least (BoundOf l.side a) l.form ∷ limit_facts a ls

-- what a quotient or a product adds
abbrev pub layer_facts : Facts → Atom-F Atom Items → List Fact
layer_facts f (Atom-F.Size s) = []
layer_facts f (Atom-F.Var v) = []
layer_facts f (Atom-F.Div a k) = limit_facts (Div a k) (quotient_limits a k)
layer_facts f (Atom-F.Mul fs) = fact_if (ProductOf (Mul fs)) (where_normal (of_atom (Mul fs))) ++ all_factor_facts f fs (different fs)

-- what an atom adds
abbrev pub atom_facts : Facts → Atom → List Fact
atom_facts f a = layer_facts f (out-Atom a)

-- an atom adds its facts once
abbrev pub meet : Facts → Met → Atom → Met
meet f m a = if stands_in a m.atoms then m else record { atoms = m.atoms ++ a ∷ []; facts = m.facts ++ atom_facts f a }

-- each atom of a list in turn
abbrev pub meet_all : Facts → Met → List Atom → Met
meet_all f m [] = m
meet_all f m (a ∷ as') = meet_all f (meet f m a) as'

-- the atoms of a form, of which some were met before
abbrev pub meet_form : Facts → List Atom → Items → Met
meet_form f atoms x = meet_all f (record { atoms = atoms; facts = [] }) (form_parts x)

-- a queue of facts: what the atoms of the first one add stands at the end; the list has at most so many facts
abbrev pub followed : ℕ → Facts → List Atom → List Fact → List Fact
followed zero f atoms queue = []
followed (suc n) f atoms [] = []
followed (suc n) f atoms (x ∷ queue) =
    let m = meet_form f atoms (cmp_form x.cmp) in
    x ∷ followed n f m.atoms (queue ++ m.facts)

-- the facts of a goal, of which the first has number 1
abbrev pub facts_of : Facts → Items → List Fact
facts_of f goal = let m = meet_form f [] goal in followed 2000 f m.atoms (declared_facts f ++ m.facts)

-- the bounds of a variable with an extent
abbrev pub bound_facts : ℕ → Items → List Fact
bound_facts v n = fact_if (BoundOf Lower (Var v)) (where_normal (var_form v)) ++ fact_if (BoundOf Upper (Var v)) (where_normal (below_extent v n))

-- whether each variable number of comparisons stays below 2^32 when it is moved up
abbrev pub cmps_fit : ℕ → List Cmp → Bool
cmps_fit by [] = true
cmps_fit by (c ∷ cs) = numbers_fit 0 by (cmp_form c) && cmps_fit by cs

-- whether each variable number on a path stays below 2^32 when it is moved to the end
abbrev pub moves_fit : List PathFact → Bool
moves_fit [] = true
moves_fit (Bound n ∷ ps) = moves_fit ps
moves_fit (Holds c ∷ ps) = cmps_fit (binders ps) c.all && moves_fit ps

-- the facts of a node on a path that so many binders follow
abbrev pub step_facts : ℕ → PathFact → List Fact
step_facts after (Bound n) = bound_facts after n
step_facts after (Holds c) = moved_facts after c.all

-- whether the variable numbers of a node stay below 2^32 when they are moved
abbrev pub step_fits : ℕ → PathFact → Bool
step_fits after (Bound n) = true
step_fits after (Holds c) = cmps_fit after c.all

-- the comparisons of facts
abbrev pub comparisons : List Fact → List Cmp
comparisons [] = []
comparisons (x ∷ xs) = x.cmp ∷ comparisons xs
