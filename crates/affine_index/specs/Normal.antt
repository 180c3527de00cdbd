-- The normal form, its limits, and the refusals of forms that pass them.
use Rattle.std.specs.Prelude.{◌≡◌, ℕ, ◌^◌, List, [], ◌∷◌, length, ℤ, pos, negsuc, Bool, true, false, ◌&&◌, ◌||◌, not, nat_le, nat_lt}
use Rattle.std.specs.Int.RustNames.{unsigned_abs}
use Rattle.std.specs.Ordering.{int_eq, is_le, is_lt}
use Rattle.affine_index.specs.Count.{items_count}
use Rattle.affine_index.specs.Every.{atom_every, items_every}
use Rattle.affine_index.specs.Order.{atom_order}
use Rattle.affine_index.specs.declared.form.Atom.{Atom, out-Atom}
use Rattle.affine_index.specs.declared.form.Item.{Item}
use Rattle.affine_index.specs.declared.form.Items.{Items}
use Rattle.affine_index.specs.declared.form.Atom.TheOpen.{Atom-F, Items-F}
use Rattle.affine_index.specs.declared.form.Atom.TheFolds.{fold-Atom, fold-Items}
use Rattle.affine_index.specs.declared.refusal.AffRefusal.{AffRefusal}
use Rattle.affine_index.specs.declared.refusal.AffRefusal.TheVariants.{CoefficientTooLarge, IndexTooLong, NotAffine, Memory}

-- at most 2^40 in size
abbrev pub coefficient_fits : ℤ → Bool
coefficient_fits z = nat_le (unsigned_abs z) (2 ^ 40)

-- each coefficient is at most 2^40 in size
abbrev pub terms_fit : List (Item Atom) → Bool
terms_fit [] = true
terms_fit (t ∷ ts) = coefficient_fits t.coefficient && terms_fit ts

-- each coefficient and the constant are at most 2^40 in size
abbrev pub coefficients_fit : Items → Bool
coefficients_fit i = terms_fit i.terms && coefficient_fits i.constant

-- at most 128 atoms at all depths together
abbrev pub is_short : Items → Bool
is_short i = nat_le (items_count i) 128

-- whether any is true
abbrev pub any_true : List Bool → Bool
any_true [] = false
any_true (b ∷ bs) = b || any_true bs

-- whether any atom is true
abbrev pub any_first : List (Item Bool) → Bool
any_first [] = false
any_first (t ∷ ts) = t.atom || any_first ts

-- a variable is one, and the rest holds one where a part does
abbrev pub holds_var_step : Atom-F Bool Bool → Bool
holds_var_step (Atom-F.Size s) = false
holds_var_step (Atom-F.Var v) = true
holds_var_step (Atom-F.Div i k) = i
holds_var_step (Atom-F.Mul factors) = any_true factors

-- a form holds a variable where an atom does
abbrev pub holds_var_items_step : Items-F Bool Bool → Bool
holds_var_items_step i = any_first i.terms

-- whether an atom holds an index variable at any depth
abbrev pub atom_holds_var : Atom → Bool
atom_holds_var = fold-Atom Bool Bool holds_var_step holds_var_items_step

-- whether a form holds an index variable at any depth
abbrev pub holds_var : Items → Bool
holds_var = fold-Items Bool Bool holds_var_step holds_var_items_step

-- whether any atom of a list holds an index variable
abbrev pub any_holds : List Atom → Bool
any_holds [] = false
any_holds (f ∷ fs) = atom_holds_var f || any_holds fs

-- whether the atom of any item of a list does
abbrev pub any_term_holds : List (Item Atom) → Bool
any_term_holds [] = false
any_term_holds (t ∷ ts) = atom_holds_var t.atom || any_term_holds ts

-- whether no factor holds an index variable
abbrev pub no_vars : List Atom → Bool
no_vars [] = true
no_vars (f ∷ fs) = not (atom_holds_var f) && no_vars fs

-- whether at most one factor holds an index variable
abbrev pub one_var : List Atom → Bool
one_var [] = true
one_var (f ∷ fs) = (no_vars fs || not (atom_holds_var f)) && one_var fs

-- whether the item of an atom may stand before a list of items
abbrev pub stands_before : Atom → List (Item Atom) → Bool
stands_before a [] = true
stands_before a (t ∷ ts) = is_lt (atom_order a t.atom)

-- each atom stands before the next
abbrev pub terms_in_order : List (Item Atom) → Bool
terms_in_order [] = true
terms_in_order (t ∷ ts) = stands_before t.atom ts && terms_in_order ts

-- no coefficient is 0
abbrev pub none_zero : List (Item Atom) → Bool
none_zero [] = true
none_zero (t ∷ ts) = not (int_eq t.coefficient (pos 0)) && none_zero ts

-- whether a factor may stand before a list of factors
abbrev pub factor_before : Atom → List Atom → Bool
factor_before a [] = true
factor_before a (b ∷ bs) = is_le (atom_order a b)

-- no factor stands after a greater one
abbrev pub factors_in_order : List Atom → Bool
factors_in_order [] = true
factors_in_order (f ∷ fs) = factor_before f fs && factors_in_order fs

-- whether one level of an atom is that of a size, a variable or a quotient
abbrev pub base_layer : Atom-F Atom Items → Bool
base_layer (Atom-F.Mul fs) = false
base_layer _ = true

-- whether each factor is a size, a variable or a quotient
abbrev pub all_base : List Atom → Bool
all_base [] = true
all_base (f ∷ fs) = base_layer (out-Atom f) && all_base fs

-- in 0..k-1
abbrev pub is_remainder : ℕ → ℤ → Bool
is_remainder k (pos n) = nat_lt n k
is_remainder k (negsuc n) = false

-- each coefficient is in 0..k-1
abbrev pub all_remainders : ℕ → List (Item Atom) → Bool
all_remainders k [] = true
all_remainders k (t ∷ ts) = is_remainder k t.coefficient && all_remainders k ts

-- whether a list of items has one
abbrev pub has_items : List (Item Atom) → Bool
has_items [] = false
has_items (t ∷ ts) = true

-- whether an atom is one of a normal form, as far as its own level tells: a quotient of a form that is no constant, with its numbers in 0..k-1, by k of at
-- least 2;
-- a product of two or more base atoms in order, of which at most one holds an index variable
abbrev pub layer_good : Atom-F Atom Items → Bool
layer_good (Atom-F.Size s) = true
layer_good (Atom-F.Var v) = true
layer_good (Atom-F.Div r k) = nat_le 2 k && (nat_le k 2147483647 && (has_items r.terms && (all_remainders k r.terms && is_remainder k r.constant)))
layer_good (Atom-F.Mul fs) = nat_le 2 (length fs) && (all_base fs && (factors_in_order fs && one_var fs))

-- the same of an atom
abbrev pub atom_good : Atom → Bool
atom_good a = layer_good (out-Atom a)

-- each atom once and in order, and no coefficient 0
abbrev pub items_good : Items → Bool
items_good i = terms_in_order i.terms && none_zero i.terms

-- whether an atom is one of a normal form, at every depth
abbrev pub atom_is_ordered : Atom → Bool
atom_is_ordered = atom_every atom_good items_good

-- the normal form at every depth, but for its limits
abbrev pub is_ordered : Items → Bool
is_ordered = items_every atom_good items_good

-- the normal form within its limits
abbrev pub is_normal : Items → Bool
is_normal i = is_ordered i && (coefficients_fit i && is_short i)

-- why a form is refused for its limits, the coefficients first
abbrev pub Refused : Items → AffRefusal → Type 0
Refused i CoefficientTooLarge = coefficients_fit i ≡ false
Refused i IndexTooLong = (coefficients_fit i ≡ true) × (is_short i ≡ false)
Refused i NotAffine = ⊥
Refused i Memory = Unit {0}

-- why a product is refused: both forms hold an index variable, and else for its limits
abbrev pub RefusedProduct : Items → Items → Items → AffRefusal → Type 0
RefusedProduct a b product NotAffine = (holds_var a && holds_var b) ≡ true
RefusedProduct a b product Memory = Unit {0}
RefusedProduct a b product e = ((holds_var a && holds_var b) ≡ false) × Refused product e
