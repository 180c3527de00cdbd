-- Arguments of the rules of guards.
use Rattle.std.specs.Prelude.{ℕ, List, [], ◌∷◌, Bool, ℤ, pos, Option, Some, None, if◌then◌else◌}
use Rattle.affine_index.specs.declared.cond.Cmp.{Cmp}
use Rattle.affine_index.specs.declared.cond.Cmp.TheVariants.{Ge}
use Rattle.affine_index.specs.declared.cond.Cond.{Cond}
use Rattle.affine_index.specs.declared.form.Atom.{Atom}
use Rattle.affine_index.specs.declared.form.Item.{Item}
use Rattle.affine_index.specs.declared.form.Items.{Items}
use Rattle.path_focus.specs.Outcome.{Meant, Unfit}
use Rattle.path_focus.specs.declared.rule.Arg.{Arg}
use Rattle.path_focus.specs.declared.rule.Arg.TheVariants as arg

-- the number of a form without items that is at least 0
abbrev pub literal_of : List (Item Atom) → ℤ → Option ℕ
literal_of [] (pos n) = Some n
literal_of _ _ = None

-- the number that is the one argument
abbrev pub number_of : List Arg → Option ℕ
number_of (arg.Ix x ∷ []) = literal_of x.terms x.constant
number_of _ = None

-- what is made of a number, where there is one
abbrev pub with_number : Option ℕ → (ℕ → Meant) → Meant
with_number (Some j) f = f j
with_number None f = Unfit

-- the condition that is the one argument
abbrev pub cond_of : List Arg → Option Cond
cond_of (arg.Cond c ∷ []) = Some c
cond_of _ = None

-- the form of one comparison that it is at least 0
abbrev pub bound_in : List Cmp → Option Items
bound_in (Ge x ∷ []) = Some x
bound_in _ = None

-- the form of the one comparison that is the one argument
abbrev pub bound_of : List Arg → Option Items
bound_of (arg.Cond c ∷ []) = bound_in c.all
bound_of _ = None

-- what is made of a form, where there is one
abbrev pub with_form : Option Items → (Items → Meant) → Meant
with_form (Some x) f = f x
with_form None f = Unfit

-- what is made of a condition, where there is one
abbrev pub with_cond : Option Cond → (Cond → Meant) → Meant
with_cond (Some c) f = f c
with_cond None f = Unfit

-- where arguments fit
abbrev pub fitting : Bool → Meant → Meant
fitting b m = if b then m else Unfit
