-- A quotient that is 0, in an index or a guard: what is left, and under which condition.
use Rattle.std.specs.Prelude.{ℕ, List, [], ◌∷◌, ℤ, pos, Bool, false, ◌&&◌, ◌||◌, Option, Some, None, if◌then◌else◌}
use Rattle.std.specs.Ordering.{int_eq}
use Rattle.affine_index.specs.Condition.{cmp_form}
use Rattle.affine_index.specs.Form.{literal_form}
use Rattle.affine_index.specs.Normal.{is_normal}
use Rattle.affine_index.specs.declared.cond.Cmp.{Cmp}
use Rattle.affine_index.specs.declared.cond.Cmp.TheVariants.{Ge, Eq}
use Rattle.affine_index.specs.declared.cond.Cond.{Cond}
use Rattle.affine_index.specs.declared.form.Atom.{Atom, out-Atom}
use Rattle.affine_index.specs.declared.form.Atom.TheOpen.{Atom-F}
use Rattle.affine_index.specs.declared.form.Item.{Item}
use Rattle.affine_index.specs.declared.form.Items.{Items}
use Rattle.fact_list.specs.declared.facts.Facts.{Facts}
use Rattle.path_focus.specs.Making.{owed, rest_below}
use Rattle.path_focus.specs.Outcome.{Makes, Meant, Unfit, Unlike}
use Rattle.path_focus.specs.declared.place.Focus.{Focus}
use Rattle.path_focus.specs.declared.rule.Arg.{Arg}
use Rattle.path_focus.specs.declared.rule.Arg.TheVariants as arg
use Rattle.path_focus.specs.declared.rule.Condition.{Condition}
use Rattle.rules_narrow.specs.Narrow.{fitting, with_form}
use Rattle.term_tree.specs.Syntax.{guard, index}
use Rattle.term_tree.specs.declared.term.Term.{Term}
use Rattle.zeroed_forms.specs.Occurs.{occurs}
use Rattle.zeroed_forms.specs.Zeroed.{zeroed}

-- the atom of a form that is one atom, once
abbrev pub one_atom : List (Item Atom) → ℤ → Option Atom
one_atom (t ∷ []) c = if int_eq t.coefficient (pos 1) && int_eq c (pos 0) then Some t.atom else None
one_atom _ c = None

-- the same of a normal form
abbrev pub atom_in : Items → Option Atom
atom_in x = if is_normal x then one_atom x.terms x.constant else None

-- the atom that is the one argument
abbrev pub atom_of : List Arg → Option Atom
atom_of (arg.Ix x ∷ []) = atom_in x
atom_of _ = None

-- what is made of dividend and divisor
abbrev pub by_layer : Atom-F Atom Items → (Items → ℕ → Meant) → Meant
by_layer (Atom-F.Div r k) g = g r k
by_layer _ g = Unfit

-- what is made of an atom that is a quotient
abbrev pub with_quotient : Option Atom → (Atom → Items → ℕ → Meant) → Meant
with_quotient (Some z) g = by_layer (out-Atom z) (g z)
with_quotient None g = Unfit

-- r <= k - 1: as r is at least 0 in a normal form, its quotient by k is 0
abbrev pub is_zero : Facts → Items → ℕ → List Condition
is_zero f r k = owed f (rest_below (literal_form (pos k)) r) ∷ []

-- whether an atom stands within a comparison of a list
abbrev pub cmps_have : Atom → List Cmp → Bool
cmps_have z [] = false
cmps_have z (c ∷ cs) = occurs z (cmp_form c) || cmps_have z cs

-- a comparison of a form, where there is one
abbrev pub cmp_like : Cmp → Option Items → Option Cmp
cmp_like (Ge x) (Some y) = Some (Ge y)
cmp_like (Eq x) (Some y) = Some (Eq y)
cmp_like c None = None

-- one comparison more in front, where there are both
abbrev pub in_front : Option Cmp → Option (List Cmp) → Option (List Cmp)
in_front (Some c) (Some cs) = Some (c ∷ cs)
in_front _ _ = None

-- each comparison with 0 for an atom
abbrev pub cmps_zeroed : Atom → List Cmp → Option (List Cmp)
cmps_zeroed z [] = Some []
cmps_zeroed z (c ∷ cs) = in_front (cmp_like c (zeroed z (cmp_form c))) (cmps_zeroed z cs)

-- what is made of comparisons, where there are some within the limits
abbrev pub with_cmps : Option (List Cmp) → (List Cmp → Meant) → Meant
with_cmps (Some cs) g = g cs
with_cmps None g = Unfit

-- an index or a guard
abbrev pub on_either : Term → (Term → Items → Meant) → (Cond → Term → Meant) → Meant
on_either (index e x) g h = g e x
on_either (guard c e) g h = h c e
on_either _ g h = Unlike

-- e[x] with 0 for an atom at each place where it stands in x
abbrev pub index_zeroed : Facts → List Arg → Term → Items → Meant
index_zeroed f as' e x = with_quotient (atom_of as') (λ z r k. fitting (occurs z x) (with_form (zeroed z x) (λ y. Makes (index e y) (is_zero f r k))))

-- guard c. e with 0 for an atom at each place where it stands in c
abbrev pub guard_zeroed : Facts → List Arg → Cond → Term → Meant
guard_zeroed f as' c e = with_quotient (atom_of as')
    (λ z r k. fitting (cmps_have z c.all) (with_cmps (cmps_zeroed z c.all) (λ cs. Makes (guard (record { all = cs }) e) (is_zero f r k))))

-- a quotient that is shown to be 0 is 0 at each place where it stands in an index or a guard
abbrev pub div_zero : Focus → List Arg → Meant
div_zero f as' = on_either f.term (index_zeroed f.facts as') (guard_zeroed f.facts as')
