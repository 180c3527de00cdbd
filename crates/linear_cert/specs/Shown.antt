-- What lines show: a sum of facts times multipliers that is a negative constant.
use Rattle.std.specs.Prelude.{ℕ, zero, suc, List, [], ◌∷◌, ℤ, pos, negsuc, Bool, true, false, ◌&&◌, ◌||◌, not, slice_get, Option, Some, None, eqb}
use Rattle.affine_index.specs.Condition.{at_least_zero, cmp_form}
use Rattle.affine_index.specs.Form.{literal_form}
use Rattle.affine_index.specs.Sum.{add_up, difference_of, scaled, sum_of}
use Rattle.affine_index.specs.declared.cond.Cmp.{Cmp}
use Rattle.affine_index.specs.declared.cond.Cmp.TheVariants.{Ge, Eq}
use Rattle.affine_index.specs.declared.form.Atom.{Atom}
use Rattle.affine_index.specs.declared.form.Item.{Item}
use Rattle.affine_index.specs.declared.form.Items.{Items}
use Rattle.fact_list.specs.Facts.{facts_of}
use Rattle.fact_list.specs.declared.facts.Facts.{Facts}
use Rattle.fact_list.specs.declared.role.Fact.{Fact}
use Rattle.linear_cert.specs.DefaultLines.{default_lines_of}
use Rattle.linear_cert.specs.declared.lines.Line.{Line}
use Rattle.linear_cert.specs.declared.lines.Lines.{Lines}
use Rattle.linear_cert.specs.declared.lines.Lines.TheVariants.{Default, Given}
use Rattle.std.specs.Option.{is_some, option_map}

-- -1 - g, which is at least 0 exactly where g is not
abbrev pub negated : Items → Items
negated g = difference_of (literal_form (negsuc 0)) g

-- the comparison of a number: 0 is the negated goal, and the facts count from 1
abbrev pub numbered : List Fact → Items → ℕ → Option Cmp
numbered facts goal zero = Some (Ge (negated goal))
numbered facts goal (suc n) = option_map (λ x. x.cmp) (slice_get facts n)

-- whether a multiplier may stand at a comparison
abbrev pub may_take : ℤ → Cmp → Bool
may_take m (Ge x) = at_least_zero m
may_take m (Eq x) = true

-- the same where there is a comparison
abbrev pub may_take_some : ℤ → Option Cmp → Bool
may_take_some m None = false
may_take_some m (Some c) = may_take m c

-- the form of a comparison, or 0
abbrev pub form_or_zero : Option Cmp → Items
form_or_zero None = literal_form (pos 0)
form_or_zero (Some c) = cmp_form c

-- whether a number stands in lines
abbrev pub names_fact : ℕ → List Line → Bool
names_fact n [] = false
names_fact n (l ∷ ls) = eqb n l.fact || names_fact n ls

-- whether each line names a fact that may be taken so, and none is named twice
abbrev pub lines_good : List Fact → Items → List Line → Bool
lines_good facts goal [] = true
lines_good facts goal (l ∷ ls) = may_take_some l.multiplier (numbered facts goal l.fact) && (not (names_fact l.fact ls) && lines_good facts goal ls)

-- the facts of lines with their multipliers
abbrev pub taken : List Fact → Items → List Line → List (Item Items)
taken facts goal [] = []
taken facts goal (l ∷ ls) = record { atom = form_or_zero (numbered facts goal l.fact); coefficient = l.multiplier } ∷ taken facts goal ls

-- what a sum begins with: the negated goal, unless its number is written
abbrev pub first_total : Items → Bool → Items
first_total goal true = literal_form (pos 0)
first_total goal false = sum_of (literal_form (pos 0)) (scaled (pos 1) (negated goal))

-- the sum of the facts of lines times their multipliers
abbrev pub line_sum : List Fact → Items → List Line → Items
line_sum facts goal ls = add_up (taken facts goal ls) (first_total goal (names_fact 0 ls))

-- no atom
abbrev pub no_terms : List (Item Atom) → Bool
no_terms [] = true
no_terms (t ∷ ts) = false

-- a constant below 0
abbrev pub is_negative_constant : Items → Bool
is_negative_constant i = no_terms i.terms && not (at_least_zero i.constant)

-- whether given lines show a goal to be at least 0
abbrev pub lines_show : List Fact → Items → List Line → Bool
lines_show facts goal ls = lines_good facts goal ls && is_negative_constant (line_sum facts goal ls)

-- whether lines show a goal to be at least 0
abbrev pub is_shown : Facts → Items → Lines → Bool
is_shown f goal Default = is_some (default_lines_of (facts_of f goal) goal)
is_shown f goal (Given ls) = lines_show (facts_of f goal) goal ls
