-- Patterns of rules: what is made of the parts of a term of this form, or that it has another one.
use Rattle.std.specs.Prelude.{Bool, [], ◌∷◌, Ok, Option, Some, None, if◌then◌else◌}
use Rattle.affine_index.specs.declared.cond.Cond.{Cond}
use Rattle.affine_index.specs.declared.form.Items.{Items}
use Rattle.path_focus.specs.Outcome.{Meant, Unlike}
use Rattle.term_tree.specs.Shape.{Shaped}
use Rattle.term_tree.specs.Syntax.{index, gen, sum, guard, add, sub, mul}
use Rattle.term_tree.specs.declared.term.Term.{Term}

abbrev pub on_index : Term → (Term → Items → Meant) → Meant
on_index (index e x) f = f e x
on_index _ f = Unlike

abbrev pub on_gen : Term → (Items → Term → Meant) → Meant
on_gen (gen n e) f = f n e
on_gen _ f = Unlike

abbrev pub on_sum : Term → (Items → Term → Meant) → Meant
on_sum (sum n e) f = f n e
on_sum _ f = Unlike

abbrev pub on_guard : Term → (Cond → Term → Meant) → Meant
on_guard (guard c e) f = f c e
on_guard _ f = Unlike

abbrev pub on_mul : Term → (Term → Term → Meant) → Meant
on_mul (mul a b) f = f a b
on_mul _ f = Unlike

-- a sum of two terms, or their difference
abbrev pub on_either : Term → (Term → Term → Meant) → (Term → Term → Meant) → Meant
on_either (add a b) f g = f a b
on_either (sub a b) f g = g a b
on_either _ f g = Unlike

-- the first extent of a shape
abbrev pub first_extent : Shaped → Option Items
first_extent (Ok (n ∷ ns)) = Some n
first_extent _ = None

-- what is made of a form, where there is one
abbrev pub on_form : Option Items → (Items → Meant) → Meant
on_form (Some n) f = f n
on_form None f = Unlike

-- where something holds
abbrev pub provided : Bool → Meant → Meant
provided b m = if b then m else Unlike
