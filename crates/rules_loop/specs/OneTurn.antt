-- Rules of sums of which one turn counts.
use Rattle.std.specs.Prelude.{List, [], ◌∷◌, pos, Bool, true, false, Option, Some, None}
use Rattle.std.specs.Option.{option_and_then}
use Rattle.affine_index.specs.Form.{literal_form, var_form}
use Rattle.affine_index.specs.Put.{put_var, shifted}
use Rattle.affine_index.specs.Sum.{difference_of, sum_of}
use Rattle.affine_index.specs.declared.cond.Cmp.{Cmp}
use Rattle.affine_index.specs.declared.cond.Cmp.TheVariants.{Eq}
use Rattle.affine_index.specs.declared.form.Items.{Items}
use Rattle.fact_list.specs.Facts.{where_normal}
use Rattle.path_focus.specs.Making.{lowered, one_of_rows, with_index}
use Rattle.path_focus.specs.Outcome.{Makes, Meant, without_arguments}
use Rattle.path_focus.specs.declared.place.Focus.{Focus}
use Rattle.path_focus.specs.declared.rule.Arg.{Arg}
use Rattle.rule_parts.specs.Patterns.{on_form, on_guard, on_sum, provided}
use Rattle.term_tree.specs.Shape.{same_form}

-- sum i < 1. b becomes b with 0 for i
abbrev pub sum_one : Focus → List Arg → Meant
sum_one f as' = on_sum f.term (λ n b. provided (same_form n (literal_form (pos 1))) (without_arguments as' (Makes (lowered b) [])))

-- the form of comparisons that are one equation
abbrev pub equation : List Cmp → Option Items
equation (Eq g ∷ []) = Some g
equation _ = None

-- what a form under a sum is where the variable i of the sum is 0, outside the sum
abbrev pub at_zero : Items → Items
at_zero g = put_var 0 (literal_form (pos 0)) g

-- -r where a form is i + r, and r where it is r - i
abbrev pub solution : Bool → Bool → Items → Option Items
solution true is_difference r = where_normal (difference_of (literal_form (pos 0)) r)
solution false true r = Some r
solution false false r = None

-- so of a form, with an r that holds no i
abbrev pub solved_from : Items → Items → Option Items
solved_from g r = solution (same_form g (sum_of (var_form 0) (shifted 0 1 r))) (same_form g (difference_of (shifted 0 1 r) (var_form 0))) r

-- what i is where a form is 0 that has i once, with 1 or -1, and in no other atom; what is left without i is within the limits then
abbrev pub solved : Items → Option Items
solved g = option_and_then (solved_from g) (where_normal (at_zero g))

-- sum i < n. guard c. b becomes b with x for i, where c is one equation, which is solved for i by x, and 0 <= x < n
abbrev pub sum_pick : Focus → List Arg → Meant
sum_pick f as' = on_sum f.term (λ n e. on_guard e (λ c b. on_form (equation c.all) (λ g. on_form (solved g) (λ x.
    without_arguments as' (Makes (with_index x b) (one_of_rows f.facts n x))))))
