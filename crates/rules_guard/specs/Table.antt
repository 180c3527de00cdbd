-- The rules of guards.
use Rattle.std.specs.Prelude.{ℕ, List, [], length, Bool, ◌&&◌, nat_le, nat_lt, not}
use Rattle.affine_index.specs.declared.cond.Cond.{Cond}
use Rattle.affine_index.specs.Limited.{items_scoped}
use Rattle.binders.specs.Uses.{any_cmp, uses}
use Rattle.fact_list.specs.Facts.{binders}
use Rattle.path_focus.specs.Outcome.{Makes, Meant, without_arguments}
use Rattle.path_focus.specs.declared.place.Focus.{Focus}
use Rattle.path_focus.specs.declared.rule.Arg.{Arg}
use Rattle.rule_parts.specs.Conds.{at_least, below_zero, first_of, goals_of, joined, lowered, raised, rest_of, within_rows}
use Rattle.rule_parts.specs.Patterns.{first_extent, on_either, on_form, on_gen, on_guard, on_index, on_mul, on_sum, provided}
use Rattle.rules_guard.specs.Arguments.{bound_of, cond_of, fitting, number_of, with_cond, with_form, with_number}
use Rattle.shape_rules.specs.Scopes.{given}
use Rattle.term_tree.specs.Scope.{cond_scoped}
use Rattle.term_tree.specs.Shape.{shape_of}
use Rattle.term_tree.specs.Syntax.{add, gen, guard, index, mul, sub, sum}

-- e becomes guard c. e, where c holds
abbrev pub guard_intro : Focus → List Arg → Meant
guard_intro f as' = with_cond (cond_of as') (λ c. fitting (cond_scoped (length f.facts.sizes) (binders f.facts.path) c)
    (Makes (guard c f.term) (goals_of f.facts c.all)))

-- guard c. e becomes e, where c holds
abbrev pub guard_elim : Focus → List Arg → Meant
guard_elim f as' = on_guard f.term (λ c e. without_arguments as' (Makes e (goals_of f.facts c.all)))

-- guard c. guard d. e becomes guard c and d. e
abbrev pub guard_merge : Focus → List Arg → Meant
guard_merge f as' = on_guard f.term (λ c e. on_guard e (λ d b. without_arguments as' (Makes (guard (joined c d) b) [])))

-- some comparisons, and some are left
abbrev pub is_part : ℕ → Cond → Bool
is_part j c = nat_le 1 j && nat_lt j (length c.all)

-- guard c. e becomes a guard of the first j comparisons around one of the rest, where both have one
abbrev pub guard_part : Focus → List Arg → Meant
guard_part f as' = on_guard f.term (λ c e. with_number (number_of as') (λ j. fitting (is_part j c) (Makes (guard (first_of j c) (guard (rest_of j c) e)) [])))

-- guard c. gen i < n. e becomes gen i < n. guard c. e
abbrev pub guard_gen : Focus → List Arg → Meant
guard_gen f as' = on_guard f.term (λ c e. on_gen e (λ n b. without_arguments as' (Makes (gen n (guard (raised c) b)) [])))

-- gen i < n. guard c. e becomes guard c. gen i < n. e, where c is free of i
abbrev pub gen_guard : Focus → List Arg → Meant
gen_guard f as' = on_gen f.term (λ n e. on_guard e (λ c b. provided (not (any_cmp (uses 0) c.all))
    (without_arguments as' (Makes (guard (lowered c) (gen n b)) []))))

-- guard c. sum i < n. e becomes sum i < n. guard c. e
abbrev pub guard_sum : Focus → List Arg → Meant
guard_sum f as' = on_guard f.term (λ c e. on_sum e (λ n b. without_arguments as' (Makes (sum n (guard (raised c) b)) [])))

-- guard c. a + b becomes (guard c. a) + (guard c. b), and so with a difference
abbrev pub guard_add : Focus → List Arg → Meant
guard_add f as' = on_guard f.term (λ c e. on_either e
    (λ a b. without_arguments as' (Makes (add (guard c a) (guard c b)) []))
    (λ a b. without_arguments as' (Makes (sub (guard c a) (guard c b)) [])))

-- guard c. a * b becomes (guard c. a) * b
abbrev pub guard_mul : Focus → List Arg → Meant
guard_mul f as' = on_guard f.term (λ c e. on_mul e (λ a b. without_arguments as' (Makes (mul (guard c a) b) [])))

-- (guard c. e)[x] becomes guard c. e[x]
abbrev pub guard_index : Focus → List Arg → Meant
guard_index f as' = on_index f.term (λ e x. on_guard e (λ c b. without_arguments as' (Makes (guard c (index b x)) [])))

-- a[x] becomes guard x >= 0 and n - 1 - x >= 0. a[x], with n the first extent of a
abbrev pub access_guard : Focus → List Arg → Meant
access_guard f as' = on_index f.term (λ e x. on_form (first_extent (shape_of e (given f.shapes)))
    (λ n. without_arguments as' (Makes (guard (within_rows n x) (index e x)) [])))

-- e becomes (guard g >= 0. e) + (guard -g - 1 >= 0. e)
abbrev pub guard_cases : Focus → List Arg → Meant
guard_cases f as' = with_form (bound_of as') (λ g. fitting (items_scoped (length f.facts.sizes) (binders f.facts.path) g)
    (Makes (add (guard (at_least g) f.term) (guard (below_zero g) f.term)) []))
