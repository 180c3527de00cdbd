-- The rules of gens and sums.
use Rattle.std.specs.Prelude.{Bool, List, [], ◌∷◌, not, ◌&&◌}
use Rattle.affine_index.specs.Form.{var_form}
use Rattle.affine_index.specs.Put.{shifted}
use Rattle.affine_index.specs.Sum.{difference_of}
use Rattle.affine_index.specs.declared.form.Items.{Items}
use Rattle.binders.specs.Maps.{mapped}
use Rattle.binders.specs.PlainMaps.{put_index_map}
use Rattle.binders.specs.Uses.{uses_index}
use Rattle.path_focus.specs.Making.{lowered, one_of_rows, with_index}
use Rattle.path_focus.specs.Outcome.{Makes, Meant, without_arguments}
use Rattle.path_focus.specs.declared.place.Focus.{Focus}
use Rattle.path_focus.specs.declared.rule.Arg.{Arg}
use Rattle.rules_loop.specs.Cuts.{moved_by, with_cut, within_extent}
use Rattle.rule_parts.specs.Patterns.{on_either, on_gen, on_index, on_mul, on_sum, provided}
use Rattle.rules_loop.specs.Patterns.{is_first, on_add}
use Rattle.shape_rules.specs.Scopes.{given}
use Rattle.term_tree.specs.Shape.{Extents, same_form, shape_of}
use Rattle.term_tree.specs.Syntax.{add, concat, gen, index, mul, sub, sum, transpose}
use Rattle.term_tree.specs.declared.term.Term.{Term}

-- a body with its two innermost variables swapped
abbrev pub swapped : Term → Term
swapped b = mapped (put_index_map (var_form 1 ∷ var_form 0 ∷ []) 2) 0 0 b

-- (gen i < n. b)[x] becomes b with x for i, where 0 <= x < n
abbrev pub beta : Focus → List Arg → Meant
beta f as' = on_index f.term (λ e x. on_gen e (λ n b. without_arguments as' (Makes (with_index x b) (one_of_rows f.facts n x))))

-- an index is the variable of a gen of so many rows of a term that is free of it
abbrev pub is_each_row : List Extents → Items → Term → Items → Bool
is_each_row ts n a x = same_form x (var_form 0) && (not (uses_index a 0) && is_first n (shape_of a ts))

-- gen i < n. a[i] becomes a, where a is free of i and n its first extent
abbrev pub eta : Focus → List Arg → Meant
eta f as' = on_gen f.term (λ n e. on_index e (λ a x.
    provided (is_each_row (given f.shapes) n a x) (without_arguments as' (Makes (lowered a) []))))

-- gen i < n. gen j < m. b becomes transpose(gen j < m. gen i < n. b)
abbrev pub swap_gen : Focus → List Arg → Meant
swap_gen f as' = on_gen f.term (λ n e. on_gen e (λ m b. without_arguments as' (Makes (transpose (gen m (gen n (swapped b)))) [])))

-- gen i < n. b becomes concat(gen i < x. b, gen i < n - x. b{i + x}), where 0 <= x <= n
abbrev pub cut_gen : Focus → List Arg → Meant
cut_gen f as' = on_gen f.term (λ n b. with_cut f as' (λ x.
    Makes (concat (gen x b) (gen (difference_of n x) (moved_by x b))) (within_extent f.facts n x)))

-- sum i < n. sum j < m. b becomes sum j < m. sum i < n. b
abbrev pub swap_sum : Focus → List Arg → Meant
swap_sum f as' = on_sum f.term (λ n e. on_sum e (λ m b. without_arguments as' (Makes (sum m (sum n (swapped b))) [])))

-- sum i < n. b becomes (sum i < x. b) + (sum i < n - x. b{i + x}), where 0 <= x <= n
abbrev pub cut_sum : Focus → List Arg → Meant
cut_sum f as' = on_sum f.term (λ n b. with_cut f as' (λ x.
    Makes (add (sum x b) (sum (difference_of n x) (moved_by x b))) (within_extent f.facts n x)))

-- sum i < n. gen j < m. b becomes gen j < m. sum i < n. b
abbrev pub sum_gen : Focus → List Arg → Meant
sum_gen f as' = on_sum f.term (λ n e. on_gen e (λ m b. without_arguments as' (Makes (gen m (sum n (swapped b))) [])))

-- gen j < m. sum i < n. b becomes sum i < n. gen j < m. b
abbrev pub gen_sum : Focus → List Arg → Meant
gen_sum f as' = on_gen f.term (λ m e. on_sum e (λ n b. without_arguments as' (Makes (sum n (gen m (swapped b))) [])))

-- (sum i < n. b)[x] becomes sum i < n. b[x]
abbrev pub sum_index : Focus → List Arg → Meant
sum_index f as' = on_index f.term (λ e x. on_sum e (λ n b. without_arguments as' (Makes (sum n (index b (shifted 0 1 x))) [])))

-- sum i < n. a + b becomes (sum i < n. a) + (sum i < n. b)
abbrev pub sum_add : Focus → List Arg → Meant
sum_add f as' = on_sum f.term (λ n e. on_add e (λ a b. without_arguments as' (Makes (add (sum n a) (sum n b)) [])))

-- (sum i < n. a) + (sum i < n. b) becomes sum i < n. a + b
abbrev pub add_sum : Focus → List Arg → Meant
add_sum f as' = on_add f.term (λ d e. on_sum d (λ n a. on_sum e (λ m b. provided (same_form n m) (without_arguments as' (Makes (sum n (add a b)) [])))))

-- sum i < n. a * b becomes a * (sum i < n. b), where a is free of i
abbrev pub mul_out_of_sum : Focus → List Arg → Meant
mul_out_of_sum f as' = on_sum f.term (λ n e. on_mul e (λ a b.
    provided (not (uses_index a 0)) (without_arguments as' (Makes (mul (lowered a) (sum n b)) []))))

-- (a + b)[x] becomes a[x] + b[x], and so with a difference
abbrev pub add_index : Focus → List Arg → Meant
add_index f as' = on_index f.term (λ e x. on_either e
    (λ a b. without_arguments as' (Makes (add (index a x) (index b x)) []))
    (λ a b. without_arguments as' (Makes (sub (index a x) (index b x)) [])))
