-- The rules of lets.
use Rattle.std.specs.Prelude.{List, [], not}
use Rattle.affine_index.specs.Form.{var_form}
use Rattle.binders.specs.Maps.{mapped}
use Rattle.binders.specs.PlainMaps.{put_tensor_map}
use Rattle.binders.specs.Uses.{uses_index, uses_tensor}
use Rattle.path_focus.specs.Frames.{filled, opened}
use Rattle.path_focus.specs.Making.{lowered}
use Rattle.path_focus.specs.Outcome.{Makes, Meant, Unlike, without_arguments}
use Rattle.path_focus.specs.declared.place.Focus.{Focus}
use Rattle.path_focus.specs.declared.rule.Arg.{Arg}
use Rattle.rule_parts.specs.Patterns.{on_gen, on_guard, on_index, on_sum, provided}
use Rattle.rules_let.specs.Arguments.{fitting, is_definition, number_of, variable_of, with_number}
use Rattle.rules_let.specs.Operators.{is_operator, under_one_more, with_let, with_opened}
use Rattle.term_tree.specs.Syntax.{gen, guard, index, let_in, sum}
use Rattle.term_tree.specs.declared.term.Term.{Term, TVar}

-- what is made of the parts of a let
abbrev pub on_let : Term → (Term → Term → Meant) → Meant
on_let (let_in a b) f = f a b
on_let _ f = Unlike

-- the body of a let with the definition for its variable
abbrev pub inlined : Term → Term → Term
inlined a b = mapped (put_tensor_map a 0) 0 0 b

-- the body of a let under one more let around its own
abbrev pub under_outer_let : Term → Term
under_outer_let c = mapped (put_tensor_map (TVar 0) 2) 0 0 c

-- the row of the innermost tensor variable at the innermost index variable
abbrev pub row_of_variable : Term
row_of_variable = index (TVar 0) (var_form 0)

-- the body of a let with that row for its variable, where the let's definition has one more extent in front
abbrev pub by_rows : Term → Term
by_rows b = mapped (put_tensor_map row_of_variable 1) 0 0 b

-- e becomes let t = e in t
abbrev pub let_intro : Focus → List Arg → Meant
let_intro f as' = without_arguments as' (Makes (let_in f.term (TVar 0)) [])

-- let t = a in b becomes b with a for t
abbrev pub let_inline : Focus → List Arg → Meant
let_inline f as' = on_let f.term (λ a b. without_arguments as' (Makes (inlined a b) []))

-- e becomes t, where t is the variable of a let around it whose definition, moved here, is e
abbrev pub let_use : Focus → List Arg → Meant
let_use f as' = with_number (variable_of as') (λ q. fitting (is_definition q f.term f.bound) (Makes (TVar q) []))

-- gen i < n. let t = a in b becomes let t = gen i < n. a in gen i < n. b with t[i] for t
abbrev pub let_out_of_gen : Focus → List Arg → Meant
let_out_of_gen f as' = on_gen f.term (λ n e. on_let e (λ a b. without_arguments as' (Makes (let_in (gen n a) (gen n (by_rows b))) [])))

-- gen i < n. let t = a in b becomes let t = a in gen i < n. b, where a is free of i
abbrev pub let_lift_gen : Focus → List Arg → Meant
let_lift_gen f as' = on_gen f.term (λ n e. on_let e (λ a b.
    provided (not (uses_index a 0)) (without_arguments as' (Makes (let_in (lowered a) (gen n b)) []))))

-- sum i < n. let t = a in b becomes let t = a in sum i < n. b, where a is free of i
abbrev pub let_out_of_sum : Focus → List Arg → Meant
let_out_of_sum f as' = on_sum f.term (λ n e. on_let e (λ a b.
    provided (not (uses_index a 0)) (without_arguments as' (Makes (let_in (lowered a) (sum n b)) []))))

-- (let t = a in b)[x] becomes let t = a in b[x]
abbrev pub let_index : Focus → List Arg → Meant
let_index f as' = on_index f.term (λ e x. on_let e (λ a b. without_arguments as' (Makes (let_in a (index b x)) [])))

-- guard c. let t = a in b becomes let t = a in guard c. b
abbrev pub let_guard : Focus → List Arg → Meant
let_guard f as' = on_guard f.term (λ c e. on_let e (λ a b. without_arguments as' (Makes (let_in a (guard c b)) [])))

-- let t = (let u = a in b) in c becomes let u = a in let t = b in c
abbrev pub let_let : Focus → List Arg → Meant
let_let f as' = on_let f.term (λ e c. on_let e (λ a b. without_arguments as' (Makes (let_in a (let_in b (under_outer_let c))) [])))

-- let t = a in b becomes b, where b is free of t: moved out of the let by a for t, which does not occur
abbrev pub let_drop : Focus → List Arg → Meant
let_drop f as' = on_let f.term (λ a b. provided (not (uses_tensor b 0)) (without_arguments as' (Makes (inlined a b) [])))

-- an operator whose child j is let t = a in b becomes let t = a in the operator with b as child j
abbrev pub let_op : Focus → List Arg → Meant
let_op f as' = provided (is_operator f.term) (with_number (number_of as') (λ j.
    with_opened (opened f.term j) (λ g e. with_let e (λ a b. Makes (let_in a (filled (under_one_more g) b)) []))))
