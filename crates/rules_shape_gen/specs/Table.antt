-- The rules of shapes over gens.
use Rattle.std.specs.Prelude.{List, [], pos}
use Rattle.affine_index.specs.Form.{literal_form, var_form}
use Rattle.affine_index.specs.Sum.{difference_of, sum_of}
use Rattle.path_focus.specs.Making.{lowered, rest_below}
use Rattle.path_focus.specs.Outcome.{Makes, Meant, without_arguments}
use Rattle.path_focus.specs.declared.place.Focus.{Focus}
use Rattle.path_focus.specs.declared.rule.Arg.{Arg}
use Rattle.rule_parts.specs.Conds.{at_least}
use Rattle.rule_parts.specs.Patterns.{on_gen, provided}
use Rattle.rules_loop.specs.Cuts.{further}
use Rattle.rules_loop.specs.Patterns.{on_flatten}
use Rattle.rules_loop.specs.Tilings.{guarded}
use Rattle.rules_shape_gen.specs.Patterns.{on_concat, on_pad_l, on_pad_r, on_split, on_trunc_l, on_trunc_r}
use Rattle.rules_shape_gen.specs.Rows.{back, row_of}
use Rattle.term_tree.specs.Shape.{same_form, tiles}
use Rattle.term_tree.specs.Syntax.{add, gen, guard}

-- truncl(a, gen i < n. b) becomes gen i < n - a. b, with i + a for i
abbrev pub trunc_gen_l : Focus → List Arg → Meant
trunc_gen_l f as' = on_trunc_l f.term (λ a e. on_gen e (λ n b. without_arguments as' (Makes (gen (difference_of n a) (row_of n b (further a))) [])))

-- truncr(a, gen i < n. b) becomes gen i < n - a. b
abbrev pub trunc_gen_r : Focus → List Arg → Meant
trunc_gen_r f as' = on_trunc_r f.term (λ a e. on_gen e (λ n b. without_arguments as' (Makes (gen (difference_of n a) b) [])))

-- padl(a, gen i < n. b) becomes gen i < n + a. guard i >= a. b, with i - a for i
abbrev pub pad_gen_l : Focus → List Arg → Meant
pad_gen_l f as' = on_pad_l f.term (λ a e. on_gen e (λ n b. without_arguments as'
    (Makes (gen (sum_of n a) (guard (at_least (back a)) (row_of n b (back a)))) [])))

-- padr(a, gen i < n. b) becomes gen i < n + a. guard i < n. b
abbrev pub pad_gen_r : Focus → List Arg → Meant
pad_gen_r f as' = on_pad_r f.term (λ a e. on_gen e (λ n b. without_arguments as'
    (Makes (gen (sum_of n a) (guard (at_least (rest_below n (var_form 0))) b)) [])))

-- concat(gen i < n. a, gen i < m. b) becomes gen i < n + m. (guard i < n. a) + (guard i >= n. b), with i - n for i in b
abbrev pub concat_gen : Focus → List Arg → Meant
concat_gen f as' = on_concat f.term (λ d e. on_gen d (λ n a. on_gen e (λ m b. without_arguments as'
    (Makes (gen (sum_of n m) (add (guard (at_least (rest_below n (var_form 0))) a) (guard (at_least (back n)) (row_of m b (back n))))) []))))

-- split(k, gen i < n. b) becomes gen p < D. gen q < k. guard k*p + q < n. b, with k*p + q for i, where D tiles of k hold n
abbrev pub split_of_gen : Focus → List Arg → Meant
split_of_gen f as' = on_split f.term (λ k e. on_gen e (λ n b. without_arguments as'
    (Makes (gen (tiles k n) (gen (literal_form (pos k)) (guarded k n b))) [])))

-- flatten(gen i < 1. b) becomes b with 0 for i
abbrev pub flatten_of_gen : Focus → List Arg → Meant
flatten_of_gen f as' = on_flatten f.term (λ e. on_gen e (λ n b. provided (same_form n (literal_form (pos 1)))
    (without_arguments as' (Makes (lowered b) []))))
