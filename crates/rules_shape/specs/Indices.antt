-- Rules of a row of a tensor whose rows are cut, joined or filled up.
use Rattle.std.specs.Prelude.{List, [], ◌∷◌}
use Rattle.affine_index.specs.Sum.{difference_of, sum_of}
use Rattle.path_focus.specs.Making.{owed, rest_below}
use Rattle.path_focus.specs.Outcome.{Makes, Meant, without_arguments}
use Rattle.path_focus.specs.declared.place.Focus.{Focus}
use Rattle.path_focus.specs.declared.rule.Arg.{Arg}
use Rattle.rule_parts.specs.Patterns.{first_extent, on_form, on_index}
use Rattle.rules_shape_tensor.specs.Patterns.{on_concat, on_pad_l, on_pad_r, on_trunc_l, on_trunc_r}
use Rattle.shape_rules.specs.Scopes.{given}
use Rattle.term_tree.specs.Shape.{shape_of}
use Rattle.term_tree.specs.Syntax.{index}

-- padr(a, e)[x] becomes e[x]
abbrev pub padr_index : Focus → List Arg → Meant
padr_index f as' = on_index f.term (λ d x. on_pad_r d (λ a e. without_arguments as' (Makes (index e x) [])))

-- truncr(a, e)[x] becomes e[x], where x < n - a, the rows of truncr(a, e)
abbrev pub truncr_index : Focus → List Arg → Meant
truncr_index f as' = on_index f.term (λ d x. on_trunc_r d (λ a e. on_form (first_extent (shape_of d (given f.shapes)))
    (λ m. without_arguments as' (Makes (index e x) (owed f.facts (rest_below m x) ∷ [])))))

-- padl(a, e)[x] becomes e[x - a]
abbrev pub padl_index : Focus → List Arg → Meant
padl_index f as' = on_index f.term (λ d x. on_pad_l d (λ a e. without_arguments as' (Makes (index e (difference_of x a)) [])))

-- truncl(a, e)[x] becomes e[x + a], where 0 <= x
abbrev pub truncl_index : Focus → List Arg → Meant
truncl_index f as' = on_index f.term (λ d x. on_trunc_l d (λ a e. without_arguments as' (Makes (index e (sum_of x a)) (owed f.facts x ∷ []))))

-- concat(a, b)[x] becomes a[x], where x < n, the rows of a
abbrev pub concat_index_left : Focus → List Arg → Meant
concat_index_left f as' = on_index f.term (λ d x. on_concat d (λ a b. on_form (first_extent (shape_of a (given f.shapes)))
    (λ n. without_arguments as' (Makes (index a x) (owed f.facts (rest_below n x) ∷ [])))))

-- concat(a, b)[x] becomes b[x - n], where n <= x, with n the rows of a
abbrev pub concat_index_right : Focus → List Arg → Meant
concat_index_right f as' = on_index f.term (λ d x. on_concat d (λ a b. on_form (first_extent (shape_of a (given f.shapes)))
    (λ n. without_arguments as' (Makes (index b (difference_of x n)) (owed f.facts (difference_of x n) ∷ [])))))
