-- Rules of a row of a tensor that is transposed, split or flattened.
use Rattle.std.specs.Prelude.{Bool, List, [], ◌∷◌, length, ◌&&◌, pos}
use Rattle.affine_index.specs.Form.{literal_form, var_form}
use Rattle.affine_index.specs.Limited.{items_scoped}
use Rattle.affine_index.specs.Product.{product_of}
use Rattle.affine_index.specs.Put.{shifted}
use Rattle.affine_index.specs.Sum.{sum_of}
use Rattle.affine_index.specs.declared.form.Items.{Items}
use Rattle.fact_list.specs.Facts.{binders}
use Rattle.fact_list.specs.declared.facts.Facts.{Facts}
use Rattle.path_focus.specs.Making.{in_tile, one_of_rows, raised}
use Rattle.path_focus.specs.Outcome.{Makes, Meant, Unfit, without_arguments}
use Rattle.path_focus.specs.declared.place.Focus.{Focus}
use Rattle.path_focus.specs.declared.rule.Arg.{Arg}
use Rattle.path_focus.specs.declared.rule.Arg.TheVariants.{Ix}
use Rattle.rule_parts.specs.Patterns.{first_extent, on_form, on_index}
use Rattle.rules_shape_tensor.specs.Patterns.{fitting, on_flatten, on_split, on_transpose, second_extent}
use Rattle.shape_rules.specs.Scopes.{given}
use Rattle.term_tree.specs.Shape.{same_form, shape_of}
use Rattle.term_tree.specs.Syntax.{gen, index}

-- transpose(e)[x] becomes gen j < n. e[j][x], with n the rows of e
abbrev pub transpose_index : Focus → List Arg → Meant
transpose_index f as' = on_index f.term (λ d x. on_transpose d (λ e. on_form (first_extent (shape_of e (given f.shapes))) (λ n.
    without_arguments as' (Makes (gen n (index (index (raised e) (var_form 0)) (shifted 0 1 x))) []))))

-- split(k, e)[x] becomes gen j < k. e[k*x + j]
abbrev pub split_index : Focus → List Arg → Meant
split_index f as' = on_index f.term (λ d x. on_split d (λ k e.
    without_arguments as' (Makes (gen (literal_form (pos k)) (index (raised e) (in_tile k (shifted 0 1 x) (var_form 0)))) [])))

-- two forms as arguments
abbrev pub with_pair : List Arg → (Items → Items → Meant) → Meant
with_pair (Ix a ∷ Ix b ∷ []) g = g a b
with_pair _ g = Unfit

-- the forms name what is there, and x is a*m + b
abbrev pub leads_to : Facts → Items → Items → Items → Items → Bool
leads_to f m a b x =
    items_scoped (length f.sizes) (binders f.path) a
    && (items_scoped (length f.sizes) (binders f.path) b && same_form (sum_of (product_of a m) b) x)

-- flatten(e)[x] becomes e[a][b], where x is a*m + b and 0 <= b < m, the rows of each row of e
abbrev pub flatten_index : Focus → List Arg → Meant
flatten_index f as' = on_index f.term (λ d x. on_flatten d (λ e. on_form (second_extent (shape_of e (given f.shapes))) (λ m. with_pair as' (λ a b.
    fitting (leads_to f.facts m a b x) (Makes (index (index e a) b) (one_of_rows f.facts m b))))))
