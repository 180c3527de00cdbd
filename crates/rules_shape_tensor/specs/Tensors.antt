-- Rules of tensors that are transposed, padded, cut, joined or split twice.
use Rattle.std.specs.Prelude.{◌≡◌, List, [], ◌∷◌, Bool, true, ◌&&◌, pos}
use Rattle.affine_index.specs.Form.{literal_form}
use Rattle.affine_index.specs.Normal.{is_ordered}
use Rattle.path_focus.specs.Focus.{IsProper}
use Rattle.path_focus.specs.Making.{tile_rest}
use Rattle.path_focus.specs.Outcome.{Makes, Meant, MeantKeeps, without_arguments}
use Rattle.path_focus.specs.declared.place.Focus.{Focus}
use Rattle.path_focus.specs.declared.rule.Arg.{Arg}
use Rattle.rule_parts.specs.Patterns.{first_extent, on_form, provided}
use Rattle.rules_shape_tensor.specs.Patterns.{on_concat, on_flatten, on_pad_l, on_pad_r, on_split, on_transpose, on_trunc_l, on_trunc_r, second_extent}
use Rattle.shape_rules.specs.Scopes.{given}
use Rattle.term_tree.specs.Limits.{every_form}
use Rattle.term_tree.specs.Shape.{Extents, same_form, shape_of}
use Rattle.term_tree.specs.Syntax.{concat, pad_r}

-- transpose(transpose(e)) becomes e
abbrev pub transpose_twice : Focus → List Arg → Meant
transpose_twice f as' = on_transpose f.term (λ d. on_transpose d (λ e. without_arguments as' (Makes e [])))

-- truncl(a, padl(a, e)) becomes e
abbrev pub pad_trunc_l : Focus → List Arg → Meant
pad_trunc_l f as' = on_trunc_l f.term (λ a d. on_pad_l d (λ b e. provided (same_form a b) (without_arguments as' (Makes e []))))

-- truncr(a, padr(a, e)) becomes e
abbrev pub pad_trunc_r : Focus → List Arg → Meant
pad_trunc_r f as' = on_trunc_r f.term (λ a d. on_pad_r d (λ b e. provided (same_form a b) (without_arguments as' (Makes e []))))

-- concat(concat(a, b), c) becomes concat(a, concat(b, c))
abbrev pub concat_assoc : Focus → List Arg → Meant
concat_assoc f as' = on_concat f.term (λ d c. on_concat d (λ a b. without_arguments as' (Makes (concat a (concat b c)) [])))

-- split(k, flatten(e)) becomes e, where each row of e has k rows
abbrev pub split_flatten : Focus → List Arg → Meant
split_flatten f as' = on_split f.term (λ k d. on_flatten d (λ e. on_form (second_extent (shape_of e (given f.shapes))) (λ m.
    provided (same_form m (literal_form (pos k))) (without_arguments as' (Makes e [])))))

-- flatten(split(k, e)) becomes padr(k*D - n, e), where D chunks of k hold n, the rows of e
abbrev pub flatten_split : Focus → List Arg → Meant
flatten_split f as' = on_flatten f.term (λ d. on_split d (λ k e. on_form (first_extent (shape_of e (given f.shapes))) (λ n.
    without_arguments as' (Makes (pad_r (tile_rest k n) e) []))))

-- the forms of a shape are in order
abbrev pub each_ordered : Extents → Bool
each_ordered [] = true
each_ordered (n ∷ ns) = is_ordered n && each_ordered ns

-- so those of all tensor variables
abbrev pub all_ordered : List Extents → Bool
all_ordered [] = true
all_ordered (ns ∷ ts) = each_ordered ns && all_ordered ts

-- what a rule owes at each proper focus of which the forms of the term and of all shapes are in order: it keeps the meaning and the shape
abbrev pub KeepsInOrder : (Focus → List Arg → Meant) → Type 0
KeepsInOrder rule = (f : Focus) → IsProper f → every_form is_ordered f.term ≡ true → all_ordered (given f.shapes) ≡ true → (args : List Arg)
    → MeantKeeps f (rule f args)
