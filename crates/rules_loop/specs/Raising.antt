-- Rules that put a term under one more gen or sum.
use Rattle.std.specs.Prelude.{List, []}
use Rattle.affine_index.specs.Form.{var_form}
use Rattle.path_focus.specs.Making.{raised}
use Rattle.path_focus.specs.Outcome.{Makes, Meant, without_arguments}
use Rattle.path_focus.specs.declared.place.Focus.{Focus}
use Rattle.path_focus.specs.declared.rule.Arg.{Arg}
use Rattle.rule_parts.specs.Patterns.{first_extent, on_form, on_mul, on_sum}
use Rattle.shape_rules.specs.Scopes.{given}
use Rattle.term_tree.specs.Shape.{shape_of}
use Rattle.term_tree.specs.Syntax.{gen, index, mul, sum}

-- a of rank 1 or more becomes gen i < n. a[i], with n its first extent
abbrev pub uneta : Focus → List Arg → Meant
uneta f as' = on_form (first_extent (shape_of f.term (given f.shapes))) (λ n. without_arguments as' (Makes (gen n (index (raised f.term) (var_form 0))) []))

-- a * (sum i < n. b) becomes sum i < n. a * b
abbrev pub mul_into_sum : Focus → List Arg → Meant
mul_into_sum f as' = on_mul f.term (λ a e. on_sum e (λ n b. without_arguments as' (Makes (sum n (mul (raised a) b)) [])))
