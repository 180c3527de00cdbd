-- Patterns of rules of gens and sums, beside those that all rules share.
use Rattle.std.specs.Prelude.{Bool, false, ◌∷◌, Ok}
use Rattle.affine_index.specs.declared.form.Items.{Items}
use Rattle.path_focus.specs.Outcome.{Meant, Unlike}
use Rattle.term_tree.specs.Shape.{Shaped, same_form}
use Rattle.term_tree.specs.Syntax.{add, flatten}
use Rattle.term_tree.specs.declared.term.Term.{Term}

abbrev pub on_flatten : Term → (Term → Meant) → Meant
on_flatten (flatten e) f = f e
on_flatten _ f = Unlike

abbrev pub on_add : Term → (Term → Term → Meant) → Meant
on_add (add a b) f = f a b
on_add _ f = Unlike

-- a form is the first extent of a shape
abbrev pub is_first : Items → Shaped → Bool
is_first n (Ok (m ∷ ms)) = same_form m n
is_first n _ = false
