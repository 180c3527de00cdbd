-- Patterns of rules of tensors, beside those that all rules share.
use Rattle.std.specs.Prelude.{ℕ, Bool, ◌∷◌, Ok, Option, Some, None, if◌then◌else◌}
use Rattle.affine_index.specs.declared.form.Items.{Items}
use Rattle.path_focus.specs.Outcome.{Meant, Unfit, Unlike}
use Rattle.term_tree.specs.Shape.{Shaped}
use Rattle.term_tree.specs.Syntax.{concat, flatten, split, transpose, trunc_l, trunc_r, pad_l, pad_r}
use Rattle.term_tree.specs.declared.term.Term.{Term}

abbrev pub on_concat : Term → (Term → Term → Meant) → Meant
on_concat (concat a b) f = f a b
on_concat _ f = Unlike

abbrev pub on_trunc_l : Term → (Items → Term → Meant) → Meant
on_trunc_l (trunc_l a e) f = f a e
on_trunc_l _ f = Unlike

abbrev pub on_trunc_r : Term → (Items → Term → Meant) → Meant
on_trunc_r (trunc_r a e) f = f a e
on_trunc_r _ f = Unlike

abbrev pub on_pad_l : Term → (Items → Term → Meant) → Meant
on_pad_l (pad_l a e) f = f a e
on_pad_l _ f = Unlike

abbrev pub on_pad_r : Term → (Items → Term → Meant) → Meant
on_pad_r (pad_r a e) f = f a e
on_pad_r _ f = Unlike

abbrev pub on_flatten : Term → (Term → Meant) → Meant
on_flatten (flatten e) f = f e
on_flatten _ f = Unlike

abbrev pub on_split : Term → (ℕ → Term → Meant) → Meant
on_split (split k e) f = f k e
on_split _ f = Unlike

abbrev pub on_transpose : Term → (Term → Meant) → Meant
on_transpose (transpose e) f = f e
on_transpose _ f = Unlike

-- the second extent of a shape
abbrev pub second_extent : Shaped → Option Items
second_extent (Ok (n ∷ m ∷ ns)) = Some m
second_extent _ = None

-- where an argument fits
abbrev pub fitting : Bool → Meant → Meant
fitting b m = if b then m else Unfit
