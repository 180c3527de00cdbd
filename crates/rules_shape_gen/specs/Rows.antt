-- Rows of a gen, each named by a form over the variable of another gen that stands in its place.
use Rattle.std.specs.Prelude.{Bool, [], ◌∷◌, ◌&&◌, if◌then◌else◌}
use Rattle.affine_index.specs.Form.{var_form}
use Rattle.affine_index.specs.Normal.{coefficients_fit, is_short}
use Rattle.affine_index.specs.Sum.{difference_of}
use Rattle.affine_index.specs.declared.form.Items.{Items}
use Rattle.binders.specs.Maps.{mapped}
use Rattle.binders.specs.PlainMaps.{put_index_map}
use Rattle.path_focus.specs.Making.{raised}
use Rattle.term_tree.specs.Syntax.{gen, index}
use Rattle.term_tree.specs.declared.term.Term.{Term}

-- i - a, with i the innermost variable
abbrev pub back : Items → Items
back a = difference_of (var_form 0) a

-- a body with a form over the new variable for its variable
abbrev pub put_row : Items → Term → Term
put_row x b = mapped (put_index_map (x ∷ []) 1) 0 0 b

-- a form within the limits
abbrev pub is_within : Items → Bool
is_within x = coefficients_fit x && is_short x

-- row x of gen i < n. b: b with x for i; a form that breaks a limit stands as the index of the row, so that the term breaks it too
abbrev pub row_of : Items → Term → Items → Term
row_of n b x = if is_within x then put_row x b else index (raised (gen n b)) x
