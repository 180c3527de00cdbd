-- Forms and nodes that may break limits.
use Rattle.std.specs.Prelude.{◌≡◌, ◌+◌, true, false, ◌&&◌}
use Rattle.affine_index.specs.Normal.{is_short}
use Rattle.affine_index.specs.Normal.{coefficients_fit as form_fits}
use Rattle.affine_index.specs.declared.form.Items.{Items}
use Rattle.path_focus.specs.Outcome.{IsDraft}
use Rattle.rules_shape_tensor.specs.declared.formed.FormDraft.{FormDraft}
use Rattle.rules_shape_tensor.specs.declared.formed.FormDraft.TheVariants.{Within, TooLarge, TooLong}
use Rattle.rules_shape_tensor.specs.declared.formed.Pair.{Pair}
use Rattle.rules_shape_tensor.specs.declared.formed.Pair.TheVariants.{Both, Neither}
use Rattle.term_tree.specs.Counts.{node_count}
use Rattle.term_tree.specs.Limits.{coefficients_fit, forms_short}
use Rattle.term_tree.specs.declared.term.Term.{Term}

-- a form as it was made, or which limit it breaks
abbrev pub IsFormed : Items → FormDraft → Type 0
IsFormed raw (Within x) = x ≡ raw
IsFormed raw TooLarge = form_fits raw ≡ false
IsFormed raw TooLong = (form_fits raw ≡ true) × (is_short raw ≡ false)

-- a node has the forms of a term and one more
pub record IsNode (x : Items) (e node : Term) : Type 0 where
  pub fits : coefficients_fit node ≡ (form_fits x && coefficients_fit e)
  pub short : forms_short node ≡ (is_short x && forms_short e)
  pub count : node_count node ≡ node_count e + 1

-- a form and a term as they were made, or which limit each node of both breaks
abbrev pub IsJoined : Items → Term → Pair → Type 0
IsJoined x e (Both y d) = (y ≡ x) × (d ≡ e)
IsJoined x e (Neither d) = (node : Term) → IsNode x e node → IsDraft node d
