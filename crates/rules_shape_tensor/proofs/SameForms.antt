-- Forms that are the same.
use Rattle.std.proofs.Common.{◌≡◌, refl, ap, sym, ◌∙◌, Bool, true, false, IsTrue, ◌↔◌}
use Rattle.affine_index.specs.declared.form.Items.{Items}
use Rattle.shape_rules.proofs.SameLaws.{same_form-equal, same_form-same}
use Rattle.term_tree.specs.Shape.{same_form}

pub same_is : (b : Bool) (x y : Items) → (IsTrue b ↔ (x ≡ y)) → b ≡ same_form x y
same_is true x y h = sym (ap (λ z. same_form x z) (sym (h.0 refl)) ∙ same_form-same x)
same_is false x y h = by (same_form x y) refl
  where
    by : (c : Bool) → same_form x y ≡ c → false ≡ c
    by false e = refl
    by true e = h.1 (same_form-equal x y e)
