-- Shapes of sums and products, and of their parts.
use Rattle.std.proofs.Common.{◌≡◌, [], ◌∷◌, refl, ap, sym, ◌∙◌, subst, Ok, Err, IsOk}
use Rattle.path_focus.specs.Focus.{SameOrLimit}
use Rattle.path_focus.proofs.ShapeSteps.{equal_extents, equal_or, next}
use Rattle.term_tree.specs.Shape.{Extents, Shaped, of_equal, of_words, with_child}
use Rattle.rule_parts.proofs.Replacing.{never}
use Rattle.rules_shape_tensor.proofs.ShapeLaws.{IsShape, there}

-- extents that may be added are those of the sum
equal_is : (ns ms : Extents) → IsOk (of_equal ns ms) → of_equal ns ms ≡ Ok ns
equal_is ns ms h =
    let e = equal_extents ns ms h in
    by (of_equal ns ms) refl h (subst (λ xs. SameOrLimit (Ok ns) (of_equal ns xs)) (sym e) (equal_or ns))
  where
    by : (z : Shaped) → of_equal ns ms ≡ z → IsOk z → SameOrLimit (Ok ns) z → of_equal ns ms ≡ Ok ns
    by (Ok xs) q h p = q ∙ sym p
    by (Err m) q h p = absurd (never h)

-- the shape of a sum of two terms of these shapes
abbrev pub sum_of_shapes : Shaped → Shaped → Shaped
sum_of_shapes x y = with_child 0 x (λ ns. with_child 1 y (λ ms. of_equal ns ms))

-- and of a product
abbrev pub product_of_shapes : Shaped → Shaped → Shaped
product_of_shapes x y = with_child 0 x (λ ns. with_child 1 y (λ ms. of_words ns ms))

pub sum_parts : (x y : Shaped) (ns : Extents) → sum_of_shapes x y ≡ Ok ns → (x ≡ Ok ns) × (y ≡ Ok ns)
sum_parts (Ok ks) (Ok ms) ns h =
    let i = there (of_equal ks ms) ns h in
    let same : Ok ks ≡ Ok ns = sym (equal_is ks ms i) ∙ h in
    (same, ap (λ (xs : Extents). Ok xs) (equal_extents ks ms i) ∙ same)
sum_parts (Ok ks) (Err m) ns h = absurd (cc)
sum_parts (Err m) y ns h = absurd (cc)

pub product_parts : (x y : Shaped) (ns : Extents) → product_of_shapes x y ≡ Ok ns → IsShape (Ok ns) [] × IsShape x [] × IsShape y []
product_parts (Ok []) (Ok []) ns h = (sym h, refl, refl)
product_parts (Ok []) (Ok (m ∷ ms)) ns h = absurd (cc)
product_parts (Ok (k ∷ ks)) (Ok ms) ns h = absurd (cc)
product_parts (Ok ks) (Err m) ns h = absurd (cc)
product_parts (Err m) y ns h = absurd (cc)

-- of terms whose shapes stay or break a limit
pub sum_or : (ns : Extents) (x y : Shaped) → SameOrLimit (Ok ns) x → SameOrLimit (Ok ns) y → SameOrLimit (Ok ns) (sum_of_shapes x y)
sum_or ns x y p q = next 0 x (λ ks. with_child 1 y (λ ms. of_equal ks ms)) ns ns p (next 1 y (λ ms. of_equal ns ms) ns ns q (equal_or ns))

pub product_or : (x y : Shaped) → SameOrLimit (Ok []) x → SameOrLimit (Ok []) y → SameOrLimit (Ok []) (product_of_shapes x y)
product_or x y p q = next 0 x (λ ks. with_child 1 y (λ ms. of_words ks ms)) [] [] p (next 1 y (λ ms. of_words [] ms) [] [] q refl)
