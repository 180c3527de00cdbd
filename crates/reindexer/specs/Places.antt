-- The form of a place, taken form by form: frame by frame from the leaf outward, then over the extents from the first.
use Rattle.std.specs.Prelude.{◌≡◌, ℕ, List, [], ◌∷◌, length, pos, Ok, Some}
use Rattle.affine_index.specs.Form.{literal_form}
use Rattle.affine_index.specs.Product.{product_of}
use Rattle.affine_index.specs.Quotient.{quotient_of, remainder_of}
use Rattle.affine_index.specs.Sum.{scaled, sum_of}
use Rattle.affine_index.specs.Value.{items_value}
use Rattle.affine_index.specs.declared.form.Items.{Items}
use Rattle.term_tree.specs.Modules.{extents_at}
use Rattle.reindexer.specs.Limited.{Limited, and_then, limited}
use Rattle.reindexer.specs.Ready.{AmountsHold, ExtentsHold}
use Rattle.reindexer.specs.Sending.{row_order, send}
use Rattle.reindexer.specs.declared.frame.Frame.{Frame}
use Rattle.reindexer.specs.declared.frame.Frame.TheVariants.{Fix, Transpose, Flatten, Split, Shift, Keep}

-- x*m + y: the product, then the sum
abbrev pub one_of_two : Items → Items → Items → Limited Items
one_of_two x m y = and_then (limited (product_of x m)) (λ p. limited (sum_of p y))

-- x/k and x%k in front of others: the quotient, then k*(x/k), then the remainder
abbrev pub two_of_one : ℕ → Items → List Items → Limited (List Items)
two_of_one k x xs =
    and_then (limited (quotient_of x k)) (λ q.
    and_then (limited (scaled (pos k) q)) (λ _.
    and_then (limited (remainder_of x k)) (λ r. Ok (q ∷ r ∷ xs))))

-- a form in front of others
abbrev pub before : List Items → Items → Limited (List Items)
before xs x = Ok (x ∷ xs)

-- what one frame makes of the indices, and none where it does not find what it needs
abbrev pub limited_frame : Frame → List Items → Limited (List Items)
limited_frame (Fix x) xs = Ok (x ∷ xs)
limited_frame Transpose [] = Ok []
limited_frame Transpose (x ∷ []) = Ok []
limited_frame Transpose (x ∷ y ∷ xs) = Ok (y ∷ x ∷ xs)
limited_frame (Flatten m) [] = Ok []
limited_frame (Flatten m) (x ∷ []) = Ok []
limited_frame (Flatten m) (x ∷ y ∷ xs) = and_then (one_of_two x m y) (before xs)
limited_frame (Split k) [] = Ok []
limited_frame (Split k) (x ∷ xs) = two_of_one k x xs
limited_frame (Shift a) [] = Ok []
limited_frame (Shift a) (x ∷ xs) = and_then (limited (sum_of x a)) (before xs)
limited_frame (Keep m) xs = Ok xs

-- what all frames make of them, from the leaf outward
abbrev pub limited_indices : List Frame → List Items → Limited (List Items)
limited_indices [] xs = Ok xs
limited_indices (f ∷ fs) xs = and_then (limited_frame f xs) (limited_indices fs)

-- a place so far, and more indices in more extents
abbrev pub row_place_from : Items → List Items → List Items → Limited Items
row_place_from x [] ys = Ok x
row_place_from x (d ∷ ds) [] = Ok x
row_place_from x (d ∷ ds) (y ∷ ys) = and_then (one_of_two x d y) (λ z. row_place_from z ds ys)

-- the row-order place of indices in extents: (..(x1*d2 + x2)*d3 ..) + xr
abbrev pub row_place : List Items → List Items → Limited Items
row_place [] xs = Ok (literal_form (pos 0))
row_place (d ∷ ds) [] = Ok (literal_form (pos 0))
row_place (d ∷ ds) (x ∷ xs) = row_place_from x ds xs

-- the place of the leaf in a buffer of these extents
abbrev pub limited_place : List Frame → List Items → Limited Items
limited_place fs ds = and_then (limited_indices fs []) (row_place ds)

-- at sizes at which no amount of a Flatten and no extent is negative, the form stands for the row-order place of the tuple
-- to which the frames send the leaf
abbrev pub HasPlace : List Frame → List Items → Items → Type 0
HasPlace fs ds x =
    (s v ix : List ℕ) → AmountsHold s fs → ExtentsHold s ds → send s v fs [] ≡ Some ix → length ix ≡ length ds
    → items_value s v x ≡ pos (row_order (extents_at ds s) ix)
