-- The indices of frames with and without limits, and a place with no index more.
use Rattle.std.proofs.Common.{◌≡◌, ℕ, ◌≤◌, List, [], ◌∷◌, length, drop, refl, ap, ◌∙◌, arith, length-drop, Bool, true, false, not, if◌then◌else◌}
use Rattle.std.proofs.Common.{Ok, Err}
use Rattle.std.specs.Prelude.{pos}
use Rattle.affine_index.specs.Normal.{coefficients_fit, is_short}
use Rattle.affine_index.specs.Product.{product_of}
use Rattle.affine_index.specs.Quotient.{quotient_of, remainder_of}
use Rattle.affine_index.specs.Sum.{scaled, sum_of}
use Rattle.affine_index.specs.declared.form.Items.{Items}
use Rattle.affine_index.specs.declared.refusal.AffRefusal.TheVariants.{CoefficientTooLarge, IndexTooLong}
use Rattle.reindexer.specs.Indices.{framed, indices_after}
use Rattle.reindexer.specs.Limited.{Limited, and_then, limited}
use Rattle.reindexer.specs.Places.{before, limited_frame, limited_indices, one_of_two, row_place_from, two_of_one}
use Rattle.reindexer.specs.declared.frame.Frame.{Frame}
use Rattle.reindexer.specs.declared.frame.Frame.TheVariants.{Fix, Transpose, Flatten, Split, Shift, Keep}

none_left : {A : Type 0} (us : List A) → length us ≡ 0 → us ≡ []
none_left [] e = refl
none_left (u ∷ us) e = absurd (omega (arith, e))

nothing : (x : Items) (ds : List Items) → row_place_from x ds [] ≡ Ok x
nothing x [] = refl
nothing x (d ∷ ds) = refl

-- no index more
pub place-indices : (x : Items) (ds ys : List Items) (i : ℕ) → length ys ≤ i → row_place_from x (drop i ds) (drop i ys) ≡ Ok x
place-indices x ds ys i h = ap (row_place_from x (drop i ds)) (none_left (drop i ys) (omega (arith, length-drop i ys))) ∙ nothing x (drop i ds)

-- a form that is within the limits is itself
if_within : (a b : Bool) (i j : Items) → (if not a then Err CoefficientTooLarge else (if not b then Err IndexTooLong else Ok i)) ≡ Ok j → i ≡ j
if_within true true i j e = cc
if_within true false i j e = absurd (cc)
if_within false b i j e = absurd (cc)

pub limited_is : (i j : Items) → limited i ≡ Ok j → i ≡ j
limited_is i j h = if_within (coefficients_fit i) (is_short i) i j h

-- what came first, where the whole has an answer
pub first_ok : {A B : Type 0} (x : Limited A) (f : A → Limited B) (y : B) → and_then x f ≡ Ok y → (a : A) × (x ≡ Ok a) × (f a ≡ Ok y)
first_ok (Ok a) f y h = (a, refl, h)
first_ok (Err e) f y h = absurd (cc)

same_answer : {A : Type 0} (x y : A) (r : Limited A) → r ≡ Ok x → r ≡ Ok y → x ≡ y
same_answer x y r h k = cc

one_is : (x m y z : Items) → one_of_two x m y ≡ Ok z → sum_of (product_of x m) y ≡ z
one_is x m y z h =
    let p = first_ok (limited (product_of x m)) (λ p. limited (sum_of p y)) z h in
    ap (λ q. sum_of q y) (limited_is (product_of x m) p.0 p.1) ∙ limited_is (sum_of p.0 y) z p.2

two_is : (k : ℕ) (x : Items) (xs ys : List Items) → two_of_one k x xs ≡ Ok ys → quotient_of x k ∷ remainder_of x k ∷ xs ≡ ys
two_is k x xs ys h =
    let q = first_ok (limited (quotient_of x k)) _ ys h in
    let m = first_ok (limited (scaled (pos k) q.0)) _ ys q.2 in
    let r = first_ok (limited (remainder_of x k)) _ ys m.2 in
    (λ i. limited_is (quotient_of x k) q.0 q.1 i ∷ limited_is (remainder_of x k) r.0 r.1 i ∷ xs)
    ∙ same_answer (q.0 ∷ r.0 ∷ xs) ys (Ok (q.0 ∷ r.0 ∷ xs)) refl r.2

-- the indices of a frame with limits are those without
pub frame_is : (f : Frame) (xs ys : List Items) → limited_frame f xs ≡ Ok ys → framed f xs ≡ ys
frame_is (Fix x) xs ys h = same_answer (x ∷ xs) ys (Ok (x ∷ xs)) refl h
frame_is Transpose [] ys h = same_answer [] ys (Ok []) refl h
frame_is Transpose (x ∷ []) ys h = same_answer [] ys (Ok []) refl h
frame_is Transpose (x ∷ y ∷ xs) ys h = same_answer (y ∷ x ∷ xs) ys (Ok (y ∷ x ∷ xs)) refl h
frame_is (Flatten m) [] ys h = same_answer [] ys (Ok []) refl h
frame_is (Flatten m) (x ∷ []) ys h = same_answer [] ys (Ok []) refl h
frame_is (Flatten m) (x ∷ y ∷ xs) ys h =
    let p = first_ok (one_of_two x m y) (before xs) ys h in
    ap (λ z. z ∷ xs) (one_is x m y p.0 p.1) ∙ same_answer (p.0 ∷ xs) ys (Ok (p.0 ∷ xs)) refl p.2
frame_is (Split k) [] ys h = same_answer [] ys (Ok []) refl h
frame_is (Split k) (x ∷ xs) ys h = two_is k x xs ys h
frame_is (Shift a) [] ys h = same_answer [] ys (Ok []) refl h
frame_is (Shift a) (x ∷ xs) ys h =
    let p = first_ok (limited (sum_of x a)) (before xs) ys h in
    ap (λ z. z ∷ xs) (limited_is (sum_of x a) p.0 p.1) ∙ same_answer (p.0 ∷ xs) ys (Ok (p.0 ∷ xs)) refl p.2
frame_is (Keep m) xs ys h = same_answer xs ys (Ok xs) refl h

pub indices_are : (fs : List Frame) (xs ys : List Items) → limited_indices fs xs ≡ Ok ys → indices_after fs xs ≡ ys
indices_are [] xs ys h = same_answer xs ys (Ok xs) refl h
indices_are (f ∷ fs) xs ys h =
    let p = first_ok (limited_frame f xs) (limited_indices fs) ys h in
    ap (indices_after fs) (frame_is f xs p.0 p.1) ∙ indices_are fs p.0 ys p.2

-- the row-order place of indices without limits
abbrev pub place_from : Items → List Items → List Items → Items
place_from x [] ys = x
place_from x (d ∷ ds) [] = x
place_from x (d ∷ ds) (y ∷ ys) = place_from (sum_of (product_of x d) y) ds ys

pub row_place_is : (x : Items) (ds ys : List Items) (z : Items) → row_place_from x ds ys ≡ Ok z → place_from x ds ys ≡ z
row_place_is x [] ys z h = same_answer x z (Ok x) refl h
row_place_is x (d ∷ ds) [] z h = same_answer x z (Ok x) refl h
row_place_is x (d ∷ ds) (y ∷ ys) z h =
    let p = first_ok (one_of_two x d y) (λ q. row_place_from q ds ys) z h in
    ap (λ q. place_from q ds ys) (one_is x d y p.0 p.1) ∙ row_place_is p.0 ds ys z p.2
