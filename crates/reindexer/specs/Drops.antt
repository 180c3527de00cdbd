-- What frames drop, and the goals that keep it.
use Rattle.std.specs.Prelude.{◌≡◌, ℕ, List, [], ◌∷◌, pos, true, Some}
use Rattle.affine_index.specs.Condition.{at_least_zero}
use Rattle.affine_index.specs.Form.{literal_form}
use Rattle.affine_index.specs.Sum.{difference_of, sum_of}
use Rattle.affine_index.specs.Value.{items_value}
use Rattle.affine_index.specs.declared.form.Items.{Items}
use Rattle.reindexer.specs.Indices.{framed}
use Rattle.reindexer.specs.Ready.{AmountsHold, frames_ready}
use Rattle.reindexer.specs.Sending.{send}
use Rattle.reindexer.specs.declared.frame.Frame.{Frame}
use Rattle.reindexer.specs.declared.frame.Frame.TheVariants.{Fix, Transpose, Flatten, Split, Shift, Keep}

-- at these sizes and index variables no frame drops the tuple of these forms: indices in front and moved ones are not
-- negative, kept ones are below their amount, and each frame finds the indices that it needs
abbrev pub NoneDropped : List ℕ → List ℕ → List Frame → List Items → Type 0
NoneDropped s v [] xs = Unit {0}
NoneDropped s v (Fix x ∷ fs) xs = (at_least_zero (items_value s v x) ≡ true) × NoneDropped s v fs (framed (Fix x) xs)
NoneDropped s v (Transpose ∷ fs) (x ∷ y ∷ xs) = NoneDropped s v fs (framed Transpose (x ∷ y ∷ xs))
NoneDropped s v (Flatten m ∷ fs) (x ∷ y ∷ xs) = NoneDropped s v fs (framed (Flatten m) (x ∷ y ∷ xs))
NoneDropped s v (Split k ∷ fs) (x ∷ xs) = NoneDropped s v fs (framed (Split k) (x ∷ xs))
NoneDropped s v (Shift a ∷ fs) (x ∷ xs) = (at_least_zero (items_value s v (sum_of x a)) ≡ true) × NoneDropped s v fs (framed (Shift a) (x ∷ xs))
NoneDropped s v (Keep m ∷ fs) (x ∷ xs) = (at_least_zero (items_value s v (difference_of (difference_of m (literal_form (pos 1))) x)) ≡ true)
    × NoneDropped s v fs (x ∷ xs)
NoneDropped s v (f ∷ fs) xs = ⊥

-- then the leaf is sent somewhere
abbrev pub GoalsKeepTuples : Type 0
GoalsKeepTuples =
    (s v : List ℕ) (fs : List Frame) → frames_ready fs ≡ true → AmountsHold s fs → NoneDropped s v fs []
    → (ix : List ℕ) × (send s v fs [] ≡ Some ix)
