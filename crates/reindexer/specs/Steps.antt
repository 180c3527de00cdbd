-- The frames that terms put in front of good frames are good again.
use Rattle.std.specs.Prelude.{◌≡◌, ℕ, ◌+◌, ◌-◌, ◌*◌, ◌/◌, ◌<◌, List, [], ◌∷◌, pos, negsuc, true}
use Rattle.affine_index.specs.Form.{var_form}
use Rattle.affine_index.specs.Sum.{scaled}
use Rattle.affine_index.specs.Value.{items_value}
use Rattle.affine_index.specs.declared.form.Items.{Items}
use Rattle.reindexer.specs.Good.{GoodFrames}
use Rattle.reindexer.specs.Lifted.{fixes_normal, lifted}
use Rattle.reindexer.specs.declared.frame.Frame.{Frame}
use Rattle.reindexer.specs.declared.frame.Frame.TheVariants.{Fix, Transpose, Flatten, Split, Shift, Keep}

-- at sizes s and index variables v, with frames fs around a term into extents es; on the left of each last arrow the
-- extents of the term, on the right those of its part
pub record TermsKeepGood (s v : List ℕ) (fs : List Frame) (es : List ℕ) : Type 0 where
  -- the i-th turn of a gen
  pub gen : (i n : ℕ) (ds : List ℕ) → fixes_normal fs ≡ true → i < n → GoodFrames s v fs (n ∷ ds) es → GoodFrames s (i ∷ v) (Fix (var_form 0) ∷ lifted fs) ds es
  -- a turn of a sum
  pub sum : (i : ℕ) (ds : List ℕ) → fixes_normal fs ≡ true → GoodFrames s v fs ds es → GoodFrames s (i ∷ v) (lifted fs) ds es
  pub transpose : (n m : ℕ) (ds : List ℕ) → GoodFrames s v fs (m ∷ n ∷ ds) es → GoodFrames s v (Transpose ∷ fs) (n ∷ m ∷ ds) es
  -- by the second extent
  pub flatten : (a : Items) (n m : ℕ) (ds : List ℕ) → items_value s [] a ≡ pos m → GoodFrames s v fs ((n * m) ∷ ds) es
      → GoodFrames s v (Flatten a ∷ fs) (n ∷ m ∷ ds) es
  pub split : (n k : ℕ) (ds : List ℕ) → 0 < k → GoodFrames s v fs (((n + k - 1) / k) ∷ k ∷ ds) es → GoodFrames s v (Split k ∷ fs) (n ∷ ds) es
  -- rows before: a pad, or the right part of a concat
  pub pad_l : (a : Items) (n b : ℕ) (ds : List ℕ) → items_value s [] a ≡ pos b → GoodFrames s v fs ((n + b) ∷ ds) es → GoodFrames s v (Shift a ∷ fs) (n ∷ ds) es
  -- rows behind: a pad, or the left part of a concat
  pub pad_r : (n b : ℕ) (ds : List ℕ) → GoodFrames s v fs ((n + b) ∷ ds) es → GoodFrames s v fs (n ∷ ds) es
  pub trunc_l : (a : Items) (n b : ℕ) (ds : List ℕ) → items_value s [] a ≡ pos b → GoodFrames s v fs ((n - b) ∷ ds) es
      → GoodFrames s v (Shift (scaled (negsuc 0) a) ∷ fs) (n ∷ ds) es
  -- what is left of the rows is kept
  pub trunc_r : (m : Items) (n b : ℕ) (ds : List ℕ) → items_value s [] m ≡ pos (n - b) → GoodFrames s v fs ((n - b) ∷ ds) es
      → GoodFrames s v (Keep m ∷ fs) (n ∷ ds) es

-- so around every term; and without frames a term's extents are the buffer's
pub record TermFramesAreGood : Type 0 where
  pub none : (s v es : List ℕ) → GoodFrames s v [] es es
  pub steps : (s v : List ℕ) (fs : List Frame) (es : List ℕ) → TermsKeepGood s v fs es
