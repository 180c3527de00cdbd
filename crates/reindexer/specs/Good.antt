-- Good sendings: what they do not drop lies where it shall, and two different tuples go to two.
use Rattle.std.specs.Prelude.{◌≡◌, ℕ, ◌+◌, ◌-◌, ◌*◌, ◌/◌, ◌<◌, List, ◌∷◌, ◌++◌, ℤ, pos, ◌+ℤ◌, Some}
use Rattle.term_tree.specs.Meaning.{count_of}
use Rattle.term_tree.specs.Shaped.{word_count}
use Rattle.reindexer.specs.Sending.{Sending, Within, in_front, swapped, flattened, spread, moved, kept, placed, send, sent}
use Rattle.reindexer.specs.declared.frame.Frame.{Frame}

-- of the tuples within extents
pub record IsGood {A : Type 0} (P : A → Type 0) (ds : List ℕ) (f : Sending A) : Type 0 where
  -- what a tuple is sent to has the property
  pub lies : (ix : List ℕ) (a : A) → Within ds ix → f ix ≡ Some a → P a
  -- tuples that are sent to one are one
  pub apart : (ix jx : List ℕ) (a : A) → Within ds ix → Within ds jx → f ix ≡ Some a → f jx ≡ Some a → ix ≡ jx

-- frames are good for extents into extents, at sizes s and index variables v
abbrev pub GoodFrames : List ℕ → List ℕ → List Frame → List ℕ → List ℕ → Type 0
GoodFrames s v fs ds es = IsGood (Within es) ds (send s v fs)

-- each kind of frame keeps goodness; first the extents further out, then those before the frame
pub record KeepsGood {A : Type 0} (P : A → Type 0) (f : Sending A) : Type 0 where
  -- an index in front that is below the extent
  pub fix : (n i : ℕ) (ds : List ℕ) → i < n → IsGood P (n ∷ ds) f → IsGood P ds (in_front (pos i) f)
  pub transpose : (n m : ℕ) (ds : List ℕ) → IsGood P (m ∷ n ∷ ds) f → IsGood P (n ∷ m ∷ ds) (swapped f)
  pub flatten : (n m : ℕ) (ds : List ℕ) → IsGood P ((n * m) ∷ ds) f → IsGood P (n ∷ m ∷ ds) (flattened m f)
  pub split : (n k : ℕ) (ds : List ℕ) → 0 < k → IsGood P (((n + k - 1) / k) ∷ k ∷ ds) f → IsGood P (n ∷ ds) (spread k f)
  pub shift : (n : ℕ) (z : ℤ) (ds : List ℕ) → IsGood P (count_of (pos n +ℤ z) ∷ ds) f → IsGood P (n ∷ ds) (moved z f)
  pub keep : (n m : ℕ) (ds : List ℕ) → IsGood P (m ∷ ds) f → IsGood P (n ∷ ds) (kept m f)
  -- no frame, in a wider extent
  pub wider : (n m : ℕ) (ds : List ℕ) → IsGood P ((n + m) ∷ ds) f → IsGood P (n ∷ ds) f

-- whether tuples go to tuples within extents, or to places below a number
pub record FramesStayGood : Type 0 where
  pub tuples : (es : List ℕ) (f : Sending (List ℕ)) → KeepsGood (Within es) f
  pub places : (words : ℕ) (f : Sending ℕ) → KeepsGood (λ p. p < words) f

-- tuples within extents are good as they are, and their row-order places lie within the words of the extents
pub record PlacesAreGood : Type 0 where
  pub tuples : (ds : List ℕ) → IsGood (Within ds) ds Some
  pub places : (ds : List ℕ) → IsGood (λ p. p < word_count ds) ds (placed 0 ds)

-- frames that are good into the extents for which others further out are good; and with the places of a buffer of those extents
pub record ComposedFramesAreGood : Type 0 where
  pub frames : (s v : List ℕ) (fs gs : List Frame) (ds es hs : List ℕ) → GoodFrames s v fs ds es → GoodFrames s v gs es hs → GoodFrames s v (fs ++ gs) ds hs
  pub places : (s v : List ℕ) (fs : List Frame) (ds es : List ℕ) → GoodFrames s v fs ds es → IsGood (λ p. p < word_count es) ds (sent s v fs (placed 0 es))
