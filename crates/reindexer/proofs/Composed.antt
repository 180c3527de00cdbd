-- Frames after frames: what the first send is sent on by the others.
use Rattle.std.proofs.Common.{◌≡◌, ℕ, ◌+◌, ◌*◌, ◌<◌, List, [], ◌∷◌, ◌++◌, length, Option, Some, None, refl, sym, ap, ◌∙◌, subst, arith, Bool, true, false}
use Rattle.std.proofs.Common.{if◌then◌else◌, nat_lt}
use Rattle.std.specs.Prelude.{ℤ, pos, negsuc, ◌+ℤ◌}
use Rattle.std.specs.Option.{option_and_then}
use Rattle.affine_index.specs.Value.{items_value}
use Rattle.term_tree.specs.Meaning.{count_of}
use Rattle.term_tree.specs.Shaped.{word_count}
use Rattle.reindexer.specs.Good.{ComposedFramesAreGood, GoodFrames, IsGood}
use Rattle.reindexer.specs.Sending.{Sending, Within, in_front, placed, row_order, send, sent, through}
use Rattle.reindexer.specs.declared.frame.Frame.{Frame}
use Rattle.reindexer.specs.declared.frame.Frame.TheVariants.{Fix, Transpose, Flatten, Split, Shift, Keep}
use Rattle.reindexer.proofs.GoodLaws.{places_good}
use Rattle.reindexer.proofs.SendLaws.{none_some}

some_in : {A B : Type 0} (f : A → Option B) (o : Option A) (b : B) → option_and_then f o ≡ Some b → (a : A) × (o ≡ Some a) × (f a ≡ Some b)
some_in f None b h = none_some h
some_in f (Some a) b h = (a, refl, h)

module _ {A : Type 0} (f : Sending A) (g : Sending A) (h : Sending (List ℕ)) (e : (ix : List ℕ) → g ix ≡ option_and_then f (h ix)) where
  front-then : (z : ℤ) (ix : List ℕ) → in_front z g ix ≡ option_and_then f (in_front z h ix)
  front-then (pos i) ix = e (i ∷ ix)
  front-then (negsuc i) ix = refl

  test-then : (b : Bool) (ix : List ℕ) → (if b then g ix else None) ≡ option_and_then f (if b then h ix else None)
  test-then true ix = e ix
  test-then false ix = refl

  pub through-then : (s v : List ℕ) (fr : Frame) (ix : List ℕ) → through s v fr g ix ≡ option_and_then f (through s v fr h ix)
  through-then s v (Fix x) ix = front-then (items_value s v x) ix
  through-then s v Transpose [] = refl
  through-then s v Transpose (x ∷ []) = refl
  through-then s v Transpose (x ∷ y ∷ ix) = e (y ∷ x ∷ ix)
  through-then s v (Flatten m) [] = refl
  through-then s v (Flatten m) (x ∷ []) = refl
  through-then s v (Flatten m) (x ∷ y ∷ ix) = e ((x * count_of (items_value s [] m) + y) ∷ ix)
  through-then s v (Split k) [] = refl
  through-then s v (Split k) (x ∷ ix) = e _
  through-then s v (Shift a) [] = refl
  through-then s v (Shift a) (x ∷ ix) = front-then (pos x +ℤ items_value s [] a) ix
  through-then s v (Keep m) [] = refl
  through-then s v (Keep m) (x ∷ ix) = test-then (nat_lt x (count_of (items_value s [] m))) (x ∷ ix)

module _ (s v : List ℕ) where
  -- what the frames send is sent on
  pub sent-is : {A : Type 0} (fs : List Frame) (f : Sending A) (ix : List ℕ) → sent s v fs f ix ≡ option_and_then f (send s v fs ix)
  sent-is [] f ix = refl
  sent-is (fr ∷ fs) f ix = through-then f (sent s v fs f) (send s v fs) (sent-is fs f) s v fr ix

  pub sent-append : {A : Type 0} (fs gs : List Frame) (f : Sending A) → sent s v (fs ++ gs) f ≡ sent s v fs (sent s v gs f)
  sent-append [] gs f = refl
  sent-append (fr ∷ fs) gs f = ap (through s v fr) (sent-append fs gs f)

  composed : {A : Type 0} (P : A → Type 0) (f : Sending A) (fs : List Frame) (ds es : List ℕ) → GoodFrames s v fs ds es → IsGood P es f
      → IsGood P ds (sent s v fs f)
  composed P f fs ds es g h = record {
    lies = λ ix a w e.
        let i = some_in f (send s v fs ix) a (sym (sent-is fs f ix) ∙ e) in h.lies i.0 a (g.lies ix i.0 w i.1) i.2;
    apart = λ ix jx a w u e k.
        let i = some_in f (send s v fs ix) a (sym (sent-is fs f ix) ∙ e) in
        let j = some_in f (send s v fs jx) a (sym (sent-is fs f jx) ∙ k) in
        let same = h.apart i.0 j.0 a (g.lies ix i.0 w i.1) (g.lies jx j.0 u j.1) i.2 j.2 in
        g.apart ix jx j.0 w u (i.1 ∙ ap Some same) j.1;
  }

  composed-frames : (fs gs : List Frame) (ds es hs : List ℕ) → GoodFrames s v fs ds es → GoodFrames s v gs es hs → GoodFrames s v (fs ++ gs) ds hs
  composed-frames fs gs ds es hs g h = subst (IsGood (Within hs) ds) (sym (sent-append fs gs Some)) (composed (Within hs) (send s v gs) fs ds es g h)

  composed-places : (fs : List Frame) (ds es : List ℕ) → GoodFrames s v fs ds es → IsGood (λ p. p < word_count es) ds (sent s v fs (placed 0 es))
  composed-places fs ds es g = composed (λ p. p < word_count es) (placed 0 es) fs ds es g (places_good.places es)

pub composed_frames : ComposedFramesAreGood
composed_frames = record { frames = composed-frames; places = composed-places }

-- the place of a tuple of as many indices as extents
pub placed-row : (at : ℕ) (ds ix : List ℕ) → length ix ≡ length ds → placed at ds ix ≡ Some (at + row_order ds ix)
placed-row at [] [] h = let e : at ≡ at + 0 = omega arith in ap Some e
placed-row at [] (i ∷ ix) h = absurd (omega (arith, h))
placed-row at (d ∷ ds) [] h = absurd (omega (arith, h))
placed-row at (d ∷ ds) (i ∷ ix) h =
    let e : at + i * word_count ds + row_order ds ix ≡ at + (i * word_count ds + row_order ds ix) = omega arith in
    placed-row (at + i * word_count ds) ds ix (omega (arith, h)) ∙ ap Some e
