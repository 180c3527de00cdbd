-- Tuples that are sent are values of the forms of the indices.
use Rattle.std.proofs.Common.{◌≡◌, ℕ, ◌+◌, ◌*◌, ◌/◌, ◌%◌, ◌<◌, List, [], ◌∷◌, Option, Some, None, refl, sym, ap, ◌∙◌, arith, Bool}
use Rattle.std.proofs.Common.{true, false, ◌&&◌, not, if◌then◌else◌, nat_lt}
use Rattle.std.specs.Prelude.{ℤ, pos, negsuc, ◌+ℤ◌, ◌*ℤ◌}
use Rattle.std.specs.Int.{int_div_euclid, int_rem_euclid}
use Rattle.std.proofs.lemmas.Bool.{and_parts}
use Rattle.affine_index.specs.Condition.{at_least_zero}
use Rattle.affine_index.specs.Form.{literal_form}
use Rattle.affine_index.specs.Normal.{holds_var}
use Rattle.affine_index.specs.Product.{product_of}
use Rattle.affine_index.specs.Quotient.{quotient_of, remainder_of}
use Rattle.affine_index.specs.Sum.{difference_of, sum_of}
use Rattle.affine_index.specs.Value.{items_value}
use Rattle.affine_index.specs.declared.form.Items.{Items}
use Rattle.affine_index.proofs.RemainderLaws.{value-remainder}
use Rattle.affine_index.proofs.SumValue.{sum_of-value}
use Rattle.affine_index.proofs.Values.{value-difference, value-literal, value-product, value-quotient}
use Rattle.term_tree.specs.Meaning.{count_of}
use Rattle.reindexer.specs.Drops.{NoneDropped}
use Rattle.reindexer.specs.Indices.{framed, indices_after}
use Rattle.reindexer.specs.Ready.{AmountsHold, frame_ready, frames_ready}
use Rattle.reindexer.specs.Sending.{Sending, in_front, send, sent, through}
use Rattle.reindexer.specs.declared.frame.Frame.{Frame}
use Rattle.reindexer.specs.declared.frame.Frame.TheVariants.{Fix, Transpose, Flatten, Split, Shift, Keep}
use Rattle.reindexer.proofs.FreeValue.{free_value}

pub none_some : {A : Type 0} {x : A} {B : Type 0} → None ≡ Some x → B
none_some e = absurd (cc)

pub not_negative : (z : ℤ) → at_least_zero z ≡ true → z ≡ pos (count_of z)
not_negative (pos n) h = refl
not_negative (negsuc n) h = absurd (cc)

pub not_false : (b : Bool) → not b ≡ true → b ≡ false
not_false true h = absurd (cc)
not_false false h = refl

pub tile_positive : (k : ℕ) (b : Bool) → (nat_lt 0 k && b) ≡ true → 0 < k
tile_positive k b h = let p : nat_lt 0 k ≡ true = (and_parts (nat_lt 0 k) b h).0 in grind arith

-- a tuple that is not dropped
pub front_in : {A : Type 0} (z : ℤ) (f : Sending A) (ix : List ℕ) (a : A) → in_front z f ix ≡ Some a → (i : ℕ) × (z ≡ pos i) × (f (i ∷ ix) ≡ Some a)
front_in (pos i) f ix a h = (i, refl, h)
front_in (negsuc i) f ix a h = none_some h

pub test_in : {A : Type 0} (b : Bool) (x : Option A) (a : A) → (if b then x else None) ≡ Some a → (b ≡ true) × (x ≡ Some a)
test_in true x a h = (refl, h)
test_in false x a h = none_some h

pub below_is : (i m : ℕ) → nat_lt i m ≡ true → i < m
below_is i m h = grind arith

pub is_below : (i m : ℕ) → i < m → nat_lt i m ≡ true
is_below i m h = grind arith

module _ (s v : List ℕ) where
  -- the forms have the numbers of the tuple
  abbrev pub Values : List Items → List ℕ → Type 0
  Values [] [] = Unit {0}
  Values [] (i ∷ ix) = ⊥
  Values (x ∷ xs) [] = ⊥
  Values (x ∷ xs) (i ∷ ix) = (items_value s v x ≡ pos i) × Values xs ix

  -- the tuple after one frame, which goes where the tuple before it does
  abbrev Goes : {A : Type 0} → Sending A → List Items → A → Type 0
  Goes f xs a = (ix : List ℕ) × Values xs ix × (f ix ≡ Some a)

  -- an amount has its number under all variables
  amount_value : (m : Items) → not (holds_var m) ≡ true → items_value s v m ≡ items_value s [] m
  amount_value m h = free_value s v [] m (not_false (holds_var m) h)

  -- whether a Flatten's amount is not negative at the sizes
  abbrev pub AmountHolds : Frame → Type 0
  AmountHolds (Flatten m) = at_least_zero (items_value s [] m) ≡ true
  AmountHolds f = Unit {0}

  flat_value : (x m y : Items) (i j : ℕ) → not (holds_var m) ≡ true → at_least_zero (items_value s [] m) ≡ true → items_value s v x ≡ pos i
      → items_value s v y ≡ pos j
      → items_value s v (sum_of (product_of x m) y) ≡ pos (i * count_of (items_value s [] m) + j)
  flat_value x m y i j g h p q =
      let a : items_value s v m ≡ pos (count_of (items_value s [] m)) = amount_value m g ∙ not_negative (items_value s [] m) h in
      sum_of-value s v (product_of x m) y
      ∙ (λ t. value-product s v x m t +ℤ items_value s v y)
      ∙ (λ t. (p t *ℤ a t) +ℤ q t)

  shift_value : (x a : Items) (i : ℕ) → not (holds_var a) ≡ true → items_value s v x ≡ pos i → items_value s v (sum_of x a) ≡ pos i +ℤ items_value s [] a
  shift_value x a i g p = sum_of-value s v x a ∙ (λ t. p t +ℤ amount_value a g t)

  pub frame_goes : {A : Type 0} (fr : Frame) (f : Sending A) (xs : List Items) (ix : List ℕ) (a : A) → frame_ready fr ≡ true → AmountHolds fr → Values xs ix
      → through s v fr f ix ≡ Some a → Goes f (framed fr xs) a
  frame_goes (Fix x) f xs ix a r m w h = let p = front_in (items_value s v x) f ix a h in (p.0 ∷ ix, (p.1, w), p.2)
  frame_goes Transpose f xs [] a r m w h = none_some h
  frame_goes Transpose f xs (i ∷ []) a r m w h = none_some h
  frame_goes Transpose f [] (i ∷ j ∷ ix) a r m w h = absurd w
  frame_goes Transpose f (x ∷ []) (i ∷ j ∷ ix) a r m w h = absurd w.1
  frame_goes Transpose f (x ∷ y ∷ xs) (i ∷ j ∷ ix) a r m w h = (j ∷ i ∷ ix, (w.1.0, (w.0, w.1.1)), h)
  frame_goes (Flatten n) f xs [] a r m w h = none_some h
  frame_goes (Flatten n) f xs (i ∷ []) a r m w h = none_some h
  frame_goes (Flatten n) f [] (i ∷ j ∷ ix) a r m w h = absurd w
  frame_goes (Flatten n) f (x ∷ []) (i ∷ j ∷ ix) a r m w h = absurd w.1
  frame_goes (Flatten n) f (x ∷ y ∷ xs) (i ∷ j ∷ ix) a r m w h = ((i * count_of (items_value s [] n) + j) ∷ ix, (flat_value x n y i j r m w.0 w.1.0, w.1.1), h)
  frame_goes (Split k) f xs [] a r m w h = none_some h
  frame_goes (Split k) f [] (i ∷ ix) a r m w h = absurd w
  frame_goes (Split k) f (x ∷ xs) (i ∷ ix) a r m w h =
      let p = tile_positive k _ r in (
        (i / k) ∷ (i % k) ∷ ix,
        (value-quotient s v x k p ∙ ap (λ z. int_div_euclid z (pos k)) w.0, (value-remainder s v x k p ∙ ap (λ z. int_rem_euclid z (pos k)) w.0, w.1)),
        h,
      )
  frame_goes (Shift b) f xs [] a r m w h = none_some h
  frame_goes (Shift b) f [] (i ∷ ix) a r m w h = absurd w
  frame_goes (Shift b) f (x ∷ xs) (i ∷ ix) a r m w h =
      let p = front_in (pos i +ℤ items_value s [] b) f ix a h in (p.0 ∷ ix, (shift_value x b i r w.0 ∙ p.1, w.1), p.2)
  frame_goes (Keep n) f xs [] a r m w h = none_some h
  frame_goes (Keep n) f xs (i ∷ ix) a r m w h = (i ∷ ix, w, (test_in (nat_lt i (count_of (items_value s [] n))) (f (i ∷ ix)) a h).1)

  -- the parts of what a list of frames owes
  first_amount : (fr : Frame) (fs : List Frame) → AmountsHold s (fr ∷ fs) → AmountHolds fr × AmountsHold s fs
  first_amount (Fix x) fs h = (tt, h)
  first_amount Transpose fs h = (tt, h)
  first_amount (Flatten m) fs h = h
  first_amount (Split k) fs h = (tt, h)
  first_amount (Shift a) fs h = (tt, h)
  first_amount (Keep m) fs h = (tt, h)

  -- the forms of the indices have the numbers of the tuple that is sent
  pub frames_go : {A : Type 0} (fs : List Frame) (f : Sending A) (xs : List Items) (ix : List ℕ) (a : A) → frames_ready fs ≡ true → AmountsHold s fs
      → Values xs ix → sent s v fs f ix ≡ Some a → Goes f (indices_after fs xs) a
  frames_go [] f xs ix a r m w h = (ix, w, h)
  frames_go (fr ∷ fs) f xs ix a r m w h =
      let rs = and_parts (frame_ready fr) (frames_ready fs) r in
      let ms = first_amount fr fs m in
      let p = frame_goes fr (sent s v fs f) xs ix a rs.0 ms.0 w h in
      frames_go fs f (framed fr xs) p.0 a rs.1 ms.1 p.1 p.2

  kept_below : (n x : Items) (i : ℕ) → not (holds_var n) ≡ true → items_value s v x ≡ pos i
      → at_least_zero (items_value s v (difference_of (difference_of n (literal_form (pos 1))) x)) ≡ true → i < count_of (items_value s [] n)
  kept_below n x i r p h =
      let g = difference_of n (literal_form (pos 1)) in
      let a : items_value s v (difference_of g x) +ℤ pos i ≡ items_value s v g = ap (λ z. items_value s v (difference_of g x) +ℤ z) (sym p)
      ∙ value-difference s v g x in
      let b : items_value s v g +ℤ pos 1 ≡ items_value s [] n = ap (λ z. items_value s v g +ℤ z) (sym (value-literal s v (pos 1)))
      ∙ value-difference s v n (literal_form (pos 1)) ∙ amount_value n r in
      less (items_value s v (difference_of g x)) (items_value s v g) (items_value s [] n) i h a b
    where
      count_is : (z : ℤ) (n : ℕ) → z ≡ pos n → count_of z ≡ n
      count_is z n e = ap count_of e

      less : (d g n : ℤ) (i : ℕ) → at_least_zero d ≡ true → d +ℤ pos i ≡ g → g +ℤ pos 1 ≡ n → i < count_of n
      less (pos d) g n i h a b =
          let e : n ≡ pos (d + i + 1) = sym b ∙ ap (λ z. z +ℤ pos 1) (sym a) in
          omega (arith, count_is n (d + i + 1) e)
      less (negsuc d) g n i h a b = absurd (cc)

  -- where no drop goal is negative, no frame drops the tuple
  pub not_dropped : (fs : List Frame) (xs : List Items) (ix : List ℕ) → frames_ready fs ≡ true → AmountsHold s fs → Values xs ix → NoneDropped s v fs xs
      → (jx : List ℕ) × (send s v fs ix ≡ Some jx)
  not_dropped [] xs ix r m w h = (ix, refl)
  not_dropped (Fix x ∷ fs) xs ix r m w h =
      let e = not_negative (items_value s v x) h.0 in
      let p = not_dropped fs (x ∷ xs) (count_of (items_value s v x) ∷ ix) r m (e, w) h.1 in
      (p.0, (λ t. in_front (e t) (send s v fs) ix) ∙ p.1)
  not_dropped (Transpose ∷ fs) [] ix r m w h = absurd h
  not_dropped (Transpose ∷ fs) (x ∷ []) ix r m w h = absurd h
  not_dropped (Transpose ∷ fs) (x ∷ y ∷ xs) [] r m w h = absurd w
  not_dropped (Transpose ∷ fs) (x ∷ y ∷ xs) (i ∷ []) r m w h = absurd w.1
  not_dropped (Transpose ∷ fs) (x ∷ y ∷ xs) (i ∷ j ∷ ix) r m w h = not_dropped fs (y ∷ x ∷ xs) (j ∷ i ∷ ix) r m (w.1.0, (w.0, w.1.1)) h
  not_dropped (Flatten n ∷ fs) [] ix r m w h = absurd h
  not_dropped (Flatten n ∷ fs) (x ∷ []) ix r m w h = absurd h
  not_dropped (Flatten n ∷ fs) (x ∷ y ∷ xs) [] r m w h = absurd w
  not_dropped (Flatten n ∷ fs) (x ∷ y ∷ xs) (i ∷ []) r m w h = absurd w.1
  not_dropped (Flatten n ∷ fs) (x ∷ y ∷ xs) (i ∷ j ∷ ix) r m w h =
      let rs = and_parts (not (holds_var n)) (frames_ready fs) r in
      not_dropped fs (sum_of (product_of x n) y ∷ xs) ((i * count_of (items_value s [] n) + j) ∷ ix) rs.1 m.1 (flat_value x n y i j rs.0 m.0 w.0 w.1.0, w.1.1) h
  not_dropped (Split k ∷ fs) [] ix r m w h = absurd h
  not_dropped (Split k ∷ fs) (x ∷ xs) [] r m w h = absurd w
  not_dropped (Split k ∷ fs) (x ∷ xs) (i ∷ ix) r m w h =
      let rs = and_parts (frame_ready (Split k)) (frames_ready fs) r in
      let p = tile_positive k _ rs.0 in
      not_dropped fs (quotient_of x k ∷ remainder_of x k ∷ xs) ((i / k) ∷ (i % k) ∷ ix) rs.1 m
      (value-quotient s v x k p ∙ ap (λ z. int_div_euclid z (pos k)) w.0, (value-remainder s v x k p ∙ ap (λ z. int_rem_euclid z (pos k)) w.0, w.1)) h
  not_dropped (Shift a ∷ fs) [] ix r m w h = absurd h
  not_dropped (Shift a ∷ fs) (x ∷ xs) [] r m w h = absurd w
  not_dropped (Shift a ∷ fs) (x ∷ xs) (i ∷ ix) r m w h =
      let rs = and_parts (not (holds_var a)) (frames_ready fs) r in
      let e = sym (shift_value x a i rs.0 w.0) ∙ not_negative (items_value s v (sum_of x a)) h.0 in
      let n = count_of (items_value s v (sum_of x a)) in
      let p = not_dropped fs (sum_of x a ∷ xs) (n ∷ ix) rs.1 m (not_negative (items_value s v (sum_of x a)) h.0, w.1) h.1 in
      (p.0, (λ t. in_front (e t) (send s v fs) ix) ∙ p.1)
  not_dropped (Keep n ∷ fs) [] ix r m w h = absurd h
  not_dropped (Keep n ∷ fs) (x ∷ xs) [] r m w h = absurd w
  not_dropped (Keep n ∷ fs) (x ∷ xs) (i ∷ ix) r m w h =
      let rs = and_parts (not (holds_var n)) (frames_ready fs) r in
      let l = kept_below n x i rs.0 w.0 h.0 in
      let p = not_dropped fs (x ∷ xs) (i ∷ ix) rs.1 m w h.1 in
      (p.0, (λ t. if is_below i (count_of (items_value s [] n)) l t then send s v fs (i ∷ ix) else None) ∙ p.1)
