-- The form of a place has the number of the place.
use Rattle.std.proofs.Common.{◌≡◌, ℕ, ◌+◌, ◌*◌, List, [], ◌∷◌, length, Some, sym, ap, ◌∙◌, subst, arith, true, not, Ok}
use Rattle.std.proofs.Common.{Err, IfOk}
use Rattle.std.specs.Prelude.{pos, ◌+ℤ◌, ◌*ℤ◌}
use Rattle.std.specs.Option.{option_and_then}
use Rattle.std.proofs.lemmas.Bool.{and_parts}
use Rattle.std.proofs.lemmas.List.{length-map}
use Rattle.affine_index.specs.Condition.{at_least_zero}
use Rattle.affine_index.specs.Form.{literal_form}
use Rattle.affine_index.specs.Normal.{holds_var}
use Rattle.affine_index.specs.Product.{product_of}
use Rattle.affine_index.specs.Sum.{sum_of}
use Rattle.affine_index.specs.Value.{items_value}
use Rattle.affine_index.specs.declared.form.Items.{Items}
use Rattle.affine_index.proofs.SumValue.{sum_of-value}
use Rattle.affine_index.proofs.Values.{value-literal, value-product}
use Rattle.term_tree.specs.Meaning.{extent}
use Rattle.term_tree.specs.Modules.{extents_at}
use Rattle.term_tree.specs.Shaped.{word_count}
use Rattle.reindexer.specs.Limited.{Answers, Limited, and_then}
use Rattle.reindexer.specs.Places.{HasPlace, limited_indices, limited_place, row_place}
use Rattle.reindexer.specs.Ready.{AmountsHold, ExtentsHold, extents_ready, frames_ready}
use Rattle.reindexer.specs.Sending.{placed, row_order, sent}
use Rattle.reindexer.proofs.Composed.{placed-row, sent-is}
use Rattle.reindexer.specs.declared.frame.Frame.{Frame}
use Rattle.reindexer.proofs.FreeValue.{free_value}
use Rattle.reindexer.proofs.IndexLaws.{first_ok, indices_are, place_from, row_place_is}
use Rattle.reindexer.proofs.SendLaws.{Values, frames_go, none_some, not_false, not_negative}

same_some : {A : Type 0} (x y : A) → Some x ≡ Some y → x ≡ y
same_some x y h = cc

module _ (s v : List ℕ) where
  extent_value : (d : Items) → not (holds_var d) ≡ true → at_least_zero (items_value s [] d) ≡ true → items_value s v d ≡ pos (extent d s)
  extent_value d r h = free_value s v [] d (not_false (holds_var d) r) ∙ not_negative (items_value s [] d) h

  -- a place so far, and more indices
  from_value : (x : Items) (i : ℕ) (ds xs : List Items) (ix : List ℕ) (p : ℕ) → extents_ready ds ≡ true → ExtentsHold s ds → items_value s v x ≡ pos i
      → Values s v xs ix
      → placed (i * word_count (extents_at ds s)) (extents_at ds s) ix ≡ Some p → items_value s v (place_from x ds xs) ≡ pos p
  from_value x i [] [] [] p r g h w e = let q : i * 1 ≡ i = omega arith in h ∙ ap pos (sym q ∙ same_some (i * 1) p e)
  from_value x i [] [] (j ∷ ix) p r g h w e = absurd w
  from_value x i [] (y ∷ xs) [] p r g h w e = absurd w
  from_value x i [] (y ∷ xs) (j ∷ ix) p r g h w e = none_some e
  from_value x i (d ∷ ds) [] [] p r g h w e = none_some e
  from_value x i (d ∷ ds) [] (j ∷ ix) p r g h w e = absurd w
  from_value x i (d ∷ ds) (y ∷ xs) [] p r g h w e = absurd w
  from_value x i (d ∷ ds) (y ∷ xs) (j ∷ ix) p r g h w e =
      let rs = and_parts (not (holds_var d)) (extents_ready ds) r in
      let n = extent d s in
      let c = word_count (extents_at ds s) in
      let now : items_value s v (sum_of (product_of x d) y) ≡ pos (i * n + j) =
      sum_of-value s v (product_of x d) y ∙ (λ t. value-product s v x d t +ℤ items_value s v y) ∙ (λ t. (h t *ℤ extent_value d rs.0 g.0 t) +ℤ w.0 t) in
      let q : i * (n * c) + j * c ≡ (i * n + j) * c = grind arith in
      from_value (sum_of (product_of x d) y) (i * n + j) ds xs ix p rs.1 g.1 now w.1 (ap (λ a. placed a (extents_at ds s) ix) (sym q) ∙ e)

  row_value : (ds xs : List Items) (ix : List ℕ) (z : Items) (p : ℕ) → extents_ready ds ≡ true → ExtentsHold s ds → Values s v xs ix → row_place ds xs ≡ Ok z
      → placed 0 (extents_at ds s) ix ≡ Some p → items_value s v z ≡ pos p
  row_value [] xs [] z p r g w h e = zero_value z h ∙ ap pos (same_some 0 p e)
    where
      zero_value : (z : Items) → row_place [] xs ≡ Ok z → items_value s v z ≡ pos 0
      zero_value z h = let same : literal_form (pos 0) ≡ z = cc in ap (items_value s v) (sym same) ∙ value-literal s v (pos 0)
  row_value [] xs (i ∷ ix) z p r g w h e = none_some e
  row_value (d ∷ ds) xs [] z p r g w h e = none_some e
  row_value (d ∷ ds) [] (i ∷ ix) z p r g w h e = absurd w
  row_value (d ∷ ds) (x ∷ xs) (i ∷ ix) z p r g w h e =
      let rs = and_parts (not (holds_var d)) (extents_ready ds) r in
      let q : i * word_count (extents_at ds s) ≡ 0 + i * word_count (extents_at ds s) = omega arith in
      ap (items_value s v) (sym (row_place_is x ds xs z h)) ∙ from_value x i ds xs ix p rs.1 g.1 w.0 w.1 (ap (λ a. placed a (extents_at ds s) ix) q ∙ e)

  pub place_value : (fs : List Frame) (ds : List Items) (z : Items) (p : ℕ) → frames_ready fs ≡ true → extents_ready ds ≡ true → limited_place fs ds ≡ Ok z
      → AmountsHold s fs → ExtentsHold s ds → sent s v fs (placed 0 (extents_at ds s)) [] ≡ Some p → items_value s v z ≡ pos p
  place_value fs ds z p r t h m g e =
      let q = first_ok (limited_indices fs []) (row_place ds) z h in
      let go = frames_go s v fs (placed 0 (extents_at ds s)) [] [] p r m tt e in
      row_value ds q.0 go.0 z p t g (subst (λ (xs : List Items). Values s v xs go.0) (indices_are fs [] q.0 q.1) go.1) q.2 go.2

-- the answer of a place stands for it
pub answer_value : (fs : List Frame) (ds : List Items) (r : Limited Items) → frames_ready fs ≡ true → extents_ready ds ≡ true → Answers (limited_place fs ds) r
    → IfOk r (HasPlace fs ds)
answer_value fs ds (Ok x) h k a = λ s v ix m g e l.
    let same : length ix ≡ length (extents_at ds s) = l ∙ sym (length-map ds (λ n. extent n s)) in
    let p = row_order (extents_at ds s) ix in
    let zero : 0 + p ≡ p = omega arith in
    place_value s v fs ds x p h k a m g
    (sent-is s v fs (placed 0 (extents_at ds s)) [] ∙ ap (option_and_then (placed 0 (extents_at ds s))) e ∙ placed-row 0 (extents_at ds s) ix same
    ∙ ap Some zero)
answer_value fs ds (Err e) h k a = tt

-- the answer of a row-order place is that of the place
pub answer_of : (fs : List Frame) (ds xs ys : List Items) (r : Limited Items) → limited_indices fs [] ≡ Ok xs → ys ≡ xs → Answers (row_place ds ys) r
    → Answers (limited_place fs ds) r
answer_of fs ds xs ys r h e a = subst (λ (l : Limited (List Items)). Answers (and_then l (row_place ds)) r) (sym h)
    (subst (λ (zs : List Items). Answers (row_place ds zs) r) e a)
