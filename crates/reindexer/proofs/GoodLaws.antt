-- Each kind of frame keeps goodness, and places are good.
use Rattle.std.proofs.Common.{◌≡◌, ℕ, ◌+◌, ◌-◌, ◌*◌, ◌/◌, ◌%◌, ◌<◌, ◌≤◌, List, [], ◌∷◌, Some, refl, sym, ap, ◌∙◌, subst, ⊎_elim, arith}
use Rattle.std.proofs.Common.{nat_lt}
use Rattle.std.specs.Prelude.{ℤ, pos, ◌+ℤ◌}
use Rattle.std.proofs.lemmas.Bool.{cases_lt}
use Rattle.std.proofs.lemmas.Int.{ints}
use Rattle.std.proofs.lemmas.Nat.{mul-add-lt, same_from_place, div-add-mod'}
use Rattle.std.proofs.Math.Nat.{mod-lt, mul_comm, mul-le-mul_right}
use Rattle.term_tree.specs.Meaning.{count_of}
use Rattle.reindexer.specs.Good.{FramesStayGood, IsGood, KeepsGood, PlacesAreGood}
use Rattle.reindexer.specs.Sending.{Sending, Within, flattened, in_front, kept, moved, row_order, spread, swapped}
use Rattle.reindexer.proofs.RowOrder.{place_inj, place_lt, placed-is}
use Rattle.reindexer.proofs.SendLaws.{below_is, front_in, none_some, test_in}

same_some : {A : Type 0} (x y : A) → Some x ≡ Some y → x ≡ y
same_some x y h = cc

same_pos : (m n : ℕ) → pos m ≡ pos n → m ≡ n
same_pos m n h = cc

heads : (i j : ℕ) (ix jx : List ℕ) → i ∷ ix ≡ j ∷ jx → i ≡ j
heads i j ix jx h = cc

tails : (i j : ℕ) (ix jx : List ℕ) → i ∷ ix ≡ j ∷ jx → ix ≡ jx
tails i j ix jx h = cc

module _ {A : Type 0} (P : A → Type 0) (f : Sending A) where
  good_fix : (n i : ℕ) (ds : List ℕ) → i < n → IsGood P (n ∷ ds) f → IsGood P ds (in_front (pos i) f)
  good_fix n i ds l g = record {
    lies = λ ix a w e. g.lies (i ∷ ix) a (l, w) e;
    apart = λ ix jx a w u e h. tails i i ix jx (g.apart (i ∷ ix) (i ∷ jx) a (l, w) (l, u) e h);
  }

  swapped_in : (n m : ℕ) (ds ix : List ℕ) (a : A) → Within (n ∷ m ∷ ds) ix → swapped f ix ≡ Some a → (x : ℕ) × (y : ℕ) × (jx : List ℕ) × (ix ≡ x ∷ y ∷ jx)
      × Within (m ∷ n ∷ ds) (y ∷ x ∷ jx) × (f (y ∷ x ∷ jx) ≡ Some a)
  swapped_in n m ds [] a w e = none_some e
  swapped_in n m ds (x ∷ []) a w e = none_some e
  swapped_in n m ds (x ∷ y ∷ jx) a w e = (x, y, jx, refl, (w.1.0, (w.0, w.1.1)), e)

  good_swapped : (n m : ℕ) (ds : List ℕ) → IsGood P (m ∷ n ∷ ds) f → IsGood P (n ∷ m ∷ ds) (swapped f)
  good_swapped n m ds g = record {
    lies = λ ix a w e. let i = swapped_in n m ds ix a w e in g.lies (i.1 ∷ i.0 ∷ i.2) a i.4 i.5;
    apart = λ ix jx a w u e h.
        let i = swapped_in n m ds ix a w e in
        let j = swapped_in n m ds jx a u h in
        let same = g.apart (i.1 ∷ i.0 ∷ i.2) (j.1 ∷ j.0 ∷ j.2) a i.4 j.4 i.5 j.5 in
        let y = heads i.1 j.1 (i.0 ∷ i.2) (j.0 ∷ j.2) same in
        let rest = tails i.1 j.1 (i.0 ∷ i.2) (j.0 ∷ j.2) same in
        i.3 ∙ (λ t. heads i.0 j.0 i.2 j.2 rest t ∷ y t ∷ tails i.0 j.0 i.2 j.2 rest t) ∙ sym j.3;
  }

  flat_in : (n m : ℕ) (ds ix : List ℕ) (a : A) → Within (n ∷ m ∷ ds) ix → flattened m f ix ≡ Some a → (x : ℕ) × (y : ℕ) × (jx : List ℕ) × (ix ≡ x ∷ y ∷ jx)
      × (y < m) × Within ((n * m) ∷ ds) ((x * m + y) ∷ jx) × (f ((x * m + y) ∷ jx) ≡ Some a)
  flat_in n m ds [] a w e = none_some e
  flat_in n m ds (x ∷ []) a w e = none_some e
  flat_in n m ds (x ∷ y ∷ jx) a w e = (x, y, jx, refl, w.1.0, (subst (λ k. x * m + y < k) (mul_comm m n) (mul-add-lt x m y n w.0 w.1.0), w.1.1), e)

  good_flat : (n m : ℕ) (ds : List ℕ) → IsGood P ((n * m) ∷ ds) f → IsGood P (n ∷ m ∷ ds) (flattened m f)
  good_flat n m ds g = record {
    lies = λ ix a w e. let i = flat_in n m ds ix a w e in g.lies ((i.0 * m + i.1) ∷ i.2) a i.5 i.6;
    apart = λ ix jx a w u e h.
        let i = flat_in n m ds ix a w e in
        let j = flat_in n m ds jx a u h in
        let same = g.apart ((i.0 * m + i.1) ∷ i.2) ((j.0 * m + j.1) ∷ j.2) a i.5 j.5 i.6 j.6 in
        let both = same_from_place i.0 i.1 j.0 j.1 m i.4 j.4 (heads (i.0 * m + i.1) (j.0 * m + j.1) i.2 j.2 same) in
        let rest = tails (i.0 * m + i.1) (j.0 * m + j.1) i.2 j.2 same in
        i.3 ∙ (λ t. both.0 t ∷ both.1 t ∷ rest t) ∙ sym j.3;
  }

  -- chunks hold all rows
  chunks_hold : (n k : ℕ) → 0 < k → n ≤ (n + k - 1) / k * k
  chunks_hold n k h =
      let d = div-add-mod' (n + k - 1) k in
      let l : (n + k - 1) % k < k = mod-lt (n + k - 1) h in
      omega arith

  chunk_of : (n k i : ℕ) → 0 < k → i < n → i / k < (n + k - 1) / k
  chunk_of n k i h l =
      let d = div-add-mod' i k in
      let e = chunks_hold n k h in
      ⊎_elim (λ (g : i / k < (n + k - 1) / k). g)
      (λ (g : (n + k - 1) / k ≤ i / k). let less : (n + k - 1) / k * k ≤ i / k * k = mul-le-mul_right k g in absurd (omega arith))
      (cases_lt (i / k) ((n + k - 1) / k))

  spread_in : (n k : ℕ) (ds ix : List ℕ) (a : A) → 0 < k → Within (n ∷ ds) ix → spread k f ix ≡ Some a → (i : ℕ) × (jx : List ℕ) × (ix ≡ i ∷ jx)
      × Within (((n + k - 1) / k) ∷ k ∷ ds) ((i / k) ∷ (i % k) ∷ jx) × (f ((i / k) ∷ (i % k) ∷ jx) ≡ Some a)
  spread_in n k ds [] a p w e = none_some e
  spread_in n k ds (i ∷ ix) a p w e = (i, ix, refl, (chunk_of n k i p w.0, (mod-lt i p, w.1)), e)

  good_spread : (n k : ℕ) (ds : List ℕ) → 0 < k → IsGood P (((n + k - 1) / k) ∷ k ∷ ds) f → IsGood P (n ∷ ds) (spread k f)
  good_spread n k ds p g = record {
    lies = λ ix a w e. let i = spread_in n k ds ix a p w e in g.lies ((i.0 / k) ∷ (i.0 % k) ∷ i.1) a i.3 i.4;
    apart = λ ix jx a w u e h.
        let i = spread_in n k ds ix a p w e in
        let j = spread_in n k ds jx a p u h in
        let same = g.apart ((i.0 / k) ∷ (i.0 % k) ∷ i.1) ((j.0 / k) ∷ (j.0 % k) ∷ j.1) a i.3 j.3 i.4 j.4 in
        let q = heads (i.0 / k) (j.0 / k) ((i.0 % k) ∷ i.1) ((j.0 % k) ∷ j.1) same in
        let rest = tails (i.0 / k) (j.0 / k) ((i.0 % k) ∷ i.1) ((j.0 % k) ∷ j.1) same in
        let r = heads (i.0 % k) (j.0 % k) i.1 j.1 rest in
        let x : i.0 ≡ j.0 = sym (div-add-mod' i.0 k) ∙ (λ t. q t * k + r t) ∙ div-add-mod' j.0 k in
        i.2 ∙ (λ t. x t ∷ tails (i.0 % k) (j.0 % k) i.1 j.1 rest t) ∙ sym j.2;
  }

  moved_below : (n i j : ℕ) (z : ℤ) → i < n → pos i +ℤ z ≡ pos j → j < count_of (pos n +ℤ z)
  moved_below n i j z l h =
      let e : pos n +ℤ z ≡ pos (j + (n - i)) = omega (arith, ints, h) in
      subst (λ c. j < c) (sym (ap count_of e)) (omega arith)

  moved_in : (n : ℕ) (z : ℤ) (ds ix : List ℕ) (a : A) → Within (n ∷ ds) ix → moved z f ix ≡ Some a → (i : ℕ) × (j : ℕ) × (jx : List ℕ) × (ix ≡ i ∷ jx)
      × (pos i +ℤ z ≡ pos j) × Within (count_of (pos n +ℤ z) ∷ ds) (j ∷ jx) × (f (j ∷ jx) ≡ Some a)
  moved_in n z ds [] a w e = none_some e
  moved_in n z ds (i ∷ ix) a w e = let p = front_in (pos i +ℤ z) f ix a e in (i, p.0, ix, refl, p.1, (moved_below n i p.0 z w.0 p.1, w.1), p.2)

  same_moved : (i j k : ℕ) (z : ℤ) → pos i +ℤ z ≡ pos k → pos j +ℤ z ≡ pos k → i ≡ j
  same_moved i j k z e h = omega (arith, ints, e, h)

  good_moved : (n : ℕ) (z : ℤ) (ds : List ℕ) → IsGood P (count_of (pos n +ℤ z) ∷ ds) f → IsGood P (n ∷ ds) (moved z f)
  good_moved n z ds g = record {
    lies = λ ix a w e. let i = moved_in n z ds ix a w e in g.lies (i.1 ∷ i.2) a i.5 i.6;
    apart = λ ix jx a w u e h.
        let i = moved_in n z ds ix a w e in
        let j = moved_in n z ds jx a u h in
        let same = g.apart (i.1 ∷ i.2) (j.1 ∷ j.2) a i.5 j.5 i.6 j.6 in
        let x = same_moved i.0 j.0 j.1 z (i.4 ∙ ap pos (heads i.1 j.1 i.2 j.2 same)) j.4 in
        i.3 ∙ (λ t. x t ∷ tails i.1 j.1 i.2 j.2 same t) ∙ sym j.3;
  }

  kept_in : (n m : ℕ) (ds ix : List ℕ) (a : A) → Within (n ∷ ds) ix → kept m f ix ≡ Some a → Within (m ∷ ds) ix × (f ix ≡ Some a)
  kept_in n m ds [] a w e = none_some e
  kept_in n m ds (i ∷ ix) a w e = let p = test_in (nat_lt i m) (f (i ∷ ix)) a e in ((below_is i m p.0, w.1), p.1)

  good_kept : (n m : ℕ) (ds : List ℕ) → IsGood P (m ∷ ds) f → IsGood P (n ∷ ds) (kept m f)
  good_kept n m ds g = record {
    lies = λ ix a w e. let i = kept_in n m ds ix a w e in g.lies ix a i.0 i.1;
    apart = λ ix jx a w u e h. let i = kept_in n m ds ix a w e in let j = kept_in n m ds jx a u h in g.apart ix jx a i.0 j.0 i.1 j.1;
  }

  widen : (n m : ℕ) (ds ix : List ℕ) → Within (n ∷ ds) ix → Within ((n + m) ∷ ds) ix
  widen n m ds [] w = w
  widen n m ds (i ∷ ix) w = (omega (arith, w.0), w.1)

  good_wider : (n m : ℕ) (ds : List ℕ) → IsGood P ((n + m) ∷ ds) f → IsGood P (n ∷ ds) f
  good_wider n m ds g = record {
    lies = λ ix a w e. g.lies ix a (widen n m ds ix w) e;
    apart = λ ix jx a w u e h. g.apart ix jx a (widen n m ds ix w) (widen n m ds jx u) e h;
  }

  pub keeps_good : KeepsGood P f
  keeps_good = record {
    fix = good_fix;
    transpose = good_swapped;
    flatten = good_flat;
    split = good_spread;
    shift = good_moved;
    keep = good_kept;
    wider = good_wider;
  }

pub frames_good : FramesStayGood
frames_good = record {
  tuples = λ es f. keeps_good (Within es) f;
  places = λ n f. keeps_good (λ p. p < n) f;
}

pub places_good : PlacesAreGood
places_good = record {
  tuples = λ ds. record {
    lies = λ ix jx w e. subst (Within ds) (same_some ix jx e) w;
    apart = λ ix jx a w u e h. same_some ix a e ∙ sym (same_some jx a h);
  };
  places = λ ds. record {
    lies = λ ix p w e.
        let q : 0 + row_order ds ix ≡ p = same_some (0 + row_order ds ix) p (sym (placed-is 0 ds ix w) ∙ e) in
        let l = place_lt ds ix w in omega arith;
    apart = λ ix jx p w u e h.
        let q : 0 + row_order ds ix ≡ p = same_some (0 + row_order ds ix) p (sym (placed-is 0 ds ix w) ∙ e) in
        let r : 0 + row_order ds jx ≡ p = same_some (0 + row_order ds jx) p (sym (placed-is 0 ds jx u) ∙ h) in
        place_inj ds ix jx w u (omega arith);
  };
}
