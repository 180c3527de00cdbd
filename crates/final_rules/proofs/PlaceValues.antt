-- What is owed, in numbers: the place of a read in range, and whether tests hold.
use Rattle.std.proofs.Common.{◌≡◌, ℕ, ◌+◌, ◌*◌, ◌<◌, List, [], ◌∷◌, length, refl, ap, ◌∙◌, arith, Bool, true, false, ◌&&◌, not, if◌then◌else◌}
use Rattle.std.specs.Prelude.{ℤ, pos, negsuc, ◌+ℤ◌, ◌*ℤ◌, int_lt}
use Rattle.std.proofs.lemmas.Int.{ints}
use Rattle.affine_index.specs.Condition.{all_hold, at_least_zero, cmp_form, cmp_holds}
use Rattle.affine_index.specs.declared.cond.Cmp.{Cmp}
use Rattle.affine_index.specs.declared.cond.Cmp.TheVariants.{Ge, Eq}
use Rattle.affine_index.specs.declared.cond.Rel.TheVariants.{Ge as AtLeast, Eq as Equal}
use Rattle.affine_index.specs.declared.form.Items.{Items}
use Rattle.affine_index.specs.Product.{product_of}
use Rattle.affine_index.specs.Sum.{sum_of}
use Rattle.affine_index.specs.Value.{items_value}
use Rattle.affine_index.proofs.SumValue.{sum_of-value}
use Rattle.affine_index.proofs.Values.{value-literal, value-product}
use Rattle.std.specs.Ordering.{int_eq}
use Rattle.term_tree.specs.Meaning.{extent}
use Rattle.term_tree.specs.Modules.{extents_at}
use Rattle.term_tree.specs.Shape.{Extents}
use Rattle.term_tree.specs.Shaped.{word_count}
use Rattle.loop_lang.specs.Reckoning.{Value, Verdict, Holds, IsFalse, reckon, compared, and_also, tested}
use Rattle.reindexer.specs.Sending.{Within, row_order}
use Rattle.final_rules.specs.Owed.{Exactly, EachExactly, Values, test_of, tests_of}
use Rattle.final_rules.specs.Places.{Site, length_form, length_from, place_form, row_form, row_from}

module _ (s : List ℕ) where
  -- one index for each extent, at least 0 and below it
  abbrev pub InRange : List Items → Extents → List ℕ → Type 0
  InRange [] [] y = Unit {0}
  InRange [] (n ∷ ns) y = ⊥
  InRange (x ∷ xs) [] y = ⊥
  InRange (x ∷ xs) (n ∷ ns) y = ((i : ℕ) × (items_value s y x ≡ pos i) × (i < extent n s)) × InRange xs ns y

  -- indices in range have values within the extents
  pub range-values : (xs : List Items) (ns : Extents) (y : List ℕ) → InRange xs ns y → (ix : List ℕ) × Values s xs y ix × Within (extents_at ns s) ix
  range-values [] [] y h = ([], tt, tt)
  range-values [] (n ∷ ns) y h = absurd h
  range-values (x ∷ xs) [] y h = absurd h
  range-values (x ∷ xs) (n ∷ ns) y h = let rest = range-values xs ns y h.1 in (h.0.0 ∷ rest.0, (h.0.1, rest.1), (h.0.2, rest.2))

  -- extents that are not negative
  abbrev pub Counts : Extents → List ℕ → Type 0
  Counts [] y = Unit {0}
  Counts (n ∷ ns) y = (items_value s y n ≡ pos (extent n s)) × Counts ns y

  row_from-value : (y : List ℕ) (x : Items) (a : ℕ) (ns : Extents) (xs : List Items) (ix : List ℕ) → items_value s y x ≡ pos a → Counts ns y → Values s xs y ix
      → Within (extents_at ns s) ix
      → items_value s y (row_from x ns xs) ≡ pos (a * word_count (extents_at ns s) + row_order (extents_at ns s) ix)
  row_from-value y x a [] [] [] h c v w = let e : a ≡ a * 1 + 0 = omega arith in h ∙ ap pos e
  row_from-value y x a [] xs (i ∷ ix) h c v w = absurd w
  row_from-value y x a [] (z ∷ xs) [] h c v w = absurd v
  row_from-value y x a (n ∷ ns) xs [] h c v w = absurd w
  row_from-value y x a (n ∷ ns) [] (i ∷ ix) h c v w = absurd v
  row_from-value y x a (n ∷ ns) (z ∷ xs) (i ∷ ix) h c v w =
      let d = extent n s in
      let p = word_count (extents_at ns s) in
      let q = row_order (extents_at ns s) ix in
      let now : items_value s y (sum_of (product_of x n) z) ≡ pos (a * d + i) =
      sum_of-value s y (product_of x n) z ∙ ap (λ u. u +ℤ items_value s y z) (value-product s y x n ∙ (λ j. h j *ℤ c.0 j))
      ∙ ap (λ u. (pos a *ℤ pos d) +ℤ u) v.0 in
      let e : (a * d + i) * p + q ≡ a * (d * p) + (i * p + q) = grind arith in
      row_from-value y (sum_of (product_of x n) z) (a * d + i) ns xs ix now c.1 v.1 w.1 ∙ ap pos e

  pub row-value : (y : List ℕ) (ns : Extents) (xs : List Items) (ix : List ℕ) → Counts ns y → Values s xs y ix → Within (extents_at ns s) ix
      → items_value s y (row_form ns xs) ≡ pos (row_order (extents_at ns s) ix)
  row-value y [] xs ix c v w = value-literal s y (pos 0)
  row-value y (n ∷ ns) [] [] c v w = absurd w
  row-value y (n ∷ ns) [] (i ∷ ix) c v w = absurd v
  row-value y (n ∷ ns) (x ∷ xs) [] c v w = absurd w
  row-value y (n ∷ ns) (x ∷ xs) (i ∷ ix) c v w = row_from-value y x i ns xs ix v.0 c.1 v.1 w.1

  -- the place of a read: its tensor's offset, and the row-order place of its indices
  pub place-value : (y : List ℕ) (b : Site) (xs : List Items) (base : ℕ) → Counts b.extents y → items_value s y b.offset ≡ pos base → InRange xs b.extents y
      → (ix : List ℕ) × Values s xs y ix × Within (extents_at b.extents s) ix
      × (items_value s y (place_form b xs) ≡ pos (base + row_order (extents_at b.extents s) ix))
  place-value y b xs base c o h =
      let r = range-values xs b.extents y h in
      let e : row_order (extents_at b.extents s) r.0 + base ≡ base + row_order (extents_at b.extents s) r.0 = omega arith in
      (r.0, r.1, r.2, sum_of-value s y (row_form b.extents xs) b.offset ∙ (λ j. row-value y b.extents xs r.0 c r.1 r.2 j +ℤ o j) ∙ ap pos e)

  length_from-value : (y : List ℕ) (x : Items) (a : ℕ) (ns : Extents) → items_value s y x ≡ pos a → Counts ns y
      → items_value s y (length_from x ns) ≡ pos (a * word_count (extents_at ns s))
  length_from-value y x a [] h c = let e : a ≡ a * 1 = omega arith in h ∙ ap pos e
  length_from-value y x a (n ∷ ns) h c =
      let e : a * extent n s * word_count (extents_at ns s) ≡ a * (extent n s * word_count (extents_at ns s)) = grind arith in
      length_from-value y (product_of x n) (a * extent n s) ns (value-product s y x n ∙ (λ j. h j *ℤ c.0 j)) c.1 ∙ ap pos e

  -- the length of a tensor is the number of its words
  pub length-value : (y : List ℕ) (ns : Extents) → Counts ns y → items_value s y (length_form ns) ≡ pos (word_count (extents_at ns s))
  length-value y [] c = value-literal s y (pos 1)
  length-value y (n ∷ ns) c = length_from-value y n (extent n s) ns c.0 c.1

at-least-zero : (z : ℤ) → not (int_lt z (pos 0)) ≡ at_least_zero z
at-least-zero (pos n) = grind (arith, ints)
at-least-zero (negsuc n) = grind (arith, ints)

equals-zero : (z : ℤ) → (not (int_lt z (pos 0)) && not (int_lt (pos 0) z)) ≡ int_eq z (pos 0)
equals-zero z = grind (arith, ints)

abbrev pub verdict : Bool → Verdict
verdict b = if b then Holds else IsFalse

joins : (b d : Bool) → and_also (verdict b) (verdict d) ≡ verdict (b && d)
joins true d = refl
joins false d = refl

one-test : (s r y : List ℕ) (c : Cmp) → Exactly s (cmp_form c) r y
    → compared (test_of (length r) c).rel (reckon (test_of (length r) c).left s r) (reckon (test_of (length r) c).right s r) ≡ verdict (cmp_holds s y c)
one-test s r y (Ge x) e = ap (λ u. compared AtLeast u (Value (pos 0))) e.0 ∙ ap verdict (at-least-zero (items_value s y x))
one-test s r y (Eq x) e = ap (λ u. compared Equal u (Value (pos 0))) e.0 ∙ ap verdict (equals-zero (items_value s y x))

-- tests that are exact hold where the condition does
pub tests-hold : (s r y : List ℕ) (cs : List Cmp) → EachExactly s cs r y → tested (tests_of (length r) cs) s r ≡ verdict (all_hold s y cs)
tests-hold s r y [] h = refl
tests-hold s r y (c ∷ cs) h = (λ i. and_also (one-test s r y c h.0 i) (tests-hold s r y cs h.1 i)) ∙ joins (cmp_holds s y c) (all_hold s y cs)
