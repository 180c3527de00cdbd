-- The numbers of lengths, and the trees that compute them.
use Rattle.std.proofs.Common.{◌≡◌, ℕ, zero, suc, ◌+◌, ◌/◌, ◌≤◌, List, [], ◌∷◌, length, take, drop, refl, ap, sym, ◌∙◌, arith, Bool, true, false, not, ◌&&◌}
use Rattle.std.proofs.Common.{length-take, length-drop, if◌then◌else◌, Ok, Some, None}
use Rattle.std.specs.Prelude.{max, ℤ, pos, ◌+ℤ◌}
use Rattle.std.proofs.lemmas.Bool.{and_parts}
use Rattle.std.proofs.lemmas.Int.{ints}
use Rattle.affine_index.specs.Normal.{holds_var}
use Rattle.affine_index.specs.Sum.{sum_of}
use Rattle.affine_index.specs.Value.{items_value}
use Rattle.affine_index.specs.declared.form.Items.{Items}
use Rattle.affine_index.proofs.SumValue.{sum_of-value}
use Rattle.affine_index.proofs.Values.{value-literal}
use Rattle.loop_lang.specs.declared.index.Iexp.TheVariants as index
use Rattle.loop_lang.specs.Reckoning.{larger}
use Rattle.loop_lang.proofs.IndexForms.{index_larger-is}
use Rattle.index_trees.specs.Value.{tree_value}
use Rattle.index_trees.proofs.TreeValue.{free_after}
use Rattle.reindexer.specs.Limited.{Limited, limited}
use Rattle.reindexer.proofs.IndexLaws.{first_ok, limited_is}
use Rattle.term_tree.specs.Shape.{same_form}
use Rattle.region_plan.specs.Length.{is_nothing, larger_of, length_tree, length_value, longer, same_length, zero_form}
use Rattle.region_plan.specs.Needed.{by_halves, no_words}
use Rattle.region_plan.specs.Syntax.{topped}
use Rattle.region_plan.specs.declared.length.Length.{Length, Plain}
use Rattle.region_plan.proofs.SameLaws.{same_form-equal}

abbrev ok_length : Length → Limited Length
ok_length l = Ok l

same_pos : (m n : ℕ) → pos m ≡ pos n → m ≡ n
same_pos m n h = cc

ok_same : (l m : Length) → ok_length l ≡ ok_length m → l ≡ m
ok_same l m h = cc

-- lengths that are one form
pub same_length-equal : (a b : Length) → same_length a b ≡ true → a ≡ b
same_length-equal (Plain x) (Plain y) h = ap Plain (same_form-equal x y h)
same_length-equal (Plain x) (topped y c d) h = absurd (cc)
same_length-equal (topped x a b) (Plain y) h = absurd (cc)
same_length-equal (topped x a b) (topped y c d) h =
    let p = and_parts (same_form x y) (same_length a c && same_length b d) h in
    let q = and_parts (same_length a c) (same_length b d) p.1 in
    λ i. topped (same_form-equal x y p.0 i) (same_length-equal a c q.0 i) (same_length-equal b d q.1 i)

-- no form holds an index variable
abbrev pub LengthFree : Length → Type 0
LengthFree (Plain x) = not (holds_var x) ≡ true
LengthFree (topped x a b) = (not (holds_var x) ≡ true) × LengthFree a × LengthFree b

larger_number : (j k : ℕ) → larger (pos j) (pos k) ≡ pos (max j k)
larger_number j k = grind (arith, ints)

nothing_more : (n : ℕ) → pos n +ℤ pos 0 ≡ pos n
nothing_more n = omega (arith, ints)

-- with w more words
more_number : (g y x w : ℤ) (i j : ℕ) → y ≡ w +ℤ x → w ≡ pos i → g +ℤ x ≡ pos j → g +ℤ y ≡ pos (i + j)
more_number g y x w i j a b c = omega (arith, ints, a, b, c)

nothing_before : (z : ℤ) → pos 0 +ℤ z ≡ z
nothing_before z = omega (arith, ints)

module _ (s : List ℕ) where
  pub no_words-value : length_value s no_words ≡ pos 0
  no_words-value = value-literal s [] (pos 0)

  nothing_value : (l : Length) → is_nothing l ≡ true → length_value s l ≡ pos 0
  nothing_value (Plain x) h = ap (items_value s []) (same_form-equal x zero_form h) ∙ value-literal s [] (pos 0)
  nothing_value (topped x a b) h = absurd (cc)

  -- the larger of two lengths has the larger number
  pub larger_length : (a b : Length) (m n : ℕ) → length_value s a ≡ pos m → length_value s b ≡ pos n → length_value s (larger_of a b) ≡ pos (max m n)
  larger_length a b m n h k = first (same_length a b) refl
    where
      third : (v : Bool) → is_nothing b ≡ v → length_value s (if v then a else topped zero_form a b) ≡ pos (max m n)
      third true e =
          let z = same_pos n 0 (sym k ∙ nothing_value b e) in
          let q : m ≡ max m n = omega (arith, z) in h ∙ ap pos q
      third false e = (λ i. larger (h i) (k i) +ℤ no_words-value i) ∙ ap (λ z. z +ℤ pos 0) (larger_number m n) ∙ nothing_more (max m n)

      second : (v : Bool) → is_nothing a ≡ v → length_value s (if v then b else (if is_nothing b then a else topped zero_form a b)) ≡ pos (max m n)
      second true e =
          let z = same_pos m 0 (sym h ∙ nothing_value a e) in
          let q : n ≡ max m n = omega (arith, z) in k ∙ ap pos q
      second false e = third (is_nothing b) refl

      first : (v : Bool) → same_length a b ≡ v
          → length_value s (if v then a else (if is_nothing a then b else (if is_nothing b then a else topped zero_form a b))) ≡ pos (max m n)
      first true e =
          let z = same_pos m n (sym h ∙ ap (length_value s) (same_length-equal a b e) ∙ k) in
          let q : m ≡ max m n = omega (arith, z) in h ∙ ap pos q
      first false e = second (is_nothing a) refl

  sum_value : (n x y : Items) → limited (sum_of n x) ≡ Ok y → items_value s [] y ≡ items_value s [] n +ℤ items_value s [] x
  sum_value n x y h = ap (items_value s []) (sym (limited_is (sum_of n x) y h)) ∙ sum_of-value s [] n x

  -- a longer length has so much more
  pub longer_length : (n : Items) (l z : Length) (i j : ℕ) → longer n l ≡ Ok z → items_value s [] n ≡ pos i → length_value s l ≡ pos j
      → length_value s z ≡ pos (i + j)
  longer_length n (Plain x) z i j h p q =
      let f = first_ok (limited (sum_of n x)) (λ y. Ok (Plain y)) z h in
      let e : Plain f.0 ≡ z = ok_same (Plain f.0) z f.2 in
      sym (ap (length_value s) e) ∙ sum_value n x f.0 f.1 ∙ (λ t. p t +ℤ q t)
  longer_length n (topped x a b) z i j h p q =
      let f = first_ok (limited (sum_of n x)) (λ y. Ok (topped y a b)) z h in
      let e : topped f.0 a b ≡ z = ok_same (topped f.0 a b) z f.2 in
      sym (ap (length_value s) e)
      ∙ more_number (larger (length_value s a) (length_value s b)) (items_value s [] f.0) (items_value s [] x) (items_value s [] n) i j (sum_value n x f.0 f.1)
      p q

  -- the tree of a length stands for its value
  pub tree_stands : (l : Length) → LengthFree l → tree_value (length_tree l) s [] ≡ length_value s l
  tree_stands (Plain x) g = free_after s [] 0 x None g ∙ nothing_before (items_value s [] x)
  tree_stands (topped x a b) g =
      let t = index.Larger (length_tree a) (length_tree b) in
      free_after s [] 0 x (Some t) g.0
      ∙ ap (λ z. z +ℤ items_value s [] x) (ap (λ u. tree_value u s []) (index_larger-is (length_tree a) (length_tree b))
      ∙ (λ i. larger (tree_stands a g.1 i) (tree_stands b g.2 i)))

  -- the largest of numbers
  abbrev pub largest : List ℕ → ℕ
  largest [] = 0
  largest (n ∷ ns) = max n (largest ns)

  abbrev pub HaveLengths : List Length → List ℕ → Type 0
  HaveLengths [] [] = Unit {0}
  HaveLengths [] (n ∷ ns) = ⊥
  HaveLengths (l ∷ ls) [] = ⊥
  HaveLengths (l ∷ ls) (n ∷ ns) = (length_value s l ≡ pos n) × HaveLengths ls ns

  take_lengths : (h : ℕ) (ls : List Length) (ns : List ℕ) → HaveLengths ls ns → HaveLengths (take h ls) (take h ns)
  take_lengths zero ls ns q = tt
  take_lengths (suc h) [] [] q = tt
  take_lengths (suc h) [] (n ∷ ns) q = absurd q
  take_lengths (suc h) (l ∷ ls) [] q = absurd q
  take_lengths (suc h) (l ∷ ls) (n ∷ ns) q = (q.0, take_lengths h ls ns q.1)

  drop_lengths : (h : ℕ) (ls : List Length) (ns : List ℕ) → HaveLengths ls ns → HaveLengths (drop h ls) (drop h ns)
  drop_lengths zero ls ns q = q
  drop_lengths (suc h) [] [] q = tt
  drop_lengths (suc h) [] (n ∷ ns) q = absurd q
  drop_lengths (suc h) (l ∷ ls) [] q = absurd q
  drop_lengths (suc h) (l ∷ ls) (n ∷ ns) q = drop_lengths h ls ns q.1

  largest_parts : (h : ℕ) (ns : List ℕ) → max (largest (take h ns)) (largest (drop h ns)) ≡ largest ns
  largest_parts zero ns = omega arith
  largest_parts (suc h) [] = omega arith
  largest_parts (suc h) (n ∷ ns) = let e = largest_parts h ns in omega (arith, e)

  -- the larger by halves has the largest number
  pub halves_length : (room : ℕ) (ls : List Length) (ns : List ℕ) → length ls ≤ room + 1 → HaveLengths ls ns
      → length_value s (by_halves room ls) ≡ pos (largest ns)
  halves_length room [] [] q h = no_words-value
  halves_length room [] (n ∷ ns) q h = absurd h
  halves_length room (l ∷ []) [] q h = absurd h
  halves_length room (l ∷ []) (n ∷ []) q h = let e : n ≡ max n 0 = omega arith in h.0 ∙ ap pos e
  halves_length room (l ∷ []) (n ∷ o ∷ ns) q h = absurd h.1
  halves_length zero (l ∷ m ∷ ls) ns q h = absurd (omega (arith, q))
  halves_length (suc room) (l ∷ m ∷ ls) ns q h =
      let all = l ∷ m ∷ ls in
      let half = (length all + 1) / 2 in
      let low : 1 ≤ half = halves_low (length ls) in
      let high : half + 1 ≤ length all = halves_high (length ls) in
      let a = halves_length room (take half all) (take half ns) (omega (arith, length-take half all, q, high)) (take_lengths half all ns h) in
      let b = halves_length room (drop half all) (drop half ns) (omega (arith, length-drop half all, q, low)) (drop_lengths half all ns h) in
      larger_length (by_halves room (take half all)) (by_halves room (drop half all)) (largest (take half ns)) (largest (drop half ns)) a b
      ∙ ap pos (largest_parts half ns)
    where
      halves_low : (n : ℕ) → 1 ≤ (suc (suc n) + 1) / 2
      halves_low n = grind arith

      halves_high : (n : ℕ) → (suc (suc n) + 1) / 2 + 1 ≤ suc (suc n)
      halves_high n = grind arith
