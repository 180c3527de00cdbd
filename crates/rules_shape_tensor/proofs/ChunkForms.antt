-- The numbers of chunks and of what fills them up.
use Rattle.std.proofs.Common.{◌≡◌, ℕ, ◌+◌, ◌-◌, ◌*◌, ◌/◌, ◌<◌, ◌≤◌, List, [], ap, sym, ◌∙◌, arith, true}
use Rattle.std.specs.Prelude.{ℤ, pos, negsuc, ◌+ℤ◌, ◌*ℤ◌}
use Rattle.std.specs.Int.{int_div_euclid}
use Rattle.std.proofs.lemmas.Int.{ints}
use Rattle.affine_index.specs.Form.{literal_form}
use Rattle.affine_index.specs.Limited.{items_scoped}
use Rattle.affine_index.specs.Sum.{scaled, sum_of}
use Rattle.affine_index.specs.Value.{items_value}
use Rattle.affine_index.specs.declared.form.Items.{Items}
use Rattle.affine_index.proofs.FormScopes.{difference-form, form-of, of-form, quotient-form, scaled-form, sum-form}
use Rattle.affine_index.proofs.SumValue.{sum_of-value}
use Rattle.affine_index.proofs.Values.{value-literal, value-quotient}
use Rattle.path_focus.specs.Making.{in_tile, tile_rest}
use Rattle.path_focus.proofs.MakingLaws.{value-tile_rest}
use Rattle.term_tree.specs.Shape.{tiles}

-- so many chunks of k hold m rows
abbrev pub chunk_count : ℕ → ℕ → ℕ
chunk_count k m = (m + k - 1) / k

pub covers : (k m : ℕ) → 0 < k → m ≤ k * chunk_count k m
covers k m h = omega arith

-- and n chunks the rows of n chunks
pub count_whole : (k n : ℕ) → 0 < k → chunk_count k (n * k) ≡ n
count_whole k n h = grind (arith, h)

module _ (s : List ℕ) (k m : ℕ) (n : Items) (positive : 0 < k) (value : items_value s [] n ≡ pos m) where
  last-is : (a k : ℕ) → 0 < k → a + (k - 1) ≡ a + k - 1
  last-is a k h = omega arith

  value-tiles : items_value s [] (tiles k n) ≡ pos (chunk_count k m)
  value-tiles =
      value-quotient s [] (sum_of n (literal_form (pos (k - 1)))) k positive
      ∙ ap (λ z. int_div_euclid z (pos k))
      (sum_of-value s [] n (literal_form (pos (k - 1))) ∙ (λ i. value i +ℤ value-literal s [] (pos (k - 1)) i))
      ∙ (λ i. pos (last-is m k positive i / k))

  back : (z : ℤ) (a b : ℕ) → z +ℤ pos a ≡ pos b → a ≤ b → z ≡ pos (b - a)
  back (pos c) a b e h = let f : c + a ≡ b = plain (c + a) b e in ap pos (omega (arith, f))
    where
      plain : (x y : ℕ) → pos x ≡ pos y → x ≡ y
      plain x y e = cc
  back (negsuc c) a b e h = absurd (omega (arith, ints, e))

  pub value-rest : items_value s [] (tile_rest k n) ≡ pos (k * chunk_count k m - m)
  value-rest = back (items_value s [] (tile_rest k n)) m (k * chunk_count k m)
      (ap (λ z. items_value s [] (tile_rest k n) +ℤ z) (sym value) ∙ value-tile_rest s [] k n ∙ ap (λ z. pos k *ℤ z) value-tiles) (covers k m positive)

-- scopes
module _ (sizes w : ℕ) where
  pub literal-scoped : (z : ℤ) → items_scoped sizes w (literal_form z) ≡ true
  literal-scoped z = of-form sizes w (literal_form z) tt

  pub rest-scoped : (k : ℕ) (n : Items) → items_scoped sizes w n ≡ true → items_scoped sizes w (tile_rest k n) ≡ true
  rest-scoped k n h =
      let form = form-of sizes w n h in
      let more = sum-form sizes w n (literal_form (pos (k - 1))) form tt in
      let count = quotient-form sizes w (sum_of n (literal_form (pos (k - 1)))) k more in
      of-form sizes w (tile_rest k n) (difference-form sizes w (scaled (pos k) (tiles k n)) n (scaled-form sizes w (pos k) (tiles k n) count) form)

  pub tile-scoped : (k : ℕ) (p q : Items) → items_scoped sizes w p ≡ true → items_scoped sizes w q ≡ true → items_scoped sizes w (in_tile k p q) ≡ true
  tile-scoped k p q h g =
      of-form sizes w (in_tile k p q) (sum-form sizes w (scaled (pos k) p) q (scaled-form sizes w (pos k) p (form-of sizes w p h)) (form-of sizes w q g))
