-- A printed length computes its value, and is within its magnitude.
use Rattle.std.proofs.Common.{◌≡◌, ℕ, ◌+◌, ◌^◌, ◌<◌, ◌≤◌, List, [], length, max, refl, ap, sym, ◌∙◌, arith, Bool, true, false, ◌&&◌, Some, if◌then◌else◌}
use Rattle.std.specs.Prelude.{ℤ, ◌+ℤ◌, int_lt}
use Rattle.std.specs.Int.RustNames.{unsigned_abs}
use Rattle.std.proofs.lemmas.Bool.{and_parts}
use Rattle.std.proofs.lemmas.Int.{ints}
use Rattle.affine_index.specs.Limited.{items_scoped}
use Rattle.affine_index.specs.Magnitude.{magnitude}
use Rattle.affine_index.specs.Normal.{coefficients_fit, is_normal, is_ordered, is_short}
use Rattle.affine_index.specs.Printed.{WithinMaxima}
use Rattle.affine_index.specs.Value.{items_value}
use Rattle.affine_index.proofs.ReadyLaws.{scoped-items}
use Rattle.affine_index.proofs.Sorted.{ordered-terms}
use Rattle.loop_lang.specs.declared.index.Iexp.TheVariants.{Larger}
use Rattle.loop_lang.specs.Reckoning.{Value, reckon, on_both}
use Rattle.loop_lang.specs.Reckoning.{larger as greater}
use Rattle.loop_lang.proofs.IndexForms.{index_larger-is}
use Rattle.region_plan.specs.declared.length.Length.{Length, Plain}
use Rattle.region_plan.specs.Length.{length_tree, length_value}
use Rattle.region_plan.specs.Syntax.{topped}
use Rattle.index_trees.proofs.TreeLaws.{tree-items}
use Rattle.final_rules.specs.Rules.{length_magnitude, length_normal}
use Rattle.final_rules.specs.Lengths.{over_sizes}
use Rattle.affine_index.proofs.MagnitudeBounds.{form-most}
use Rattle.affine_index.proofs.PrintedLaws.{prints_from}
use Rattle.index_trees.proofs.TreeExact.{trees-exact, from_exact, each_exact}

abs-sum : (a b : ℤ) → unsigned_abs (a +ℤ b) ≤ unsigned_abs a + unsigned_abs b
abs-sum a b = grind (arith, ints)

one_of : (b : Bool) (x y : ℤ) (m n : ℕ) → unsigned_abs x ≤ m → unsigned_abs y ≤ n → unsigned_abs (if b then x else y) ≤ max m n
one_of true x y m n h g = grind arith
one_of false x y m n h g = grind arith

module _ (s maxima : List ℕ) (ws : WithinMaxima s maxima) where
  none : WithinMaxima [] []
  none k l = absurd (omega (arith, l))

  pub length-most : (l : Length) → over_sizes (length maxima) l ≡ true → unsigned_abs (length_value s l) ≤ length_magnitude maxima l
  length-most (Plain x) c = form-most s [] maxima [] ws none x c
  length-most (topped x a b) c =
      let p = and_parts (items_scoped (length maxima) 0 x) (over_sizes (length maxima) a && over_sizes (length maxima) b) c in
      let q = and_parts (over_sizes (length maxima) a) (over_sizes (length maxima) b) p.1 in
      let g = greater (length_value s a) (length_value s b) in
      omega (
        arith,
        abs-sum g (items_value s [] x),
        form-most s [] maxima [] ws none x p.0,
        one_of (int_lt (length_value s b) (length_value s a)) (length_value s a) (length_value s b) (length_magnitude maxima a) (length_magnitude maxima b)
            (length-most a q.0) (length-most b q.1),
      )

  room : 2 ^ 62 < 2 ^ 63
  room = omega arith

  pub length-exact : (l : Length) → over_sizes (length maxima) l ≡ true → length_normal l ≡ true → length_magnitude maxima l ≤ 2 ^ 62
      → reckon (length_tree l) s [] ≡ Value (length_value s l)
  length-exact (Plain x) c n h =
      ap (λ t. reckon t s []) (sym (tree-items 0 x))
      ∙ trees-exact x (and_parts (is_ordered x) (coefficients_fit x && is_short x) n).0 s [] [] maxima [] (λ v l. absurd (omega (arith, l))) ws none refl c h
  length-exact (topped x a b) c n h =
      let p = and_parts (items_scoped (length maxima) 0 x) (over_sizes (length maxima) a && over_sizes (length maxima) b) c in
      let q = and_parts (over_sizes (length maxima) a) (over_sizes (length maxima) b) p.1 in
      let m = and_parts (is_normal x) (length_normal a && length_normal b) n in
      let k = and_parts (length_normal a) (length_normal b) m.1 in
      let o = (and_parts (is_ordered x) (coefficients_fit x && is_short x) m.0).0 in
      let u = greater (length_value s a) (length_value s b) in
      let left : length_magnitude maxima a ≤ 2 ^ 62 = larger_left (length_magnitude maxima a) (length_magnitude maxima b) (magnitude maxima [] x) h in
      let right : length_magnitude maxima b ≤ 2 ^ 62 = larger_right (length_magnitude maxima a) (length_magnitude maxima b) (magnitude maxima [] x) h in
      let top : reckon (Larger (length_tree a) (length_tree b)) s [] ≡ Value u =
      ap (λ t. reckon t s []) (index_larger-is (length_tree a) (length_tree b))
      ∙ (λ i. on_both (λ y z. Value (greater y z)) (length-exact a q.0 k.0 left i) (length-exact b q.1 k.1 right i)) in
      let most = one_of (int_lt (length_value s b) (length_value s a)) (length_value s a) (length_value s b) (length_magnitude maxima a)
      (length_magnitude maxima b) (length-most a q.0) (length-most b q.1) in
      let prints = prints_from (2 ^ 62) s [] maxima [] ws none x u o p.0 (omega (arith, most, h)) in
      (from_exact (2 ^ 62) room s [] [] (λ v l. absurd (omega (arith, l))) (length maxima) x.terms x.constant (Some (Larger (length_tree a) (length_tree b))) u
      (u +ℤ items_value s [] x)
      (each_exact (2 ^ 62) room s [] [] (λ v l. absurd (omega (arith, l))) (length maxima) x.terms) (ordered-terms x o).1
      (sym (scoped-items (length maxima) 0 x) ∙ p.0) top prints).1
    where
      larger_left : (m n k : ℕ) → k + max m n ≤ 2 ^ 62 → m ≤ 2 ^ 62
      larger_left m n k h = grind arith

      larger_right : (m n k : ℕ) → k + max m n ≤ 2 ^ 62 → n ≤ 2 ^ 62
      larger_right m n k h = grind arith
