-- What is left by a floor quotient.
use Rattle.std.proofs.Common.{◌≡◌, ℕ, ◌+◌, ◌*◌, ◌<◌, ◌≤◌, ◌^◌, List, ap, ◌∙◌, arith, true}
use Rattle.std.specs.Prelude.{pos, negsuc, ◌*ℤ◌}
use Rattle.std.specs.Int.{int_rem_euclid}
use Rattle.std.specs.Int.RustNames.{unsigned_abs}
use Rattle.std.proofs.lemmas.Int.{ints}
use Rattle.affine_index.specs.Normal.{is_normal, is_ordered}
use Rattle.affine_index.specs.Quotient.{quotient_atom, quotient_of, remainder_of, rest_part, whole_part}
use Rattle.affine_index.specs.Sum.{scaled}
use Rattle.affine_index.specs.Value.{items_value}
use Rattle.affine_index.specs.Wide.{norm}
use Rattle.affine_index.proofs.ArithmeticLaws.{normal-ordered}
use Rattle.affine_index.proofs.Division.{quotient-rest}
use Rattle.affine_index.proofs.NormLaws.{quotient_atom-norm, scaled-norm, sum-norm, whole-most}
use Rattle.affine_index.proofs.OrderedLaws.{difference-ordered, quotient-ordered, scaled-ordered}
use Rattle.affine_index.proofs.PutNorm.{normal-norm}
use Rattle.affine_index.proofs.Values.{value-difference, value-quotient, value-scaled}
use Rattle.affine_index.specs.declared.form.Items.{Items}

pub quotient-norm : (i : Items) (k : ℕ) → 0 < k → norm (quotient_of i k) ≤ norm i + 1
quotient-norm i k h =
    omega (
      arith,
      sum-norm (whole_part i k) (quotient_atom (rest_part i k).terms (rest_part i k).constant k),
      whole-most i k h,
      quotient_atom-norm (rest_part i k).terms (rest_part i k).constant k,
    )

most : (a b c d : ℕ) → a ≤ b → c ≤ d → a * c ≤ b * d
most a b c d p q = grind arith

module _ (i : Items) (k : ℕ) (normal : is_normal i ≡ true) (positive : 0 < k) (limit : k ≤ 2147483647) where
  floor_norm : norm (quotient_of i k) ≤ 2 ^ 49
  floor_norm = omega (arith, quotient-norm i k positive, normal-norm i normal)

  times_norm : k * norm (quotient_of i k) ≤ 2 ^ 31 * 2 ^ 49
  times_norm = most k (2 ^ 31) (norm (quotient_of i k)) (2 ^ 49) (omega (arith, limit)) floor_norm

  pub floor-room : (x : Items) → x ≡ quotient_of i k → k * norm x < 2 ^ 127
  floor-room x e = omega (arith, ap (λ j. k * norm j) e, times_norm)

  pub whole-room : (x : Items) → x ≡ scaled (pos k) (quotient_of i k) → unsigned_abs (negsuc 0) * norm x < 2 ^ 127
  whole-room x e = omega (arith, ap norm e, scaled-norm (pos k) (quotient_of i k), times_norm)

  pub minus-room : (x y : Items) → x ≡ i → y ≡ scaled (negsuc 0) (scaled (pos k) (quotient_of i k)) → norm x + norm y < 2 ^ 127
  minus-room x y e f =
      omega (
        arith,
        ap norm e,
        ap norm f,
        scaled-norm (negsuc 0) (scaled (pos k) (quotient_of i k)),
        scaled-norm (pos k) (quotient_of i k),
        times_norm,
        normal-norm i normal,
      )

  pub remainder-ordered : (x : Items) → x ≡ remainder_of i k → is_ordered x ≡ true
  remainder-ordered x e =
      ap is_ordered e ∙ difference-ordered i (scaled (pos k) (quotient_of i k)) (normal-ordered i normal)
      (scaled-ordered (pos k) (quotient_of i k) (quotient-ordered i k positive limit (normal-ordered i normal)))

pub value-remainder : (s v : List ℕ) (i : Items) (k : ℕ) → 0 < k → items_value s v (remainder_of i k) ≡ int_rem_euclid (items_value s v i) (pos k)
value-remainder s v i k h =
    omega (
      arith,
      ints,
      value-difference s v i (scaled (pos k) (quotient_of i k)),
      value-scaled s v (pos k) (quotient_of i k),
      ap (λ z. pos k *ℤ z) (value-quotient s v i k h),
      quotient-rest k (items_value s v i) h,
    )
