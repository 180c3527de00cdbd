-- Numbers as forms within the limits.
use Rattle.std.proofs.Common.{◌≡◌, ◌^◌, ◌<◌, ◌≤◌, refl, ap, arith, Bool, true, false, ◌&&◌, Some, None, if◌then◌else◌}
use Rattle.std.specs.Prelude.{ℤ}
use Rattle.std.specs.Int.RustNames.{unsigned_abs}
use Rattle.affine_index.specs.Form.{literal_form}
use Rattle.affine_index.specs.Normal.{coefficient_fits, coefficients_fit, is_normal, is_ordered, is_short}
use Rattle.fact_list.specs.Facts.{where_normal}

fits_not : (z : ℤ) → 2 ^ 40 < unsigned_abs z → coefficient_fits z ≡ false
fits_not z h = grind arith

middle_false : (a b c : Bool) → b ≡ false → (a && (b && c)) ≡ false
middle_false true b c e = ap (λ x. x && c) e
middle_false false b c e = refl

none_kept : (z : ℤ) → is_normal (literal_form z) ≡ false → None ≡ where_normal (literal_form z)
none_kept z h = by (is_normal (literal_form z)) h
  where
    by : (b : Bool) → b ≡ false → None ≡ (if b then Some (literal_form z) else None)
    by true f = absurd (cc)
    by false f = refl

pub literal_far : (z : ℤ) → 2 ^ 40 < unsigned_abs z → None ≡ where_normal (literal_form z)
literal_far z h =
    none_kept z (middle_false (is_ordered (literal_form z)) (coefficients_fit (literal_form z)) (is_short (literal_form z)) (fits_not z h))

pub literal_near : (z : ℤ) → unsigned_abs z ≤ 2 ^ 40 → coefficient_fits z ≡ true
literal_near z h = grind arith

pub ruleset literal_laws = (literal_far, literal_near)
