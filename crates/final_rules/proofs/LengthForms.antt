-- The magnitude of a length, at lengths as code has them.
use Rattle.std.proofs.Common.{◌≡◌, ℕ, ◌+◌, ◌^◌, List, [], max, min, ap, sym, ◌∙◌, arith, true, ◌&&◌}
use Rattle.std.proofs.lemmas.Bool.{and_from, and_parts}
use Rattle.affine_index.specs.Limited.{items_scoped}
use Rattle.affine_index.specs.Magnitude.{magnitude}
use Rattle.affine_index.specs.Normal.{is_normal}
use Rattle.affine_index.specs.declared.aff.Aff.{Aff}
use Rattle.region_plan.specs.declared.length.Length.{Length}
use Rattle.region_plan.specs.declared.length.Length.TheVariants.{Topped}
use Rattle.region_plan.proofs.Forms.{Topped-is}
use Rattle.final_rules.specs.Lengths.{over_sizes}
use Rattle.final_rules.specs.Rules.{length_magnitude, length_normal}

module _ (x : Aff) (a b : Length) where
  pub magnitude-Topped : (maxima : List ℕ) → length_magnitude maxima (Topped x a b) ≡ magnitude maxima [] x + max (length_magnitude maxima a)
      (length_magnitude maxima b)
  magnitude-Topped maxima = ap (length_magnitude maxima) (Topped-is x a b)

  pub normal-Topped : length_normal (Topped x a b) ≡ (is_normal x && (length_normal a && length_normal b))
  normal-Topped = ap length_normal (Topped-is x a b)

  pub over-Topped : (sizes : ℕ) → over_sizes sizes (Topped x a b) ≡ (items_scoped sizes 0 x && (over_sizes sizes a && over_sizes sizes b))
  over-Topped sizes = ap (over_sizes sizes) (Topped-is x a b)

-- the parts of a length with a larger of two
pub over-parts : (sizes : ℕ) (l : Length) (x : Aff) (a b c d : Length) → c ≡ a → d ≡ b → l ≡ Topped x a b → over_sizes sizes l ≡ true
    → (items_scoped sizes 0 x ≡ true) × (over_sizes sizes c ≡ true) × (over_sizes sizes d ≡ true)
over-parts sizes l x a b c d k m e h =
    let p = and_parts (items_scoped sizes 0 x) (over_sizes sizes a && over_sizes sizes b) (sym (over-Topped x a b sizes) ∙ ap (over_sizes sizes) (sym e) ∙ h) in
    let q = and_parts (over_sizes sizes a) (over_sizes sizes b) p.1 in
    (p.0, ap (over_sizes sizes) k ∙ q.0, ap (over_sizes sizes) m ∙ q.1)

-- magnitudes that stop add up as those that do not
pub most-is : (maxima : List ℕ) (l : Length) (x : Aff) (a b : Length) (mag first second : ℕ) → l ≡ Topped x a b → mag ≡ min (magnitude maxima [] x) (2 ^ 63)
    → first ≡ min (length_magnitude maxima a) (2 ^ 63) → second ≡ min (length_magnitude maxima b) (2 ^ 63)
    → min (mag + max first second) (2 ^ 63) ≡ min (length_magnitude maxima l) (2 ^ 63)
most-is maxima l x a b mag first second e p q r =
    let s : length_magnitude maxima l ≡ magnitude maxima [] x + max (length_magnitude maxima a) (length_magnitude maxima b) = ap (length_magnitude maxima) e
    ∙ magnitude-Topped x a b maxima in
    omega (arith, p, q, r, s)

pub normal-is : (l : Length) (x : Aff) (a b c d : Length) → c ≡ a → d ≡ b → l ≡ Topped x a b → is_normal x ≡ true → length_normal c ≡ true
    → length_normal d ≡ true → length_normal l ≡ true
normal-is l x a b c d k m e p q r =
    ap length_normal e ∙ normal-Topped x a b
    ∙ and_from (is_normal x) (length_normal a && length_normal b) p
    (and_from (length_normal a) (length_normal b) (ap length_normal (sym k) ∙ q) (ap length_normal (sym m) ∙ r))

pub ruleset length_forms = (magnitude-Topped, normal-Topped, over-Topped)
