-- What index arithmetic answers is the form within its limits, or its fault at the place.
use Rattle.std.proofs.Common.{◌≡◌, ◌≢◌, ℕ, ◌&&◌, true, false, cond, Result, Ok, Err, MatchResult, IfOk, refl, sym, ap, ◌∙◌}
use Rattle.affine_index.specs.Normal.{Refused, RefusedProduct, coefficients_fit, is_short, holds_var}
use Rattle.affine_index.specs.Product.{product_of}
use Rattle.affine_index.specs.declared.form.Items.{Items}
use Rattle.affine_index.specs.declared.refusal.AffRefusal.{AffRefusal}
use Rattle.affine_index.specs.declared.refusal.AffRefusal.TheVariants as refusal
use Rattle.reader_laws.specs.declared.fault.Fault.{Fault}
use Rattle.reader_laws.specs.declared.fault.Fault.TheVariants.{NotAffine, CoefficientTooLarge, IndexTooLong}
use Rattle.reader_laws.specs.declared.fault.ReadError.TheVariants.{Memory}
use Rattle.reader_laws.specs.Steps.{Gives}
use Rattle.source_grammar.specs.Limits.{tested, multiplied}
use Rattle.term_reader.specs.Steps.{placed, located}
use Rattle.source_grammar.proofs.NormalForms.{Normal, tested_ok}

abbrev ok : Items → Result Items Fault
ok i = Ok i

too_large : (i : Items) → coefficients_fit i ≡ false → tested i ≡ Err CoefficientTooLarge
too_large i h = ap (λ b. cond b (cond (is_short i) (ok i) (Err IndexTooLong)) (Err CoefficientTooLarge)) h

too_long : (i : Items) → coefficients_fit i ≡ true → is_short i ≡ false → tested i ≡ Err IndexTooLong
too_long i h g = ap (λ b. cond b (cond (is_short i) (ok i) (Err IndexTooLong)) (Err CoefficientTooLarge)) h
    ∙ ap (λ b. cond b (ok i) (let r : Result Items Fault = Err IndexTooLong in r)) g

pub located_tested : (r : Result Items AffRefusal) (form : Items) (place : ℕ) → MatchResult r (λ x. x ≡ form) (λ e. Refused form e)
    → IfOk (located place r) Normal → Gives (λ x. x) (located place r) (placed place (tested form))
located_tested (Ok x) form place h n = ap (λ (i : Items). placed place (tested i)) (sym h) ∙ ap (placed place) (tested_ok x n)
located_tested (Err refusal.CoefficientTooLarge) form place h n = λ _. ap (placed place) (too_large form h)
located_tested (Err refusal.IndexTooLong) form place h n = λ _. ap (placed place) (too_long form h.0 h.1)
located_tested (Err refusal.NotAffine) form place h n = absurd h
located_tested (Err refusal.Memory) form place h n = λ (not : Memory ≢ Memory). absurd (not refl)

free_product : (a b : Items) → (holds_var a && holds_var b) ≡ false → multiplied a b ≡ tested (product_of a b)
free_product a b h = ap (λ v. cond v (let r : Result Items Fault = Err NotAffine in r) (tested (product_of a b))) h

pub located_multiplied : (r : Result Items AffRefusal) (a b : Items) (place : ℕ)
    → MatchResult r (λ x. x ≡ product_of a b) (λ e. RefusedProduct a b (product_of a b) e)
    → IfOk r (λ x. (holds_var a && holds_var b) ≡ false) → IfOk (located place r) Normal → Gives (λ x. x) (located place r) (placed place (multiplied a b))
located_multiplied (Ok x) a b place h free n = ap (placed place) (free_product a b free ∙ ap tested (sym h) ∙ tested_ok x n)
located_multiplied (Err refusal.CoefficientTooLarge) a b place h free n = λ _. ap (placed place) (free_product a b h.0 ∙ too_large (product_of a b) h.1)
located_multiplied (Err refusal.IndexTooLong) a b place h free n = λ _. ap (placed place) (free_product a b h.0 ∙ too_long (product_of a b) h.1.0 h.1.1)
located_multiplied (Err refusal.NotAffine) a b place h free n = λ _. ap (placed place)
    (ap (λ v. cond v (let r : Result Items Fault = Err NotAffine in r) (tested (product_of a b))) h)
located_multiplied (Err refusal.Memory) a b place h free n = λ (not : Memory ≢ Memory). absurd (not refl)
