-- Forms that are tested one by one: the first that breaks a limit decides.
use Rattle.std.specs.Prelude.{◌≡◌, Result, Ok, Err, not, if◌then◌else◌}
use Rattle.affine_index.specs.Normal.{coefficients_fit, is_short}
use Rattle.affine_index.specs.declared.form.Items.{Items}
use Rattle.affine_index.specs.declared.refusal.AffRefusal.{AffRefusal}
use Rattle.affine_index.specs.declared.refusal.AffRefusal.TheVariants.{CoefficientTooLarge, IndexTooLong, NotAffine, Memory}

abbrev pub Limited : Type 0 → Type 0
Limited A = Result A AffRefusal

-- a form, where it is within the limits
abbrev pub limited : Items → Limited Items
limited i =
    if not (coefficients_fit i) then Err CoefficientTooLarge
    else (if not (is_short i) then Err IndexTooLong else Ok i)

-- what comes first, then what is made of it
abbrev pub and_then : {A B : Type 0} → Limited A → (A → Limited B) → Limited B
and_then (Ok x) f = f x
and_then (Err e) f = Err e

-- the answer is the one that is due; want of memory may come in its place, and that two index variables are multiplied never
abbrev pub Answers : {A : Type 0} → Limited A → Limited A → Type 0
Answers due (Ok x) = due ≡ Ok x
Answers due (Err CoefficientTooLarge) = due ≡ Err CoefficientTooLarge
Answers due (Err IndexTooLong) = due ≡ Err IndexTooLong
Answers due (Err NotAffine) = ⊥
Answers due (Err Memory) = Unit {0}
