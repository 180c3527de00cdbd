-- Steps that end too early.
use Rattle.std.proofs.Common.{◌≡◌, ℕ, ◌<◌, List, [], ◌∷◌, length, refl, arith, false}
use Rattle.final_rules.specs.Rules.{begins}

pub begins-none : (xs ys : List ℕ) → 0 < length xs → length ys ≡ 0 → begins xs ys ≡ false
begins-none [] ys h e = absurd (omega (arith, h))
begins-none (x ∷ xs) [] h e = refl
begins-none (x ∷ xs) (y ∷ ys) h e = absurd (omega (arith, e))
