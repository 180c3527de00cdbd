-- Canonical names, one after another.
use Rattle.std.proofs.Common.{◌≡◌, ℕ, zero, suc, ◌-◌, ◌<◌, ◌∷◌, ◌++◌, arith}
use Rattle.std.specs.Prelude.{decimal}
use Rattle.text_tokens.specs.Kinds.{Text}
use Rattle.script_arguments.specs.Names.{canonical_names}

pub canonical_next : (letter : Text) (n : ℕ) → 0 < n → canonical_names letter n ≡ (letter ++ decimal (n - 1)) ∷ canonical_names letter (n - 1)
canonical_next letter zero h = absurd (omega (arith, h))
canonical_next letter (suc n) h = let e : n ≡ suc n - 1 = omega arith in λ i. (letter ++ decimal (e i)) ∷ canonical_names letter (e i)
