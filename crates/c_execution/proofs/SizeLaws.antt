-- Sizes within their limit fit 64 signed bits.
use Rattle.std.proofs.Common.{◌≡◌, ℕ, suc, ◌^◌, ◌<◌, ◌≤◌, Bool, true, false, ◌&&◌, nat_le, nat_lt, if◌then◌else◌, List, [], ◌∷◌, Option, Some, None, refl, arith}
use Rattle.std.proofs.lemmas.Bool.{leb-true, lt-ltb}
use Rattle.loop_run.specs.Fits.{all_fit}
use Rattle.c_execution.specs.Executed.{broken_size, largest_size}

both_true : (a b : Bool) → a ≡ true → b ≡ true → (a && b) ≡ true
both_true a b p q = cc

not_broken : (b : Bool) (k : ℕ) (rest : Option ℕ) → (if b then rest else Some k) ≡ None → (b ≡ true) × (rest ≡ None)
not_broken true k rest h = (refl, h)
not_broken false k rest h = absurd cc

small : (n : ℕ) → n ≤ 1099511627776 → n < 2 ^ 63
small n h = omega (arith, h)

pub sizes-fit : (k : ℕ) (ns : List ℕ) → broken_size k ns ≡ None → all_fit ns ≡ true
sizes-fit k [] h = refl
sizes-fit k (n ∷ ns) h =
    let p = not_broken (nat_le n largest_size) k (broken_size (suc k) ns) h in
    both_true (nat_lt n (2 ^ 63)) (all_fit ns) (lt-ltb n (2 ^ 63) (small n (leb-true n largest_size p.0))) (sizes-fit (suc k) ns p.1)
