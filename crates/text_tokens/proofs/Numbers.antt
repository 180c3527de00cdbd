-- The value of digits, one digit after the other.
use Rattle.std.proofs.Common.{◌≡◌, ℕ, ◌+◌, ◌-◌, ◌*◌, ◌^◌, ◌<◌, ◌≤◌, cond, [], ◌∷◌, length, get_or, drop, Some, None, refl, sym, ap, add-one, drop-cons, arith}
use Rattle.std.proofs.Math.ListN.{drop_of_length-le}
use Rattle.std.proofs.lemmas.Bool.{le-ltb, lt-ltb}
use Rattle.text_tokens.specs.Kinds.{Text}
use Rattle.text_tokens.specs.Numbers.{value_from, number}

grows : (n : ℕ) (z : Text) → n ≤ value_from n z
unfolding value_from
grows n [] = omega arith
grows n (b ∷ z) = let h = grows (n * 10 + (b - 48)) z in omega arith

pub value_step : (s : Text) (n i : ℕ) → i < length s → value_from n (drop i s) ≡ value_from (n * 10 + (get_or s i 0 - 48)) (drop (i + 1) s)
unfolding value_from
value_step s n i h = rw (add-one, drop-cons s i 0) refl

pub value_too_large : (s : Text) (n i : ℕ) → i < length s → value_from n (drop i s) ≡ value_from 0 s → 2 ^ 64 ≤ n * 10 + (get_or s i 0 - 48) → number s ≡ None
unfolding number
value_too_large s n i h e large =
    let k = value_step s n i h in
    let g = grows (n * 10 + (get_or s i 0 - 48)) (drop (i + 1) s) in
    let m : 2 ^ 64 ≤ value_from 0 s = omega (arith, e, k) in
    ap (λ t. cond t (Some (value_from 0 s)) None) (le-ltb (value_from 0 s) (2 ^ 64) m)

pub value_done : (s : Text) (n i : ℕ) → length s ≤ i → n < 2 ^ 64 → value_from n (drop i s) ≡ value_from 0 s → number s ≡ Some n
unfolding number value_from
value_done s n i h small e =
    let k : value_from n [] ≡ value_from 0 s = rw (drop_of_length-le s h) at e in
    let m : value_from 0 s < 2 ^ 64 = omega (arith, k) in
    rw (sym k) (ap (λ t. cond t (Some n) None) (lt-ltb n (2 ^ 64) small))
