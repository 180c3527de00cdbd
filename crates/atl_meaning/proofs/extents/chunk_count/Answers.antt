use Rattle.std.proofs.Common.{◌≡◌, ◌∙◌, ℕ, zero, suc, ◌+◌, ◌-◌, ◌*◌, ◌/◌, ◌%◌, ◌<◌, min, ap, arith, refl, sym}
use Rattle.std.proofs.lemmas.Nat.{div-add-mod', div-mul-add}
use Rattle.atl_meaning.proofs.extents.chunk_count.Goals as goal

next : (q k : ℕ) → (q + 1) * k ≡ q * k + k
next q k = grind arith

-- a quotient rounded up
rounded-up : (n k : ℕ) → 0 < k → n / k + min 1 (n % k) ≡ (n + k - 1) / k
rounded-up n k h = by (n % k) refl
  where
    by : (r : ℕ) → n % k ≡ r → n / k + min 1 (n % k) ≡ (n + k - 1) / k
    by zero e =
        let a : n + k - 1 ≡ n / k * k + (k - 1) = omega (arith, div-add-mod' n k, e, h) in
        let b : n / k + min 1 (n % k) ≡ n / k = omega (arith, e) in
        b ∙ sym (ap (λ m. m / k) a ∙ div-mul-add (n / k) k (k - 1) (omega (arith, h)))
    by (suc r) e =
        let a : n + k - 1 ≡ (n / k + 1) * k + r = omega (arith, div-add-mod' n k, next (n / k) k, e, h) in
        let b : n / k + min 1 (n % k) ≡ n / k + 1 = omega (arith, e) in
        let l : r < k = omega (arith, e, h) in
        b ∙ sym (ap (λ m. m / k) a ∙ div-mul-add (n / k + 1) k r l)

pub returns : goal.returns
returns c = c.div_ceil.ensures ∙ ap (λ k. c.args.count / k + min 1 (c.args.count % k)) c.from.ensures ∙ rounded-up c.args.count c.args.k c.requires
