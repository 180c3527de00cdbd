-- Floor quotients of whole numbers by a number above 0.
use Rattle.std.proofs.Common.{◌≡◌, ℕ, zero, suc, ◌*◌, ◌-◌, ◌%◌, ◌<◌, ◌≤◌, refl, ap, ◌∙◌, arith}
use Rattle.std.specs.Prelude.{ℤ, pos, negsuc, ◌+ℤ◌, ◌-ℤ◌, ◌*ℤ◌}
use Rattle.std.specs.Int.{int_div_euclid, int_rem_euclid}
use Rattle.std.proofs.lemmas.Int.{ints}
use Rattle.std.proofs.Math.IntN.{*ℤ_comm}
use Rattle.std.proofs.Math.Nat.{div-eq_of_lt}
use Rattle.affine_index.proofs.Ring.{*ℤ_distrib}

pub times-plus : (a b c : ℤ) → a *ℤ (b +ℤ c) ≡ (a *ℤ b) +ℤ (a *ℤ c)
times-plus a b c = *ℤ_comm a (b +ℤ c) ∙ *ℤ_distrib b c a ∙ (λ i. *ℤ_comm b a i +ℤ *ℤ_comm c a i)

-- a number is k times its quotient and its remainder
pub quotient-rest : (k : ℕ) (c : ℤ) → 0 < k → (pos k *ℤ int_div_euclid c (pos k)) +ℤ int_rem_euclid c (pos k) ≡ c
quotient-rest k (pos n) h = grind (arith, ints)
quotient-rest k (negsuc n) h = grind (arith, ints)

-- a remainder is a number below k
pub record Remainder (k : ℕ) (z : ℤ) : Type 0 where
  pub number : ℕ
  pub is : z ≡ pos number
  pub below : number < k

pub remainder : (k : ℕ) (c : ℤ) → 0 < k → Remainder k (int_rem_euclid c (pos k))
remainder k (pos n) h = record { number = n % k; is = refl; below = omega arith }
remainder k (negsuc n) h = record { number = k - 1 - n % k; is = refl; below = omega arith }

pub rest-none : (k : ℕ) (c : ℤ) → 0 < k → int_div_euclid (int_rem_euclid c (pos k)) (pos k) ≡ pos 0
rest-none k c h = let r = remainder k c h in ap (λ z. int_div_euclid z (pos k)) r.is ∙ ap pos (div-eq_of_lt r.below)

times-suc : (k n : ℕ) → k ≤ k * suc n
times-suc k n = grind arith

pos-times : (k n : ℕ) → pos k *ℤ pos n ≡ pos (k * n)
pos-times k n = refl

negsuc-times : (k n : ℕ) → (pos k *ℤ negsuc n) +ℤ pos (k * suc n) ≡ pos 0
negsuc-times k n = grind (arith, ints)

no_difference : (k : ℕ) (d : ℤ) (r r' : ℕ) → (pos k *ℤ d) +ℤ pos r ≡ pos r' → r < k → r' < k → d ≡ pos 0
no_difference k (pos zero) r r' e p q = refl
no_difference k (pos (suc n)) r r' e p q = absurd (omega (arith, ints, times-suc k n, pos-times k (suc n), e))
no_difference k (negsuc n) r r' e p q = absurd (omega (arith, ints, times-suc k n, negsuc-times k n, e))

-- a quotient is the only number that leaves a remainder
pub unique : (k : ℕ) (a b : ℤ) (r r' : ℕ) → (pos k *ℤ a) +ℤ pos r ≡ (pos k *ℤ b) +ℤ pos r' → r < k → r' < k → a ≡ b
unique k a b r r' e p q =
    let d : a -ℤ b ≡ pos 0 = no_difference k (a -ℤ b) r r' (omega (arith, ints, times-plus (pos k) (a -ℤ b) b, ap (λ x. pos k *ℤ x) (again a b), e)) p q in
    omega (arith, ints, d)
  where
    again : (a b : ℤ) → (a -ℤ b) +ℤ b ≡ a
    again a b = omega (arith, ints)

-- k goes into k*b + r b times more often than into r
pub quotient-more : (k : ℕ) (b r : ℤ) → 0 < k → int_div_euclid ((pos k *ℤ b) +ℤ r) (pos k) ≡ b +ℤ int_div_euclid r (pos k)
quotient-more k b r h =
    let x = (pos k *ℤ b) +ℤ r in
    let m = remainder k x h in
    let n = remainder k r h in
    unique k (int_div_euclid x (pos k)) (b +ℤ int_div_euclid r (pos k)) m.number n.number
    (omega (arith, ints, times-plus (pos k) b (int_div_euclid r (pos k)), quotient-rest k x h, quotient-rest k r h, m.is, n.is)) m.below n.below
