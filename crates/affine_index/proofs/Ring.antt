-- Laws of whole numbers that std lacks.
use Rattle.std.proofs.Common.{◌≡◌, ℕ, zero, suc, ap, sym, ◌∙◌, arith}
use Rattle.std.specs.Prelude.{ℤ, pos, negsuc, ◌+ℤ◌, ◌*ℤ◌}
use Rattle.std.proofs.lemmas.Int.{ints}
use Rattle.std.proofs.Math.IntN.{suc_ℤ, pred_ℤ, suc_ℤ-*ℤ, pred_ℤ-*ℤ, zero-*ℤ, +ℤ_idl}

suc-plus : (n : ℕ) (b : ℤ) → pos (suc n) +ℤ b ≡ suc_ℤ (pos n +ℤ b)
suc-plus n b = grind (arith, ints)

pred-plus : (n : ℕ) (b : ℤ) → negsuc (suc n) +ℤ b ≡ pred_ℤ (negsuc n +ℤ b)
pred-plus n b = grind (arith, ints)

pred-zero-plus : (b : ℤ) → negsuc zero +ℤ b ≡ pred_ℤ b
pred-zero-plus b = grind (arith, ints)

distrib-pos : (n : ℕ) (b c : ℤ) → (pos n +ℤ b) *ℤ c ≡ (pos n *ℤ c) +ℤ (b *ℤ c)
distrib-pos zero b c = ap (λ x. x *ℤ c) (+ℤ_idl b) ∙ omega (arith, ints, zero-*ℤ c)
distrib-pos (suc n) b c =
    ap (λ x. x *ℤ c) (suc-plus n b) ∙ omega (arith, ints, suc_ℤ-*ℤ (pos n +ℤ b) c, suc_ℤ-*ℤ (pos n) c, distrib-pos n b c)

distrib-negsuc : (n : ℕ) (b c : ℤ) → (negsuc n +ℤ b) *ℤ c ≡ (negsuc n *ℤ c) +ℤ (b *ℤ c)
distrib-negsuc zero b c =
    ap (λ x. x *ℤ c) (pred-zero-plus b) ∙ omega (arith, ints, pred_ℤ-*ℤ b c, pred_ℤ-*ℤ (pos zero) c, zero-*ℤ c)
distrib-negsuc (suc n) b c =
    ap (λ x. x *ℤ c) (pred-plus n b) ∙ omega (arith, ints, pred_ℤ-*ℤ (negsuc n +ℤ b) c, pred_ℤ-*ℤ (negsuc n) c, distrib-negsuc n b c)

pub *ℤ_distrib : (a b c : ℤ) → (a +ℤ b) *ℤ c ≡ (a *ℤ c) +ℤ (b *ℤ c)
*ℤ_distrib (pos n) b c = distrib-pos n b c
*ℤ_distrib (negsuc n) b c = distrib-negsuc n b c

assoc-pos : (n : ℕ) (b c : ℤ) → (pos n *ℤ b) *ℤ c ≡ pos n *ℤ (b *ℤ c)
assoc-pos zero b c = ap (λ x. x *ℤ c) (zero-*ℤ b) ∙ omega (arith, ints, zero-*ℤ c, zero-*ℤ (b *ℤ c))
assoc-pos (suc n) b c =
    ap (λ x. x *ℤ c) (suc_ℤ-*ℤ (pos n) b) ∙ omega (arith, ints, *ℤ_distrib (pos n *ℤ b) b c, suc_ℤ-*ℤ (pos n) (b *ℤ c), assoc-pos n b c)

minus-distrib : (a b c : ℤ) → pred_ℤ a *ℤ b ≡ (negsuc zero *ℤ b) +ℤ (a *ℤ b)
minus-distrib a b c = ap (λ x. x *ℤ b) (sym (pred-zero-plus a)) ∙ *ℤ_distrib (negsuc zero) a b

minus-one : (b : ℤ) → (negsuc zero *ℤ b) +ℤ b ≡ pos zero
minus-one b = omega (arith, ints, *ℤ_distrib (negsuc zero) (pos 1) b, suc_ℤ-*ℤ (pos zero) b, zero-*ℤ b)

assoc-minus : (b c : ℤ) → (negsuc zero *ℤ b) *ℤ c ≡ negsuc zero *ℤ (b *ℤ c)
assoc-minus b c =
    omega (arith, ints, *ℤ_distrib (negsuc zero *ℤ b) b c, ap (λ x. x *ℤ c) (minus-one b), zero-*ℤ c, minus-one (b *ℤ c))

assoc-negsuc : (n : ℕ) (b c : ℤ) → (negsuc n *ℤ b) *ℤ c ≡ negsuc n *ℤ (b *ℤ c)
assoc-negsuc zero b c = assoc-minus b c
assoc-negsuc (suc n) b c =
    ap (λ x. x *ℤ c) (minus-distrib (negsuc n) b c) ∙ *ℤ_distrib (negsuc zero *ℤ b) (negsuc n *ℤ b) c
    ∙ omega (arith, ints, assoc-minus b c, assoc-negsuc n b c, minus-distrib (negsuc n) (b *ℤ c) c)

pub *ℤ_assoc : (a b c : ℤ) → (a *ℤ b) *ℤ c ≡ a *ℤ (b *ℤ c)
*ℤ_assoc (pos n) b c = assoc-pos n b c
*ℤ_assoc (negsuc n) b c = assoc-negsuc n b c
