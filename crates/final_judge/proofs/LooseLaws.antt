-- Forms without limits stay in order.
use Rattle.std.proofs.Common.{◌≡◌, ℕ, ◌*◌, ◌<◌, ◌≤◌, ◌^◌, ap, ◌∙◌, arith, inr, true, false}
use Rattle.std.specs.Prelude.{ℤ}
use Rattle.affine_index.specs.Normal.{holds_var, is_normal, is_ordered}
use Rattle.affine_index.specs.Product.{product_of}
use Rattle.affine_index.specs.Quotient.{quotient_of}
use Rattle.affine_index.specs.Sum.{scaled, sum_of}
use Rattle.affine_index.specs.Wide.{norm}
use Rattle.affine_index.specs.declared.form.Items.{Items}
use Rattle.affine_index.proofs.ArithmeticLaws.{normal-ordered}
use Rattle.affine_index.proofs.OrderedLaws.{quotient-ordered, scaled-ordered}
use Rattle.affine_index.proofs.ProductOrdered.{free-is, products-ordered}
use Rattle.affine_index.proofs.PutNorm.{normal-norm}
use Rattle.affine_index.proofs.Sorted.{sum-ordered}

pub sum-in-order : (a b x y w : Items) → x ≡ a → y ≡ b → w ≡ sum_of x y → is_ordered a ≡ true → is_ordered b ≡ true → is_ordered w ≡ true
sum-in-order a b x y w e f k p q = ap is_ordered (k ∙ (λ i. sum_of (e i) (f i))) ∙ sum-ordered a b p q

pub scaled-in-order : (c : ℤ) (a x w : Items) → x ≡ a → w ≡ scaled c x → is_ordered a ≡ true → is_ordered w ≡ true
scaled-in-order c a x w e k p = ap is_ordered (k ∙ ap (scaled c) e) ∙ scaled-ordered c a p

pub quotient-in-order : (a x w : Items) (k : ℕ) → x ≡ a → w ≡ quotient_of x k → 0 < k → k ≤ 2147483647 → is_ordered a ≡ true → is_ordered w ≡ true
quotient-in-order a x w k e f h l p = ap is_ordered (f ∙ ap (λ y. quotient_of y k) e) ∙ quotient-ordered a k h l p

pub times-in-order : (a b y w : Items) → y ≡ b → w ≡ product_of a y → is_ordered a ≡ true → is_normal b ≡ true → holds_var b ≡ false → is_ordered w ≡ true
times-in-order a b y w e k p q h = ap is_ordered (k ∙ ap (product_of a) e) ∙ products-ordered a b p (normal-ordered b q) (inr (free-is b h))

pub times-room : (a b y : Items) → y ≡ b → norm a ≤ 2 ^ 64 → is_normal b ≡ true → norm a * norm y < 2 ^ 127
times-room a b y e p q =
    let h : norm a * norm y ≤ 2 ^ 64 * 2 ^ 48 = most (norm a) (norm y) (2 ^ 64) (2 ^ 48) p (omega (arith, ap norm e, normal-norm b q)) in omega (arith, h)
  where
    most : (a b c d : ℕ) → a ≤ c → b ≤ d → a * b ≤ c * d
    most a b c d p q = grind arith
