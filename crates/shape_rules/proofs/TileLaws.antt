-- The number of chunks, on the way to which a form may be over the limits.
use Rattle.std.proofs.Common.{◌≡◌, ℕ, ◌+◌, ◌<◌, ◌≤◌, ◌^◌, ap, ◌∙◌, arith, true}
use Rattle.affine_index.specs.Normal.{is_normal, is_ordered}
use Rattle.affine_index.specs.Quotient.{quotient_of}
use Rattle.affine_index.specs.Sum.{sum_of}
use Rattle.affine_index.specs.Wide.{norm}
use Rattle.affine_index.specs.declared.form.Items.{Items}
use Rattle.affine_index.proofs.ArithmeticLaws.{normal-ordered}
use Rattle.affine_index.proofs.NormLaws.{sum-norm}
use Rattle.affine_index.proofs.OrderedLaws.{quotient-ordered}
use Rattle.affine_index.proofs.PutNorm.{normal-norm}
use Rattle.affine_index.proofs.Sorted.{sum-ordered}

pub tiles-room : (a b x : Items) → x ≡ sum_of a b → is_normal a ≡ true → is_normal b ≡ true → norm x + 1 < 2 ^ 127
tiles-room a b x e p q = omega (arith, ap norm e, sum-norm a b, normal-norm a p, normal-norm b q)

pub tiles-ordered : (k : ℕ) (a b x y : Items) → x ≡ sum_of a b → y ≡ quotient_of x k → 0 < k → k ≤ 2147483647 → is_normal a ≡ true → is_normal b ≡ true
    → is_ordered y ≡ true
tiles-ordered k a b x y e f h l p q =
    ap is_ordered f ∙ quotient-ordered x k h l (ap is_ordered e ∙ sum-ordered a b (normal-ordered a p) (normal-ordered b q))
