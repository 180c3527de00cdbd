-- Room for the numbers of the forms of a range.
use Rattle.std.proofs.Common.{◌≡◌, ◌+◌, ◌^◌, ◌<◌, ◌≤◌, ap, ◌∙◌, arith, true}
use Rattle.std.specs.Prelude.{negsuc}
use Rattle.affine_index.specs.Normal.{is_normal, is_ordered}
use Rattle.affine_index.specs.Sum.{difference_of, scaled, sum_of}
use Rattle.affine_index.specs.Wide.{norm}
use Rattle.affine_index.specs.declared.form.Items.{Items}
use Rattle.affine_index.proofs.ArithmeticLaws.{normal-ordered}
use Rattle.affine_index.proofs.NormLaws.{scaled-norm, sum-norm}
use Rattle.affine_index.proofs.OrderedLaws.{difference-ordered}
use Rattle.affine_index.proofs.PutNorm.{normal-norm}
use Rattle.affine_index.proofs.Sorted.{sum-ordered}

module _ (a b : Items) (p : is_normal a ≡ true) (q : is_normal b ≡ true) where
  pub total_small : (w : Items) → w ≡ sum_of a b → norm w ≤ 2 ^ 50
  total_small w e = omega (arith, ap norm e, sum-norm a b, normal-norm a p, normal-norm b q)

  pub total_ordered : (w : Items) → w ≡ sum_of a b → is_ordered w ≡ true
  total_ordered w e = ap is_ordered e ∙ sum-ordered a b (normal-ordered a p) (normal-ordered b q)

  pub less_room : (w m : Items) → norm w ≤ 2 ^ 50 → m ≡ scaled (negsuc 0) (sum_of a b) → norm w + norm m < 2 ^ 127
  less_room w m h e =
      omega (arith, h, ap norm e, sum-norm a b, normal-norm a p, normal-norm b q, scaled-norm (negsuc 0) (sum_of a b))

  pub less_ordered : (w t : Items) → is_ordered w ≡ true → t ≡ difference_of w (sum_of a b) → is_ordered t ≡ true
  less_ordered w t h e =
      ap is_ordered e ∙ difference-ordered w (sum_of a b) h (sum-ordered a b (normal-ordered a p) (normal-ordered b q))

pub whole_small : (n w : Items) → is_normal n ≡ true → w ≡ n → norm w ≤ 2 ^ 50
whole_small n w p e = omega (arith, ap norm e, normal-norm n p)

pub whole_ordered : (n w : Items) → is_normal n ≡ true → w ≡ n → is_ordered w ≡ true
whole_ordered n w p e = ap is_ordered e ∙ normal-ordered n p
