-- Room for a*m + b, that it is in order, and whether it is an index.
use Rattle.std.proofs.Common.{◌≡◌, inr, ℕ, ◌+◌, ◌*◌, ◌^◌, ◌<◌, ◌≤◌, refl, ap, sym, ◌∙◌, subst, arith, Bool, true, false, Some, None, if◌then◌else◌}
use Rattle.affine_index.specs.Normal.{holds_var, is_normal, is_ordered}
use Rattle.affine_index.specs.Product.{product_of}
use Rattle.affine_index.specs.Sum.{sum_of}
use Rattle.affine_index.specs.Wide.{norm}
use Rattle.affine_index.specs.declared.form.Items.{Items}
use Rattle.affine_index.proofs.ArithmeticLaws.{normal-ordered}
use Rattle.affine_index.proofs.NormLaws.{product-norm}
use Rattle.affine_index.proofs.ProductOrdered.{free-is, products-ordered}
use Rattle.affine_index.proofs.PutNorm.{normal-norm}
use Rattle.affine_index.proofs.Sorted.{sum-ordered}
use Rattle.fact_list.specs.Facts.{where_normal}
use Rattle.rule_parts.proofs.Replacing.{never}
use Rattle.shape_rules.proofs.SameLaws.{same_form-equal}
use Rattle.term_tree.specs.Shape.{same_form}

most : (a b c d : ℕ) → a ≤ c → b ≤ d → a * b ≤ c * d
most a b c d p q = grind arith

module _ (a m : Items) (p : is_normal a ≡ true) (q : is_normal m ≡ true) where
  product_most : norm a * norm m ≤ 2 ^ 48 * 2 ^ 48
  product_most = most (norm a) (norm m) (2 ^ 48) (2 ^ 48) (normal-norm a p) (normal-norm m q)

  pub total_room : (b x y w z : Items) → is_normal b ≡ true → x ≡ a → y ≡ m → w ≡ product_of x y → z ≡ b → norm w + norm z < 2 ^ 127
  total_room b x y w z r e f g h =
      let k : norm w ≡ norm (product_of a m) = ap norm g ∙ (λ i. norm (product_of (e i) (f i))) in
      omega (arith, k, product-norm a m, product_most, ap norm h, normal-norm b r)

  pub place_ordered : (b x : Items) → is_normal b ≡ true → holds_var m ≡ false → x ≡ sum_of (product_of a m) b → is_ordered x ≡ true
  place_ordered b x r h e =
      ap is_ordered e
      ∙ sum-ordered (product_of a m) b (products-ordered a m (normal-ordered a p) (normal-ordered m q) (inr (free-is m h))) (normal-ordered b r)

-- a form within the limits is itself
pub some_is : (raw x : Items) → Some x ≡ where_normal raw → x ≡ raw
some_is raw x h = by (is_normal raw) h
  where
    some_same : (y : Items) → Some x ≡ Some y → x ≡ y
    some_same y e = cc

    by : (b : Bool) → Some x ≡ (if b then Some raw else None) → x ≡ raw
    by true e = some_same raw e
    by false e = absurd (cc)

-- a form over the limits is no index
pub none_other : (raw y : Items) → is_normal y ≡ true → None ≡ where_normal raw → false ≡ same_form raw y
none_other raw y p h = by (same_form raw y) refl
  where
    over : (b : Bool) → None ≡ (if b then Some raw else None) → b ≡ false
    over true e = absurd (cc)
    over false e = refl

    by : (b : Bool) → same_form raw y ≡ b → false ≡ same_form raw y
    by true e =
        absurd (never (sym (over (is_normal raw) h) ∙ subst (λ (z : Items). is_normal z ≡ true) (sym (same_form-equal raw y e)) p))
    by false e = sym e
