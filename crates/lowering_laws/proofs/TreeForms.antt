-- The tree that a normal form prints as has this normal form.
use Rattle.std.proofs.Common.{◌≡◌, ℕ, ◌-◌, ◌^◌, Bool, true, false, ◌&&◌, nat_le, if◌then◌else◌, Result, Ok, Err, refl, ap, ◌∙◌, arith}
use Rattle.std.specs.Prelude.{ℤ, pos, negsuc}
use Rattle.affine_index.specs.Form.{literal_form, size_form, var_form}
use Rattle.affine_index.specs.Limited.{items_scoped}
use Rattle.affine_index.specs.Normal.{coefficients_fit, holds_var, is_normal, is_short}
use Rattle.affine_index.specs.Product.{product_of}
use Rattle.affine_index.specs.Quotient.{quotient_of, remainder_of}
use Rattle.affine_index.specs.Sum.{difference_of, sum_of}
use Rattle.affine_index.specs.declared.form.Items.{Items}
use Rattle.loop_lang.specs.declared.index.Iexp.{Iexp, Lit, Size, Loop}
use Rattle.loop_lang.specs.Syntax.{index_sum, index_difference, index_product, index_quotient, index_remainder, index_larger}
use Rattle.reader_laws.specs.declared.fault.Fault.{Fault}
use Rattle.reader_laws.specs.declared.fault.Fault.TheVariants.{NumberTooLarge, NotAffine, CoefficientTooLarge, IndexTooLong, BadSyntax}
use Rattle.source_grammar.specs.Limits.{multiplied, tested}
use Rattle.index_trees.specs.Tree.{index_tree}
use Rattle.atl_printer.specs.ReadTree.{if_divisor, number_form, on_both, on_one, read_tree}
use Rattle.atl_printer.proofs.TreeReads.{tree-reads}
use Rattle.lowering_laws.specs.Nest.{tree_form}

abbrev Reading : Type 0
Reading = Result Items Fault

abbrev ok : Items → Reading
ok x = Ok x

same : (x y : Items) → ok x ≡ ok y → x ≡ y
same x y h = cc

if_ok : (b : Bool) (r : Reading) (f : Fault) (x : Items) → (if b then r else Err f) ≡ Ok x → r ≡ Ok x
if_ok true r f x h = h
if_ok false r f x h = absurd (cc)

tested_same : (y x : Items) → tested y ≡ Ok x → y ≡ x
tested_same y x h = same y x (if_ok (is_short y) (ok y) IndexTooLong x
    (if_ok (coefficients_fit y) (if is_short y then Ok y else Err IndexTooLong) CoefficientTooLarge x h))

if_not : (b : Bool) (r : Reading) (f : Fault) (x : Items) → (if b then Err f else r) ≡ Ok x → r ≡ Ok x
if_not true r f x h = absurd (cc)
if_not false r f x h = h

multiplied_same : (a b x : Items) → multiplied a b ≡ Ok x → product_of a b ≡ x
multiplied_same a b x h = tested_same (product_of a b) x (if_not (holds_var a && holds_var b) (tested (product_of a b)) NotAffine x h)

number_same : (n : ℤ) (x : Items) → number_form n ≡ Ok x → literal_form n ≡ x
number_same (pos n) x h = same (literal_form (pos n)) x (if_ok (nat_le n (2 ^ 40)) (ok (literal_form (pos n))) NumberTooLarge x h)
number_same (negsuc n) x h = absurd (cc)

both_same : (f : Items → Items → Reading) (u v : Reading) (x : Items) → on_both f u v ≡ Ok x
    → (a : Items) × (b : Items) × (u ≡ Ok a) × (v ≡ Ok b) × (f a b ≡ Ok x)
both_same f (Ok a) (Ok b) x h = (a, b, refl, refl, h)
both_same f (Ok a) (Err e) x h = absurd (cc)
both_same f (Err e) v x h = absurd (cc)

one_same : (f : Items → Reading) (u : Reading) (x : Items) → on_one f u ≡ Ok x → (a : Items) × (u ≡ Ok a) × (f a ≡ Ok x)
one_same f (Ok a) x h = (a, refl, h)
one_same f (Err e) x h = absurd (cc)

divided : (k : ℕ) (y x : Items) → if_divisor k (tested y) ≡ Ok x → y ≡ x
divided k y x h = tested_same y x (if_ok (nat_le 1 k && nat_le k 2147483647) (tested y) BadSyntax x h)

module _ (loops : ℕ) where
  abbrev sizes_read : ℕ → Reading
  sizes_read k = Ok (size_form k)

  abbrev loops_read : ℕ → Reading
  loops_read d = Ok (var_form (loops - 1 - d))

  two_forms : (f : Items → Items → Reading) (g : Items → Items → Items) (a b : Iexp) (x : Items) → ((p q z : Items) → f p q ≡ Ok z → g p q ≡ z)
      → ((y : Items) → read_tree sizes_read loops_read a ≡ Ok y → tree_form loops a ≡ y)
      → ((y : Items) → read_tree sizes_read loops_read b ≡ Ok y → tree_form loops b ≡ y)
      → on_both f (read_tree sizes_read loops_read a) (read_tree sizes_read loops_read b) ≡ Ok x → g (tree_form loops a) (tree_form loops b) ≡ x
  two_forms f g a b x law left right h =
      let p = both_same f (read_tree sizes_read loops_read a) (read_tree sizes_read loops_read b) x h in
      (λ i. g (left p.0 p.2 i) (right p.1 p.3 i)) ∙ law p.0 p.1 x p.4

  read_form : (t : Iexp) (x : Items) → read_tree sizes_read loops_read t ≡ Ok x → tree_form loops t ≡ x
  read_form (Lit n) x h = number_same n x h
  read_form (Size k) x h = same (size_form k) x h
  read_form (Loop d) x h = same (var_form (loops - 1 - d)) x h
  read_form (index_sum a b) x h = two_forms (λ x y. tested (sum_of x y)) sum_of a b x (λ p q z. tested_same (sum_of p q) z) (read_form a) (read_form b) h
  read_form (index_difference a b) x h =
      two_forms (λ x y. tested (difference_of x y)) difference_of a b x (λ p q z. tested_same (difference_of p q) z) (read_form a) (read_form b) h
  read_form (index_product a b) x h = two_forms multiplied product_of a b x multiplied_same (read_form a) (read_form b) h
  read_form (index_quotient a k) x h =
      let p = one_same (λ x. if_divisor k (tested (quotient_of x k))) (read_tree sizes_read loops_read a) x h in
      ap (λ y. quotient_of y k) (read_form a p.0 p.1) ∙ divided k (quotient_of p.0 k) x p.2
  read_form (index_remainder a k) x h =
      let p = one_same (λ x. if_divisor k (tested (remainder_of x k))) (read_tree sizes_read loops_read a) x h in
      ap (λ y. remainder_of y k) (read_form a p.0 p.1) ∙ divided k (remainder_of p.0 k) x p.2
  read_form (index_larger a b) x h = absurd (cc)

  pub tree_back : (sizes : ℕ) (x : Items) → is_normal x ≡ true → items_scoped sizes loops x ≡ true → tree_form loops (index_tree loops x) ≡ x
  tree_back sizes x n s =
      read_form (index_tree loops x) x
      (tree-reads sizes_read loops_read loops sizes (λ k l. refl) (λ v l. let e : loops - 1 - (loops - 1 - v) ≡ v = omega (arith, l) in ap
      (λ k. ok (var_form k)) e) x n s)
