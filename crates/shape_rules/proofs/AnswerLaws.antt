-- From the answers for the operands to the answer of a rule.
use Rattle.std.proofs.Common.{◌≡◌, ℕ, ◌∷◌, length, ap, subst, sym, ◌∙◌, arith, Bool, true, false, not, ◌==◌, if◌then◌else◌, Result, Ok, Err, IfOk, MatchResult}
use Rattle.std.proofs.lemmas.Bool.{and_parts}
use Rattle.affine_index.specs.Normal.{Refused, RefusedProduct, holds_var}
use Rattle.affine_index.specs.Product.{product_of}
use Rattle.affine_index.specs.Sum.{sum_of}
use Rattle.affine_index.specs.declared.aff.Aff.{Aff}
use Rattle.affine_index.specs.declared.form.Items.{Items}
use Rattle.affine_index.specs.declared.refusal.AffRefusal.{AffRefusal}
use Rattle.affine_index.specs.declared.refusal.AffRefusal.TheVariants.{CoefficientTooLarge, IndexTooLong, NotAffine, Memory}
use Rattle.term_tree.specs.Shape.{Extents, Shaped, limited, of_concat, same_forms, with_child}
use Rattle.shape_rules.specs.Faults.{AreAnswered, IsAnswer, IsTrouble}
use Rattle.shape_rules.specs.Scopes.{each_free}
use Rattle.shape_rules.specs.declared.fault.Operands.{Operands}
use Rattle.shape_rules.specs.declared.fault.Trouble.{Trouble}

pub ok_shape : (shape : Shaped) (child : Result Extents Trouble) (ns : Extents) → child ≡ Ok ns → IsAnswer shape child → shape ≡ Ok ns
ok_shape shape child ns e h = subst (λ (r : Result Extents Trouble). IsAnswer shape r) e h

-- one operand with a shape
pub ruled : (shape : Shaped) (rule : Extents → Shaped) (child : Result Extents Trouble) (ns ms : Extents) (result : Result Extents Trouble) → child ≡ Ok ns
    → ns ≡ ms → IsAnswer shape child
    → IsAnswer (rule ms) result → IsAnswer (with_child 0 shape rule) result
ruled shape rule child ns ms result e f h k =
    subst (λ (s : Shaped). IsAnswer (with_child 0 s rule) result) (sym (ok_shape shape child ns e h ∙ ap Ok f)) k

-- two operands with shapes
pub both_ruled : (a b : Shaped) (rule : Extents → Extents → Shaped) (operands : Result Operands Trouble) (o : Operands) (xs ys : Extents)
    (result : Result Extents Trouble) → operands ≡ Ok o
    → o.first ≡ xs → o.second ≡ ys → AreAnswered a b operands → IsAnswer (rule xs ys) result → IsAnswer (with_child 0 a (λ ns. with_child 1 b (rule ns))) result
both_ruled a b rule operands o xs ys result e f g h k =
    let p = subst (λ (r : Result Operands Trouble). AreAnswered a b r) e h in
    subst (λ (s : Shaped). IsAnswer (with_child 0 s (λ ns. with_child 1 b (rule ns))) result) (sym (p.0 ∙ ap Ok f))
    (subst (λ (s : Shaped). IsAnswer (with_child 1 s (rule xs)) result) (sym (p.1 ∙ ap Ok g)) k)

-- an operand without one
pub none_ruled : (a b : Shaped) (rule : Extents → Extents → Shaped) (operands : Result Operands Trouble) (t : Trouble) → operands ≡ Err t
    → AreAnswered a b operands
    → IsTrouble (with_child 0 a (λ ns. with_child 1 b (rule ns))) t
none_ruled a b rule operands t e h = (subst (λ (r : Result Operands Trouble). AreAnswered a b r) e h) rule

-- a copy has the limits of the form
pub copied_form : (r : Result Aff AffRefusal) (x : Items) → MatchResult r (λ y. y ≡ x) (λ e. e ≡ Memory) → MatchResult r (λ y. y ≡ x) (Refused x)
copied_form (Ok y) x h = h
copied_form (Err e) x h = subst (Refused x) (sym h) tt

-- a product of forms without index variables is refused for its limits alone
refused_product : (a b : Items) (e : AffRefusal) → not (holds_var a) ≡ true → RefusedProduct a b (product_of a b) e → Refused (product_of a b) e
refused_product a b CoefficientTooLarge f h = h.1
refused_product a b IndexTooLong f h = h.1
refused_product a b NotAffine f h = absurd (by (holds_var a) f (and_parts (holds_var a) (holds_var b) h).0)
  where
    by : (x : Bool) → not x ≡ true → x ≡ true → ⊥
    by true f g = absurd (cc)
    by false f g = absurd (cc)
refused_product a b Memory f h = tt

product_of_free : (r : Result Aff AffRefusal) (a b : Items) → not (holds_var a) ≡ true
    → MatchResult r (λ y. y ≡ product_of a b) (λ e. RefusedProduct a b (product_of a b) e)
    → MatchResult r (λ y. y ≡ product_of a b) (Refused (product_of a b))
product_of_free (Ok y) a b f h = h
product_of_free (Err e) a b f h = refused_product a b e f h

pub flat_form : (child : Result Extents Trouble) (ns : Extents) (n m : Items) (rest : Extents) (r : Result Aff AffRefusal) → child ≡ Ok ns → ns ≡ n ∷ rest
    → IfOk child (λ ns. each_free ns ≡ true) → MatchResult r (λ y. y ≡ product_of n m) (λ e. RefusedProduct n m (product_of n m) e)
    → MatchResult r (λ y. y ≡ product_of n m) (Refused (product_of n m))
flat_form child ns n m rest r e f g h =
    let free : each_free (n ∷ rest) ≡ true = subst (λ (r : Result Extents Trouble). IfOk r (λ ns. each_free ns ≡ true)) (e ∙ ap Ok f) g in
    product_of_free r n m (and_parts (not (holds_var n)) (each_free rest) free).0 h

same_length : (m n : ℕ) → m ≡ n → (m == n) ≡ true
same_length m n e = grind arith

passed : (b c : Bool) (x y z : Shaped) (result : Result Extents Trouble) → b ≡ true → c ≡ true → IsAnswer z result
    → IsAnswer (if not b then x else (if not c then y else z)) result
passed true true x y z result e f h = h
passed true false x y z result e f h = absurd (cc)
passed false c x y z result e f h = absurd (cc)

pub concat_answer : (n m : Items) (f s : Extents) (result : Result Extents Trouble) → length f ≡ length s → same_forms f s ≡ true
    → IsAnswer (limited (sum_of n m ∷ f)) result
    → IsAnswer (of_concat (n ∷ f) (m ∷ s)) result
concat_answer n m f s result e g h = passed (length f == length s) (same_forms f s) _ _ _ result (same_length (length f) (length s) e) g h
