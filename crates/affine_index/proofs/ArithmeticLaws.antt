-- What the operations take: normal forms have small numbers, and give normal forms.
use Rattle.std.proofs.Common.{◌≡◌, ℕ, ◌+◌, ◌*◌, ◌<◌, ◌≤◌, ◌^◌, refl, ap, sym, ◌∙◌, subst, arith, Bool, true, false, ◌&&◌, ◌⊎◌, inl, inr, Result, Ok, Err, IfOk}
use Rattle.std.proofs.Common.{MatchResult}
use Rattle.std.specs.Prelude.{ℤ, negsuc}
use Rattle.std.specs.Int.RustNames.{unsigned_abs}
use mir.Syntax.{w64}
use mir.Val.{SFits}
use Rattle.std.proofs.lemmas.Bool.{and_parts}
use Rattle.std.proofs.lemmas.Int.{ints}
use Rattle.affine_index.specs.Normal.{Refused, holds_var, is_normal, is_ordered}
use Rattle.affine_index.specs.Product.{product_of}
use Rattle.affine_index.specs.Quotient.{quotient_of}
use Rattle.affine_index.proofs.ProductOrdered.{Apart, free-is, products-ordered}
use Rattle.affine_index.specs.Sum.{difference_of, scaled, sum_of}
use Rattle.affine_index.specs.Wide.{norm}
use Rattle.affine_index.proofs.NormLaws.{scaled-norm}
use Rattle.affine_index.proofs.OrderedLaws.{difference-ordered, quotient-ordered, scaled-ordered}
use Rattle.affine_index.proofs.PutNorm.{normal-norm}
use Rattle.affine_index.proofs.Sorted.{sum-ordered}
use Rattle.affine_index.specs.declared.aff.Aff.{Aff}
use Rattle.affine_index.specs.declared.form.Items.{Items}
use Rattle.affine_index.specs.declared.refusal.AffRefusal.{AffRefusal}

pub normal-ordered : (i : Items) → is_normal i ≡ true → is_ordered i ≡ true
normal-ordered i h = (and_parts (is_ordered i) _ h).0

-- a fact of the result of an operation, from that of its definition
pub if_ok : (P : Items → Type 0) (r : Result Aff AffRefusal) (x : Items) → P x → MatchResult r (λ y. y ≡ x) (λ e. Refused x e) → IfOk r P
if_ok P (Ok y) x p h = subst P (sym h) p
if_ok P (Err e) x p h = tt

pub sum-room : (a b x y : Items) → x ≡ a → y ≡ b → is_normal a ≡ true → is_normal b ≡ true → norm x + norm y < 2 ^ 127
sum-room a b x y e f p q = omega (arith, ap norm e, ap norm f, normal-norm a p, normal-norm b q)

pub minus-room : (b y : Items) → y ≡ b → is_normal b ≡ true → unsigned_abs (negsuc 0) * norm y < 2 ^ 127
minus-room b y f q = omega (arith, ap norm f, normal-norm b q)

pub difference-room : (a b x y : Items) → x ≡ a → y ≡ scaled (negsuc 0) b → is_normal a ≡ true → is_normal b ≡ true → norm x + norm y < 2 ^ 127
difference-room a b x y e f p q = omega (arith, ap norm e, ap norm f, normal-norm a p, normal-norm b q, scaled-norm (negsuc 0) b)

pub scale-room : (c : ℤ) (a x : Items) → unsigned_abs c ≤ 2 ^ 63 → x ≡ a → is_normal a ≡ true → unsigned_abs c * norm x < 2 ^ 127
scale-room c a x h e p = omega (
  arith,
  ap norm e,
  most (unsigned_abs c) (norm a) (2 ^ 63) (2 ^ 48) h (normal-norm a p),
  ap (λ n. unsigned_abs c * n) (ap norm e),
)
  where
    most : (a b c d : ℕ) → a ≤ c → b ≤ d → a * b ≤ c * d
    most a b c d p q = grind arith

pub ordered-sum : (a b x : Items) → x ≡ sum_of a b → is_normal a ≡ true → is_normal b ≡ true → is_ordered x ≡ true
ordered-sum a b x e p q = ap is_ordered e ∙ sum-ordered a b (normal-ordered a p) (normal-ordered b q)

pub ordered-difference : (a b x : Items) → x ≡ difference_of a b → is_normal a ≡ true → is_normal b ≡ true → is_ordered x ≡ true
ordered-difference a b x e p q = ap is_ordered e ∙ difference-ordered a b (normal-ordered a p) (normal-ordered b q)

pub ordered-scaled : (c : ℤ) (a x : Items) → x ≡ scaled c a → is_normal a ≡ true → is_ordered x ≡ true
ordered-scaled c a x e p = ap is_ordered e ∙ scaled-ordered c a (normal-ordered a p)

-- the same where the operation names an equal form
pub op_value : (P : Items → Type 0) (r : Result Aff AffRefusal) (x y : Items) → x ≡ y → P y → MatchResult r (λ z. z ≡ x) (λ e. Refused x e) → IfOk r P
op_value P r x y e p h = if_ok P r x (subst P (sym e) p) h

pub word-most : (z : ℤ) → SFits w64 z → unsigned_abs z ≤ 2 ^ 63
word-most z f = grind (arith, ints)

both_false : (a b : Bool) → (a && b) ≡ false → (a ≡ false) ⊎ (b ≡ false)
both_false true b e = inr e
both_false false b e = inl refl

pub apart-is : (a b : Items) → (holds_var a && holds_var b) ≡ false → Apart a b
apart-is a b e = by (both_false (holds_var a) (holds_var b) e)
  where
    by : ((holds_var a ≡ false) ⊎ (holds_var b ≡ false)) → Apart a b
    by (inl p) = inl (free-is a p)
    by (inr p) = inr (free-is b p)

pub product-room : (a b x y : Items) → x ≡ a → y ≡ b → is_normal a ≡ true → is_normal b ≡ true → norm x * norm y < 2 ^ 127
product-room a b x y e f p q =
    let P : Items → Items → Type 0 = λ i j. norm i * norm j < 2 ^ 127 in
    subst (λ (j : Items). P x j) (sym f) (subst (λ (i : Items). P i b) (sym e) (small (norm a) (norm b) (normal-norm a p) (normal-norm b q)))
  where
    small : (m n : ℕ) → m ≤ 2 ^ 48 → n ≤ 2 ^ 48 → m * n < 2 ^ 127
    small m n p q = let h : m * n ≤ 2 ^ 48 * 2 ^ 48 = most m n (2 ^ 48) p q in omega (arith, h)
      where
        most : (a b c : ℕ) → a ≤ c → b ≤ c → a * b ≤ c * c
        most a b c p q = grind arith

pub one-room : (a x : Items) → x ≡ a → is_normal a ≡ true → norm x + 1 < 2 ^ 127
one-room a x e p = omega (arith, ap norm e, normal-norm a p)

pub second-room : (a x : Items) → x ≡ a → is_normal a ≡ true → norm x < 2 ^ 127
second-room a x e p = omega (arith, ap norm e, normal-norm a p)

pub ordered-product : (a b x : Items) → x ≡ product_of a b → (holds_var a && holds_var b) ≡ false → is_normal a ≡ true → is_normal b ≡ true
    → is_ordered x ≡ true
ordered-product a b x e n p q = ap is_ordered e ∙ products-ordered a b (normal-ordered a p) (normal-ordered b q) (apart-is a b n)

pub ordered-quotient : (a x : Items) (k : ℕ) → x ≡ quotient_of a k → 0 < k → k ≤ 2147483647 → is_normal a ≡ true → is_ordered x ≡ true
ordered-quotient a x k e h l p = ap is_ordered e ∙ quotient-ordered a k h l (normal-ordered a p)

pub ok_same : {E : Type 0} (r : Result Items E) (a b : Items) → a ≡ b → IfOk r (λ x. x ≡ a) → IfOk r (λ x. x ≡ b)
ok_same (Ok x) a b e h = h ∙ e
ok_same (Err x) a b e h = tt
