-- Products that end at a limit.
use Rattle.std.proofs.Common.{◌≡◌, ℕ, ◌*◌, ◌<◌, ◌≤◌, ◌⊎◌, inl, inr, max, min, List, [], ◌∷◌, refl, ap, ◌∙◌, Bool, true, false, nat_le, arith}
use Rattle.std.proofs.lemmas.Bool.Decides.{nat_tests}
use Rattle.atl_meaning.specs.Words.{word_product}

part : (m n : ℕ) → 1 ≤ n → m ≤ m * n
part m n h = grind arith

least : (m n : ℕ) → 1 ≤ m → 1 ≤ n → 1 ≤ m * n
least m n p q = grind arith

pub word_product-least : (ds : List ℕ) → 1 ≤ word_product ds
word_product-least [] = omega arith
word_product-least (d ∷ ds) = least (max d 1) (word_product ds) (omega arith) (word_product-least ds)

either : (a b : ℕ) → (a ≤ b) ⊎ (b < a)
either a b = by (nat_le a b) refl
  where
    le_of : (a b : ℕ) → nat_le a b ≡ true → a ≤ b
    le_of a b h = grind (arith, nat_tests)

    lt_of : (a b : ℕ) → nat_le a b ≡ false → b < a
    lt_of a b h = grind (arith, nat_tests)

    by : (t : Bool) → nat_le a b ≡ t → (a ≤ b) ⊎ (b < a)
    by true e = inl (le_of a b e)
    by false e = inr (lt_of a b e)

-- a product that ended may be multiplied on
pub product-next : (w m p cap r : ℕ) → r ≡ min (w * m) cap → 1 ≤ p → min (r * p) cap ≡ min (w * (m * p)) cap
product-next w m p cap r e h = elim (either (w * m) cap) [
  | inl l ↦ within l
  | inr l ↦ over l
]
  where
    whole : (a b c : ℕ) → (a * b) * c ≡ a * (b * c)
    whole a b c = omega arith

    within : w * m ≤ cap → min (r * p) cap ≡ min (w * (m * p)) cap
    within l = let f : r ≡ w * m = omega arith in ap (λ x. min (x * p) cap) f ∙ ap (λ x. min x cap) (whole w m p)

    over : cap < w * m → min (r * p) cap ≡ min (w * (m * p)) cap
    over l =
        let f : r ≡ cap = omega arith in
        let g : cap ≤ r * p = omega (arith, f, part r p h) in
        let k : cap ≤ w * (m * p) = omega (arith, part (w * m) p h, whole w m p) in
        omega (arith, g, k)
