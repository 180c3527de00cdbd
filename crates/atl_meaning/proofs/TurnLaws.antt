-- What is left after turns.
use Rattle.std.proofs.Common.{◌≡◌, ℕ, zero, suc, ◌+◌, ◌-◌, ◌<◌, ◌≤◌, ◌≢◌, Bool, true, false, nat_le, Some, None, refl, ap, ◌∙◌, arith, add-one, if◌then◌else◌}
use Rattle.std.proofs.lemmas.Bool.Decides.{nat_tests}
use Rattle.atl_meaning.specs.Turns.{spent, total_below}

pub spent-enough : (n left : ℕ) → n ≤ left → spent n left ≡ Some (left - n)
spent-enough n left h = grind (arith, nat_tests)

pub spent-short : (n left : ℕ) → left < n → spent n left ≡ None
spent-short n left h = grind (arith, nat_tests)

-- enough was there, and this is left
pub enough-is : (n left rest : ℕ) → spent n left ≡ Some rest → (n ≤ left) × (rest ≡ left - n)
enough-is n left rest h = by (nat_le n left) refl h
  where
    le_of : (a b : ℕ) → nat_le a b ≡ true → a ≤ b
    le_of a b h = grind (arith, nat_tests)

    by : (b : Bool) → nat_le n left ≡ b → (if b then Some (left - n) else None) ≡ Some rest → (n ≤ left) × (rest ≡ left - n)
    by true e h = (le_of n left e, cc)
    by false e h = absurd (cc)

-- not enough was there
pub short-is : (n left : ℕ) → spent n left ≡ None → left < n
short-is n left h = by (nat_le n left) refl h
  where
    lt_of : (a b : ℕ) → nat_le a b ≡ false → b < a
    lt_of a b h = grind (arith, nat_tests)

    by : (b : Bool) → nat_le n left ≡ b → (if b then Some (left - n) else None) ≡ None → left < n
    by true e h = absurd (cc)
    by false e h = lt_of n left e

-- the turns of one part, then of another
pub spent-both : (a b left rest : ℕ) → spent a left ≡ Some rest → spent b rest ≡ spent (a + b) left
spent-both a b left rest h =
    let p = enough-is a left rest h in
    ap (spent b) p.1 ∙ by a b left p.0
  where
    by : (a b left : ℕ) → a ≤ left → spent b (left - a) ≡ spent (a + b) left
    by a b left p = grind (arith, nat_tests)

pub spent-first : (a b left : ℕ) → spent a left ≡ None → spent (a + b) left ≡ None
spent-first a b left h = spent-short (a + b) left (omega (arith, short-is a left h))

pub spent-none : (left : ℕ) → spent 0 left ≡ Some left
spent-none left = spent-enough 0 left (omega arith) ∙ ap Some (omega arith)

below-suc : (n : ℕ) (f : ℕ → ℕ) → total_below (n + 1) f ≡ total_below n f + f n
below-suc n f = ap (λ k. total_below k f) (add-one n)

below-more : (m n : ℕ) (f : ℕ → ℕ) → total_below m f ≤ total_below (m + n) f
below-more m zero f = let e : m + zero ≡ m = omega arith in omega (arith, ap (λ k. total_below k f) e)
below-more m (suc n) f = let e : m + suc n ≡ suc (m + n) = omega arith in omega (arith, ap (λ k. total_below k f) e, below-more m n f)

below-grows : (m n : ℕ) (f : ℕ → ℕ) → m ≤ n → total_below m f ≤ total_below n f
below-grows m n f h = let e : m + (n - m) ≡ n = omega arith in omega (arith, ap (λ k. total_below k f) e, below-more m (n - m) f)

pub ruleset limit_laws = (enough-is, short-is, spent-both, spent-first, spent-none)

pub ruleset spent_laws = (spent-both, spent-first, spent-none)

-- one more turn of a loop
pub loop-next : (f : ℕ → ℕ) (i t left rest after : ℕ) → f i ≡ 1 + t → spent (total_below i f) left ≡ Some rest → rest ≢ 0 → spent t (rest - 1) ≡ Some after
    → spent (total_below (i + 1) f) left ≡ Some after
loop-next f i t left rest after e h p k =
    let a = enough-is (total_below i f) left rest h in
    let b = enough-is t (rest - 1) after k in
    let c = below-suc i f in
    spent-enough (total_below (i + 1) f) left (omega arith) ∙ ap Some (omega arith)

-- a loop whose turns are more
pub loop-stops : (f : ℕ → ℕ) (i n t left rest : ℕ) → i < n → f i ≡ 1 + t → spent (total_below i f) left ≡ Some rest → rest < 1 + t
    → spent (total_below n f) left ≡ None
loop-stops f i n t left rest i<n e h p =
    let a = enough-is (total_below i f) left rest h in
    let c = below-suc i f in
    let d = below-grows (i + 1) n f (omega arith) in
    spent-short (total_below n f) left (omega arith)
