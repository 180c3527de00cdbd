-- What the code of an attempt rests on.
use Rattle.std.proofs.Common.{◌≡◌, ℕ, zero, suc, ◌+◌, ◌*◌, ◌/◌, ◌%◌, ◌^◌, ◌<◌, ◌≤◌, List, [], ◌∷◌, ◌++◌, length, drop, take, get_or, refl, ap, sym, ◌∙◌, subst}
use Rattle.std.proofs.Common.{Bool, true, false, ◌&&◌, Option, Some, None, eqb, nat_le, mul-le-mul, arith}
use Rattle.std.specs.Prelude.{ℤ, pos, negsuc, ◌+ℤ◌, ◌*ℤ◌, if◌then◌else◌, slice_set}
use Rattle.std.specs.Int.{IsGcd}
use Rattle.std.specs.Int.RustNames.{unsigned_abs}
use Rattle.std.proofs.lemmas.Bool.{and_parts}
use Rattle.std.proofs.lemmas.Int.{ints}
use Rattle.std.proofs.lemmas.Nat.Gcd.{IsGcd-from_mod, IsGcd-from_zero, le_of_dvd, same_from_IsGcd}
use Rattle.std.proofs.lemmas.Nat.{le-div}
use Rattle.std.proofs.Math.Dec.{eqb-suc-zero, eqb-zero-suc}
use Rattle.std.proofs.Math.Nat.{div-le_self, eq-zero_of_zero-dvd, mod-lt}
use Rattle.affine_index.specs.Normal.{is_normal}
use Rattle.affine_index.specs.Sum.{scaled, scaled_terms}
use Rattle.affine_index.specs.Wide.{norm}
use Rattle.affine_index.proofs.NormLaws.{scaled-norm}
use Rattle.affine_index.proofs.PutNorm.{normal-norm}
use Rattle.affine_index.specs.declared.form.Atom.{Atom}
use Rattle.affine_index.specs.declared.form.Item.{Item}
use Rattle.affine_index.specs.declared.form.Items.{Items}
use Rattle.fact_list.proofs.Appending.{drop-item, take-all}
use Rattle.linear_cert.proofs.RoomLaws.{few-from, few-is, length-add, length-all, many-is}
use Rattle.linear_cert.specs.DefaultLines.{add_at, all_times, gcd, gcd_steps, multiplier_fits, multipliers_fit, needed}

gcd_steps-is : (n a b : ℕ) → b < n → IsGcd a b (gcd_steps n a b)
gcd_steps-is zero a b h = absurd (omega arith)
gcd_steps-is (suc n) a zero h = IsGcd-from_zero a zero refl
gcd_steps-is (suc n) a (suc b) h =
    let less : a % suc b < suc b = mod-lt a (omega arith) in
    IsGcd-from_mod a (suc b) (gcd_steps n (suc b) (a % suc b)) (gcd_steps-is n (suc b) (a % suc b) (omega arith))

-- it is the greatest common divisor
pub gcd-is : (a b : ℕ) → IsGcd a b (gcd a b)
gcd-is a b = gcd_steps-is (suc b) a b (omega arith)

pub needed-is : (c k g : ℕ) → IsGcd c k g → k / g ≡ needed c k
needed-is c k g h = ap (λ n. k / n) (same_from_IsGcd c k g (gcd c k) h (gcd-is c k))

pub divisor-positive : (c k g : ℕ) → 0 < k → IsGcd c k g → 0 < g
divisor-positive c k zero h d = let none = eq-zero_of_zero-dvd d.1 in absurd (omega arith)
divisor-positive c k (suc g) h d = omega arith

pub needed-some : (c k g : ℕ) → 0 < k → IsGcd c k g → 0 < k / g
needed-some c k g h d = by (k / g) refl
  where
    one : (g : ℕ) → 1 * g ≡ g
    one g = omega arith

    by : (q : ℕ) → k / g ≡ q → 0 < k / g
    by q e = le-div 1 k g (divisor-positive c k g h d) (omega (arith, le_of_dvd h d.1, one g))

-- one step of Euclid's
pub gcd-next : (a b x y : ℕ) → ((g : ℕ) → IsGcd a b g → IsGcd x y g) → (g : ℕ) → IsGcd b (a % b) g → IsGcd x y g
gcd-next a b x y h g i = h g (IsGcd-from_mod a b g i)

plus-none : (x : ℤ) → x +ℤ pos 0 ≡ x
plus-none x = omega (arith, ints)

all_next : (by : ℕ) (zs : List ℤ) (i : ℕ) (d z v : ℤ) → i < length zs → z ≡ get_or zs i d → v ≡ (pos by *ℤ z) +ℤ pos 0
    → take i (all_times by zs) ++ v ∷ [] ≡ take (suc i) (all_times by zs)
all_next by [] i d z v h e q = absurd (omega arith)
all_next by (x ∷ zs) zero d z v h e q = ap (λ y. y ∷ []) (q ∙ plus-none (pos by *ℤ z) ∙ ap (λ y. pos by *ℤ y) e)
all_next by (x ∷ zs) (suc i) d z v h e q = ap (λ ys. (pos by *ℤ x) ∷ ys) (all_next by zs i d z v (omega arith) e q)

times_next : (by : ℕ) (zs : List ℤ) (i at amount : ℕ) (d z v : ℤ) → i < length zs → z ≡ get_or zs i d
    → v ≡ (pos by *ℤ z) +ℤ pos (if eqb i at then amount else 0)
    → take i (add_at (all_times by zs) at (pos amount)) ++ v ∷ [] ≡ take (suc i) (add_at (all_times by zs) at (pos amount))
times_next by [] i at amount d z v h e q = absurd (omega arith)
times_next by (x ∷ zs) zero zero amount d z v h e q = ap (λ y. y ∷ []) (q ∙ ap (λ y. (pos by *ℤ y) +ℤ pos amount) e)
times_next by (x ∷ zs) zero (suc at) amount d z v h e q =
    ap (λ y. y ∷ []) (q ∙ ap (λ b. (pos by *ℤ z) +ℤ pos (if b then amount else 0)) (eqb-zero-suc at) ∙ plus-none (pos by *ℤ z) ∙ ap (λ y. pos by *ℤ y) e)
times_next by (x ∷ zs) (suc i) zero amount d z v h e q =
    ap (λ ys. ((pos by *ℤ x) +ℤ pos amount) ∷ ys)
    (all_next by zs i d z v (omega arith) e (q ∙ ap (λ b. (pos by *ℤ z) +ℤ pos (if b then amount else 0)) (eqb-suc-zero i)))
times_next by (x ∷ zs) (suc i) (suc at) amount d z v h e q =
    ap (λ ys. (pos by *ℤ x) ∷ ys)
    (times_next by zs i at amount d z v (omega arith) e (q ∙ ap (λ b. (pos by *ℤ z) +ℤ pos (if b then amount else 0)) (both_less i at)))
  where
    both_less : (i at : ℕ) → eqb (suc i) (suc at) ≡ eqb i at
    both_less i at = grind arith

-- one multiplier more
pub times-next : (by : ℕ) (zs : List ℤ) (i at amount : ℕ) (d z v : ℤ) (some more : List ℤ) → i < length zs → z ≡ get_or zs i d
    → v ≡ (pos by *ℤ z) +ℤ pos (if eqb i at then amount else 0)
    → some ≡ take i (add_at (all_times by zs) at (pos amount)) → more ≡ some ++ v ∷ [] → more ≡ take (i + 1) (add_at (all_times by zs) at (pos amount))
times-next by zs i at amount d z v some more h e q a b =
    b ∙ ap (λ ys. ys ++ v ∷ []) a ∙ times_next by zs i at amount d z v h e q ∙ ap (λ n. take n (add_at (all_times by zs) at (pos amount))) (turn i)
  where
    turn : (i : ℕ) → suc i ≡ i + 1
    turn i = omega arith

pub times-all : (by : ℕ) (zs : List ℤ) (n at : ℕ) (m : ℤ) (some : List ℤ) → length zs ≤ n → some ≡ take n (add_at (all_times by zs) at m)
    → some ≡ add_at (all_times by zs) at m
times-all by zs n at m some h e = e ∙ take-all n (add_at (all_times by zs) at m) (omega (arith, length-add (all_times by zs) at m, length-all by zs))

once : (z : ℤ) → pos 1 *ℤ z ≡ z
once z = omega (arith, ints)

all_once : (zs : List ℤ) → all_times 1 zs ≡ zs
all_once [] = refl
all_once (z ∷ zs) = λ k. once z k ∷ all_once zs k

-- one multiplier more, where the others are taken once
pub set-more : (zs : List ℤ) (at amount : ℕ) (d z v : ℤ) → at < length zs → z ≡ get_or zs at d → v ≡ (pos 1 *ℤ z) +ℤ pos amount
    → slice_set zs at v ≡ add_at (all_times 1 zs) at (pos amount)
set-more [] at amount d z v h e q = absurd (omega arith)
set-more (x ∷ zs) zero amount d z v h e q = λ k. (q ∙ ap (λ y. (pos 1 *ℤ y) +ℤ pos amount) e) k ∷ sym (all_once zs) k
set-more (x ∷ zs) (suc at) amount d z v h e q = λ k. sym (once x) k ∷ set-more zs at amount d z v (omega arith) e q k

-- a form taken once
terms_once : (ts : List (Item Atom)) → scaled_terms (pos 1) ts ≡ ts
terms_once [] = refl
terms_once (t ∷ ts) = λ k. record { atom = t.atom; coefficient = once t.coefficient k } ∷ terms_once ts k

pub scaled-once : (by : ℕ) (i : Items) → by ≡ 1 → i ≡ scaled (pos by) i
scaled-once by i e = sym (ap (λ n. scaled (pos n) i) e ∙ λ k. record { terms = terms_once i.terms k; constant = once i.constant k })

-- a multiplier within the limit
pub fits-at : (zs : List ℤ) (i : ℕ) (d z : ℤ) → i < length zs → z ≡ get_or zs i d → multipliers_fit zs ≡ true → unsigned_abs z ≤ 2 ^ 31
fits-at [] i d z h e f = absurd (omega arith)
fits-at (x ∷ zs) zero d z h e f = few-from (unsigned_abs z) (ap multiplier_fits e ∙ (and_parts (multiplier_fits x) (multipliers_fit zs) f).0)
fits-at (x ∷ zs) (suc i) d z h e f = fits-at zs i d z (omega arith) e (and_parts (multiplier_fits x) (multipliers_fit zs) f).1

fits_parts : (zs : List ℤ) (i : ℕ) (z : ℤ) → i < length zs → z ≡ get_or zs i z
    → multipliers_fit (drop i zs) ≡ (multiplier_fits z && multipliers_fit (drop (i + 1) zs))
fits_parts zs i z h e = ap multipliers_fit (drop-item zs i z h e)

pub fits-false : (zs : List ℤ) (i : ℕ) (z : ℤ) → i < length zs → z ≡ get_or zs i z → 2 ^ 31 < unsigned_abs z → multipliers_fit (drop i zs) ≡ false
fits-false zs i z h e l = fits_parts zs i z h e ∙ ap (λ b. b && multipliers_fit (drop (i + 1) zs)) (many-is (unsigned_abs z) l)

pub fits-next : (zs : List ℤ) (i : ℕ) (z : ℤ) → i < length zs → z ≡ get_or zs i z → unsigned_abs z ≤ 2 ^ 31
    → multipliers_fit (drop (i + 1) zs) ≡ multipliers_fit (drop i zs)
fits-next zs i z h e l = sym (fits_parts zs i z h e ∙ ap (λ b. b && multipliers_fit (drop (i + 1) zs)) (few-is (unsigned_abs z) l))

-- the room for what a form is less
pub times-small : (z : ℤ) (amount n : ℕ) → z ≡ pos amount → amount ≤ 2 ^ 32 → n ≤ 2 ^ 48 → unsigned_abs z * n ≤ 2 ^ 80
times-small z amount n e h l = omega (arith, mul-le-mul (few (unsigned_abs z) amount (ap unsigned_abs e) h) l)
  where
    few : (a b : ℕ) → a ≡ b → b ≤ 2 ^ 32 → a ≤ 2 ^ 32
    few a b e h = omega arith

pub taken-small : (z : ℤ) (amount : ℕ) (form copy taken : Items) → z ≡ pos amount → amount ≤ 2 ^ 32 → copy ≡ form → is_normal form ≡ true
    → taken ≡ scaled z copy → norm taken ≤ 2 ^ 80
taken-small z amount form copy taken e h c n t =
    omega (arith, ap norm t, scaled-norm z copy, times-small z amount (norm copy) e h (omega (arith, ap norm c, normal-norm form n)))

pub whole-small : (z : ℤ) (by : ℕ) (left whole : Items) → z ≡ pos by → by * norm left ≤ 2 ^ 122 → whole ≡ scaled z left → norm whole ≤ 2 ^ 122
whole-small z by left whole e h w = omega (arith, ap norm w, scaled-norm z left, ap (λ (y : ℤ). unsigned_abs y * norm left) e, h)

pub minus-small : (taken minus : Items) → norm taken ≤ 2 ^ 80 → minus ≡ scaled (negsuc 0) taken → norm minus ≤ 2 ^ 80
minus-small taken minus h e = omega (arith, ap norm e, scaled-norm (negsuc 0) taken, h)

pub ruleset attempt_laws = (IsGcd-from_zero, gcd-next, needed-is, needed-some, div-le_self)
