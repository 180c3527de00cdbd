-- Outputs one by one, and lengths by halves.
use Rattle.std.proofs.Common.{◌≡◌, ℕ, zero, suc, ◌+◌, ◌-◌, ◌/◌, ◌%◌, ◌≤◌, List, [], ◌∷◌, length, take, drop, refl, ap, sym, subst, ◌∙◌, arith, length-take}
use Rattle.region_plan.specs.Length.{larger_of}
use Rattle.region_plan.specs.Needed.{by_halves}
use Rattle.region_plan.specs.declared.length.Length.{Length}

abbrev no_items : {A : Type 0} → List A
no_items = []

take_take : {A : Type 0} (h c : ℕ) (ls : List A) → h ≤ c → take h (take c ls) ≡ take h ls
take_take zero c ls q = refl
take_take (suc h) zero ls q = absurd (omega (arith, q))
take_take (suc h) (suc c) [] q = refl
take_take (suc h) (suc c) (l ∷ ls) q = ap (λ xs. l ∷ xs) (take_take h c ls (omega (arith, q)))

none_taken : {A : Type 0} (n : ℕ) → [] ≡ take n (no_items {A = A})
none_taken zero = refl
none_taken (suc n) = refl

drop_take : {A : Type 0} (h c : ℕ) (ls : List A) → h ≤ c → drop h (take c ls) ≡ take (c - h) (drop h ls)
drop_take zero c ls q = let e : c ≡ c - 0 = omega arith in ap (λ n. take n ls) e
drop_take (suc h) zero ls q = absurd (omega (arith, q))
drop_take (suc h) (suc c) [] q = none_taken (suc c - suc h)
drop_take (suc h) (suc c) (l ∷ ls) q = let e : c - h ≡ suc c - suc h = omega arith in drop_take h c ls (omega (arith, q)) ∙ ap (λ n. take n (drop h ls)) e

by_step : (room : ℕ) (ls : List Length) → 2 ≤ length ls
    → by_halves (suc room) ls ≡ larger_of (by_halves room (take ((length ls + 1) / 2) ls)) (by_halves room (drop ((length ls + 1) / 2) ls))
by_step room [] h = absurd (omega (arith, h))
by_step room (l ∷ []) h = absurd (omega (arith, h))
by_step room (l ∷ m ∷ ls) h = refl

half_is : (c : ℕ) → c / 2 + c % 2 ≡ (c + 1) / 2
half_is c = grind arith

half_low : (c : ℕ) → 2 ≤ c → (c + 1) / 2 ≤ c
half_low c h = grind arith

-- the larger of both halves
pub halves_step : (room count half : ℕ) (ls : List Length) (first second : Length) → 2 ≤ count → count ≤ length ls → count ≤ room + 1
    → half ≡ count / 2 + count % 2
    → first ≡ by_halves (room - 1) (take half ls) → second ≡ by_halves (room - 1) (take (count - half) (drop half ls))
    → larger_of first second ≡ by_halves room (take count ls)
halves_step zero count half ls first second two there fits e f g = absurd (omega (arith, two, fits))
halves_step (suc room) count half ls first second two there fits e f g =
    let all = take count ls in
    let long : length all ≡ count = omega (arith, length-take count ls, there) in
    let k = (count + 1) / 2 in
    let half_at : half ≡ k = e ∙ half_is count in
    let low = half_low count two in
    let room_at : suc room - 1 ≡ room = omega arith in
    let a : first ≡ by_halves room (take k all) = f ∙ (λ i. by_halves (room_at i) (take (half_at i) ls))
    ∙ ap (by_halves room) (sym (take_take k count ls low)) in
    let b : second ≡ by_halves room (drop k all) = g ∙ (λ i. by_halves (room_at i) (take (count - half_at i) (drop (half_at i) ls)))
    ∙ ap (by_halves room) (sym (drop_take k count ls low)) in
    (λ i. larger_of (a i) (b i))
    ∙ (λ i. larger_of (by_halves room (take ((sym long i + 1) / 2) all)) (by_halves room (drop ((sym long i + 1) / 2) all)))
    ∙ sym (by_step room all (subst (λ n. 2 ≤ n) (sym long) two))
