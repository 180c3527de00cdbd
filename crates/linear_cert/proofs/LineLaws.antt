-- What the check of given lines rests on.
use Rattle.std.proofs.Common.{◌≡◌, ℕ, zero, suc, ◌+◌, ◌-◌, ◌*◌, ◌^◌, ◌<◌, ◌≤◌, List, [], ◌∷◌, map, length, drop, refl, ap, sym, ◌∙◌, subst, Bool, true, false}
use Rattle.std.proofs.Common.{◌&&◌, ◌||◌, not, eqb, get_or, arith}
use Rattle.std.specs.Prelude.{ℤ, pos, negsuc, slice_get}
use Rattle.std.specs.Int.RustNames.{unsigned_abs}
use Rattle.std.specs.Option.{option_map}
use Rattle.std.specs.List.{IsDistinct, AllByRecursion, list_any}
use Rattle.std.proofs.lemmas.Bool.{and_parts}
use Rattle.std.proofs.lemmas.Map.Steps.{length-le_from_distinct_below}
use Rattle.affine_index.specs.Form.{literal_form}
use Rattle.affine_index.specs.Normal.{is_normal}
use Rattle.affine_index.specs.Sum.{add_up, scaled, sum_of}
use Rattle.affine_index.specs.Wide.{norm}
use Rattle.affine_index.proofs.NormLaws.{scaled-norm, sum-norm}
use Rattle.affine_index.proofs.PutNorm.{normal-norm}
use Rattle.affine_index.specs.declared.form.Items.{Items}
use Rattle.fact_list.specs.declared.role.Fact.{Fact}
use Rattle.linear_cert.specs.Shown.{form_or_zero, lines_good, may_take_some, names_fact, negated, numbered, taken}
use Rattle.linear_cert.specs.declared.lines.Line.{Line}

pub numbered-later : (facts : List Fact) (goal : Items) (n : ℕ) → 0 < n → numbered facts goal n ≡ numbered facts goal (suc (n - 1))
numbered-later facts goal zero h = absurd (omega arith)
numbered-later facts goal (suc n) h = ap (λ (m : ℕ). numbered facts goal (suc m)) (omega arith)

pub ruleset line_laws = (numbered-later)

-- the negated goal has small numbers
pub minus-room : (g x : Items) → x ≡ g → is_normal g ≡ true → unsigned_abs (negsuc 0) * norm x < 2 ^ 127
minus-room g x e h = omega (arith, ap norm e, normal-norm g h)

pub minus-norm : (g x : Items) → x ≡ scaled (negsuc 0) g → is_normal g ≡ true → norm x ≤ 2 ^ 48
minus-norm g x e h = omega (arith, ap norm e, scaled-norm (negsuc 0) g, normal-norm g h)

pub negated-norm : (g x : Items) → x ≡ negated g → is_normal g ≡ true → norm x ≤ 2 ^ 49
negated-norm g x e h = omega (arith, ap norm e, sum-norm (literal_form (negsuc 0)) (scaled (negsuc 0) g), scaled-norm (negsuc 0) g, normal-norm g h)

pub negated-room : (g x y : Items) → x ≡ literal_form (negsuc 0) → y ≡ scaled (negsuc 0) g → is_normal g ≡ true → norm x + norm y < 2 ^ 127
negated-room g x y e f h = omega (arith, ap norm e, minus-norm g y f h)

most : (a b c d : ℕ) → a ≤ c → b ≤ d → a * b ≤ c * d
most a b c d p q = grind arith

-- a multiple of a form with small numbers
pub times-room : (m : ℤ) (x : Items) → unsigned_abs m ≤ 2 ^ 63 → norm x ≤ 2 ^ 49 → unsigned_abs m * norm x ≤ 2 ^ 112
times-room m x h l = omega (arith, most (unsigned_abs m) (norm x) (2 ^ 63) (2 ^ 49) h l)

pub times-norm : (m : ℤ) (x y : Items) → y ≡ scaled m x → unsigned_abs m ≤ 2 ^ 63 → norm x ≤ 2 ^ 49 → norm y ≤ 2 ^ 112
times-norm m x y e h l = omega (arith, ap norm e, scaled-norm m x, times-room m x h l)

pub more-norm : (t y z : Items) → z ≡ sum_of t y → norm y ≤ 2 ^ 112 → norm z ≤ norm t + 2 ^ 112
more-norm t y z e l = omega (arith, ap norm e, sum-norm t y)

-- the number of a line that may be taken is that of a fact, or 0
pub number-within : (facts : List Fact) (goal : Items) (m : ℤ) (n : ℕ) → may_take_some m (numbered facts goal n) ≡ true → n ≤ length facts
number-within facts goal m zero h = omega arith
number-within facts goal m (suc n) h = by facts n h
  where
    by : (xs : List Fact) (n : ℕ) → may_take_some m (option_map (λ x. x.cmp) (slice_get xs n)) ≡ true → suc n ≤ length xs
    by [] n h = absurd (cc)
    by (x ∷ xs) zero h = omega arith
    by (x ∷ xs) (suc n) h = let e = by xs n h in omega arith

pub record FirstGood (facts : List Fact) (goal : Items) (l : Line) (ls : List Line) : Type 0 where
  pub within : l.fact ≤ length facts
  pub once : names_fact l.fact ls ≡ false
  pub rest : lines_good facts goal ls ≡ true

pub first_good : (facts : List Fact) (goal : Items) (l : Line) (ls : List Line) → lines_good facts goal (l ∷ ls) ≡ true → FirstGood facts goal l ls
first_good facts goal l ls h =
    let a = and_parts (may_take_some l.multiplier (numbered facts goal l.fact)) (not (names_fact l.fact ls) && lines_good facts goal ls) h in
    let b = and_parts (not (names_fact l.fact ls)) (lines_good facts goal ls) a.1 in
    record { within = number-within facts goal l.multiplier l.fact a.0; once = from_not (names_fact l.fact ls) b.0; rest = b.1 }
  where
    from_not : (b : Bool) → not b ≡ true → b ≡ false
    from_not true h = absurd (cc)
    from_not false h = refl

none_equal : (n : ℕ) (ls : List Line) → names_fact n ls ≡ false → AllByRecursion (λ y. eqb n y ≡ false) (map (λ l. l.fact) ls)
none_equal n [] h = tt
none_equal n (l ∷ ls) h = by (eqb n l.fact) (names_fact n ls) refl refl h (none_equal n ls)
  where
    by : (a b : Bool) → eqb n l.fact ≡ a → names_fact n ls ≡ b → (a || b) ≡ false
        → (names_fact n ls ≡ false → AllByRecursion (λ y. eqb n y ≡ false) (map (λ l. l.fact) ls))
        → AllByRecursion (λ y. eqb n y ≡ false) (map (λ l. l.fact) (l ∷ ls))
    by false false e g h k = (e, k g)
    by false true e g h k = absurd (cc)
    by true b e g h k = absurd (cc)

distinct_numbers : (facts : List Fact) (goal : Items) (ls : List Line) → lines_good facts goal ls ≡ true → IsDistinct eqb (map (λ l. l.fact) ls)
unfolding IsDistinct
distinct_numbers facts goal [] h = tt
distinct_numbers facts goal (l ∷ ls) h = let a = first_good facts goal l ls h in (none_equal l.fact ls a.once, distinct_numbers facts goal ls a.rest)

same_numbers : (q n : ℕ) → eqb q n ≡ true → q ≡ n
same_numbers q n h = grind arith

one_below : (facts : List Fact) (goal : Items) (l : Line) (ls : List Line) → FirstGood facts goal l ls → (q : ℕ) (b : Bool) → eqb q l.fact ≡ b
    → (b || list_any (eqb q) (map (λ l. l.fact) ls)) ≡ true
    → (list_any (eqb q) (map (λ l. l.fact) ls) ≡ true → q < length facts + 1) → q < length facts + 1
one_below facts goal l ls a q true f e k = omega (arith, a.within, same_numbers q l.fact f)
one_below facts goal l ls a q false f e k = k e

numbers_below : (facts : List Fact) (goal : Items) (ls : List Line) → lines_good facts goal ls ≡ true → (q : ℕ) → list_any (eqb q) (map (λ l. l.fact) ls) ≡ true
    → q < length facts + 1
numbers_below facts goal [] h q e = absurd (cc)
numbers_below facts goal (l ∷ ls) h q e = let a = first_good facts goal l ls h in
    one_below facts goal l ls a q (eqb q l.fact) refl e (numbers_below facts goal ls a.rest q)

-- lines that name each fact at most once are few
pub lines-few : (facts : List Fact) (goal : Items) (ls : List Line) → lines_good facts goal ls ≡ true → length ls ≤ length facts + 1
lines-few facts goal ls h =
    let e = length-le_from_distinct_below (map (λ l. l.fact) ls) (length facts + 1) (distinct_numbers facts goal ls h) (numbers_below facts goal ls h) in
    omega (arith, length-map_is ls)
  where
    length-map_is : (ls : List Line) → length (map (λ l. l.fact) ls) ≡ length ls
    length-map_is [] = refl
    length-map_is (l ∷ ls) = ap suc (length-map_is ls)

-- a line that may not be taken
pub bad-line : (facts : List Fact) (goal : Items) (ls : List Line) (i : ℕ) (d : Line) → i < length ls
    → false ≡ may_take_some (get_or ls i d).multiplier (numbered facts goal (get_or ls i d).fact) → false ≡ lines_good facts goal (drop i ls)
bad-line facts goal [] i d h f = absurd (omega arith)
bad-line facts goal (l ∷ ls) zero d h f = by (may_take_some l.multiplier (numbered facts goal l.fact)) f
  where
    by : (b : Bool) → false ≡ b → false ≡ (b && (not (names_fact l.fact ls) && lines_good facts goal ls))
    by true e = absurd (cc)
    by false e = refl
bad-line facts goal (l ∷ ls) (suc i) d h f = bad-line facts goal ls i d (omega arith) f

-- the line at a place of good lines, and what follows it
good_at : (facts : List Fact) (goal : Items) (ls : List Line) (i : ℕ) (d : Line) → i < length ls → lines_good facts goal (drop i ls) ≡ true
    → ((get_or ls i d).fact ≤ length facts) × (lines_good facts goal (drop (suc i) ls) ≡ true)
good_at facts goal [] i d h f = absurd (omega arith)
good_at facts goal (l ∷ ls) zero d h f = let a = first_good facts goal l ls f in (a.within, a.rest)
good_at facts goal (l ∷ ls) (suc i) d h f = good_at facts goal ls i d (omega arith) f

pub good-at : (facts : List Fact) (goal : Items) (ls : List Line) (i : ℕ) (d : Line) → i < length ls → lines_good facts goal (drop i ls) ≡ true
    → (get_or ls i d).fact ≤ length facts
good-at facts goal ls i d h f = (good_at facts goal ls i d h f).0

pub good-next : (facts : List Fact) (goal : Items) (ls : List Line) (i : ℕ) → i < length ls → lines_good facts goal (drop i ls) ≡ true
    → lines_good facts goal (drop (i + 1) ls) ≡ true
good-next facts goal ls i h f =
    subst (λ (n : ℕ). lines_good facts goal (drop n ls) ≡ true) (turn i) (good_at facts goal ls i (record { fact = 0; multiplier = pos 0 }) h f).1
  where
    turn : (i : ℕ) → suc i ≡ i + 1
    turn i = omega arith

-- one line more
taken_next : (facts : List Fact) (goal : Items) (ls : List Line) (i : ℕ) (d : Line) (t : Items) → i < length ls
    → add_up (taken facts goal (drop i ls)) t ≡ add_up (taken facts goal (drop (suc i) ls))
    (sum_of t (scaled (get_or ls i d).multiplier (form_or_zero (numbered facts goal (get_or ls i d).fact))))
taken_next facts goal [] i d t h = absurd (omega arith)
taken_next facts goal (l ∷ ls) zero d t h = refl
taken_next facts goal (l ∷ ls) (suc i) d t h = taken_next facts goal ls i d t (omega arith)

pub taken-next : (facts : List Fact) (goal : Items) (ls : List Line) (i : ℕ) (d : Line) (t u f : Items) → i < length ls
    → u ≡ sum_of t (scaled (get_or ls i d).multiplier f) → f ≡ form_or_zero (numbered facts goal (get_or ls i d).fact)
    → add_up (taken facts goal (drop (i + 1) ls)) u ≡ add_up (taken facts goal (drop i ls)) t
taken-next facts goal ls i d t u f h e g =
    (λ k. add_up (taken facts goal (drop (turn i k) ls)) ((e ∙ ap (λ x. sum_of t (scaled (get_or ls i d).multiplier x)) g) k))
    ∙ sym (taken_next facts goal ls i d t h)
  where
    turn : (i : ℕ) → i + 1 ≡ suc i
    turn i = omega arith

-- the room for a sum of few lines
pub few-room : (n m i t : ℕ) → n ≤ 2000 → m ≤ n + 1 → i < m → t ≤ (i + 1) * 2 ^ 112 → t ≤ 2 ^ 126
few-room n m i t a b d e = omega arith
