-- What the code of the procedure rests on.
use Rattle.std.proofs.Common.{◌≡◌, ℕ, zero, suc, ◌+◌, ◌-◌, ◌*◌, ◌^◌, ◌<◌, ◌≤◌, List, [], ◌∷◌, ◌++◌, length, drop, get_or, append_assoc, refl, ap, sym, ◌∙◌}
use Rattle.std.proofs.Common.{Bool, true, false, ◌&&◌, Option, Some, None, arith}
use Rattle.std.specs.Prelude.{ℤ, pos, negsuc, ◌+ℤ◌, ◌≤ℤ◌, if◌then◌else◌, slice_set}
use Rattle.std.specs.Int.RustNames.{unsigned_abs}
use Rattle.std.specs.Option.{option_and_then, option_or}
use Rattle.std.specs.Ordering.{int_eq}
use Rattle.std.proofs.lemmas.Int.{ints}
use Rattle.affine_index.specs.Condition.{at_least_zero}
use Rattle.affine_index.specs.Normal.{is_normal}
use Rattle.affine_index.specs.Sum.{difference_of, scaled}
use Rattle.affine_index.specs.Wide.{norm}
use Rattle.affine_index.proofs.NormLaws.{scaled-norm, sum-norm}
use Rattle.affine_index.proofs.OrderedLaws.{difference-ordered, scaled-ordered}
use Rattle.affine_index.proofs.PutNorm.{normal-norm}
use Rattle.affine_index.specs.declared.form.Items.{Items}
use Rattle.fact_list.proofs.Appending.{append-none, drop-all, drop-item}
use Rattle.affine_index.proofs.ArithmeticLaws.{normal-ordered}
use Rattle.fact_list.specs.declared.role.Fact.{Fact}
use Rattle.linear_cert.proofs.RoomLaws.{length-add, length-none, room-more}
use Rattle.linear_cert.specs.DefaultLines.{add_at, attempt_lines, attempt_with, attempts_from, attempts_of_role, carried_on, finished, first_attempt}
use Rattle.linear_cert.specs.DefaultLines.{first_lines, lines_from, multiplier_fits, multipliers_fit, no_times, replaced, unless_done}
use Rattle.linear_cert.specs.Room.{AllAbove, Room}
use Rattle.linear_cert.specs.declared.attempt.Attempt.{Attempt}
use Rattle.linear_cert.specs.declared.lines.Line.{Line}

pub none-end : (facts : List Fact) (n : ℕ) (times : List ℤ) → length facts ≤ n → times ++ no_times (drop n facts) ≡ no_times facts → times ≡ no_times facts
none-end facts n times h e = sym (ap (λ xs. times ++ no_times xs) (drop-all n facts h) ∙ append-none times) ∙ e

none_drop : (facts : List Fact) (i : ℕ) → i < length facts → no_times (drop i facts) ≡ pos 0 ∷ no_times (drop (i + 1) facts)
none_drop [] i h = absurd (omega arith)
none_drop (x ∷ facts) zero h = refl
none_drop (x ∷ facts) (suc i) h = none_drop facts i (omega arith) ∙ ap (λ n. pos 0 ∷ no_times (drop n (x ∷ facts))) (turn i)
  where
    turn : (i : ℕ) → suc (i + 1) ≡ suc i + 1
    turn i = omega arith

pub none-next : (facts : List Fact) (i : ℕ) (some more : List ℤ) → i < length facts → more ≡ some ++ pos 0 ∷ []
    → more ++ no_times (drop (i + 1) facts) ≡ some ++ no_times (drop i facts)
none-next facts i some more h e = ap (λ xs. xs ++ no_times (drop (i + 1) facts)) e ∙ append_assoc some (pos 0 ∷ []) (no_times (drop (i + 1) facts))
    ∙ ap (λ xs. some ++ xs) (sym (none_drop facts i h))

pub lines-end : (a : Attempt) (n : ℕ) (lines : List Line) → length a.times ≤ n → lines ++ lines_from (n + 1) (drop n a.times) ≡ attempt_lines a
    → lines ≡ attempt_lines a
lines-end a n lines h e = sym (ap (λ xs. lines ++ lines_from (n + 1) xs) (drop-all n a.times h) ∙ append-none lines) ∙ e

-- one multiplier more
pub line-skipped : (times : List ℤ) (i : ℕ) (z : ℤ) (lines : List Line) → i < length times → z ≡ get_or times i z → z ≡ pos 0
    → lines ++ lines_from (i + 1 + 1) (drop (i + 1) times) ≡ lines ++ lines_from (i + 1) (drop i times)
line-skipped times i z lines h e n =
    ap (λ xs. lines ++ xs) (ap (λ k. lines_from k (drop (i + 1) times)) (turn i)
    ∙ sym (ap (lines_from (i + 1)) (drop-item times i z h e)
    ∙ ap (λ b. if b then lines_from (suc (i + 1)) (drop (i + 1) times) else record { fact = i + 1; multiplier = z }
    ∷ lines_from (suc (i + 1)) (drop (i + 1) times)) (ap (λ y. int_eq y (pos 0)) n)))
  where
    turn : (i : ℕ) → i + 1 + 1 ≡ suc (i + 1)
    turn i = omega arith

other_is : (z : ℤ) → (z ≡ pos 0 → ⊥) → int_eq z (pos 0) ≡ false
other_is z h = grind arith

pub line-taken : (times : List ℤ) (i : ℕ) (z : ℤ) (lines more : List Line) → i < length times → z ≡ get_or times i z → (z ≡ pos 0 → ⊥)
    → more ≡ lines ++ record { fact = i + 1; multiplier = z } ∷ []
    → more ++ lines_from (i + 1 + 1) (drop (i + 1) times) ≡ lines ++ lines_from (i + 1) (drop i times)
line-taken times i z lines more h e n m =
    let rest = lines_from (suc (i + 1)) (drop (i + 1) times) in
    (λ k. m k ++ lines_from (turn i k) (drop (i + 1) times)) ∙ append_assoc lines (record { fact = i + 1; multiplier = z } ∷ []) rest
    ∙ ap (λ xs. lines ++ xs) (sym
    (ap (lines_from (i + 1)) (drop-item times i z h e) ∙ ap (λ b. if b then rest else record { fact = i + 1; multiplier = z } ∷ rest) (other_is z n)))
  where
    turn : (i : ℕ) → i + 1 + 1 ≡ suc (i + 1)
    turn i = omega arith

-- an attempt carried on
pub carried-done : (n : ℕ) (facts : List Fact) (a : Attempt) → a.left.terms ≡ [] → carried_on n facts a ≡ finished a
carried-done zero facts a e = ap (λ ts. unless_done ts a None) e
carried-done (suc n) facts a e = ap (λ ts. unless_done ts a (option_and_then (carried_on n facts) (replaced facts a))) e

more_terms : (ts : List _) (a : Attempt) (rest : Option (List Line)) → (ts ≡ [] → ⊥) → unless_done ts a rest ≡ rest
more_terms [] a rest h = absurd (h refl)
more_terms (t ∷ ts) a rest h = refl

pub carried-next : (i : ℕ) (facts : List Fact) (a : Attempt) (o : Option Attempt) → i < 512 → (a.left.terms ≡ [] → ⊥) → o ≡ replaced facts a
    → option_and_then (carried_on (512 - (i + 1)) facts) o ≡ carried_on (512 - i) facts a
carried-next i facts a o h n e =
    ap (option_and_then (carried_on (512 - (i + 1)) facts)) e
    ∙ sym (more_terms a.left.terms a (option_and_then (carried_on (512 - (i + 1)) facts) (replaced facts a)) n) ∙ ap (λ k. carried_on k facts a) (left i h)
  where
    left : (i : ℕ) → i < 512 → suc (512 - (i + 1)) ≡ 512 - i
    left i h = omega arith

pub carried-end : (i : ℕ) (facts : List Fact) (a : Attempt) → 512 ≤ i → (a.left.terms ≡ [] → ⊥) → carried_on (512 - i) facts a ≡ None
carried-end i facts a h n = ap (λ k. carried_on k facts a) (none i h) ∙ more_terms a.left.terms a None n
  where
    none : (i : ℕ) → 512 ≤ i → 512 - i ≡ 0
    none i h = omega arith

-- an attempt that is finished, or fails
pub finished-none : (a : Attempt) (z : ℤ) → z ≡ a.left.constant +ℤ pos a.goal_times → at_least_zero (z +ℤ negsuc 0) ≡ false → finished a ≡ None
finished-none a z e h = ap (λ b. if b then Some (attempt_lines a) else None)
    (ap at_least_zero (turn a.left.constant (pos a.goal_times)) ∙ ap (λ y. at_least_zero (y +ℤ negsuc 0)) (sym e) ∙ h)
  where
    turn : (x y : ℤ) → x +ℤ (y +ℤ negsuc 0) ≡ (x +ℤ y) +ℤ negsuc 0
    turn x y = omega (arith, ints)

pub finished-some : (a : Attempt) (z : ℤ) → z ≡ a.left.constant +ℤ pos a.goal_times → at_least_zero (z +ℤ negsuc 0) ≡ true → finished a ≡ Some (attempt_lines a)
finished-some a z e h = ap (λ b. if b then Some (attempt_lines a) else None)
    (ap at_least_zero (turn a.left.constant (pos a.goal_times)) ∙ ap (λ y. at_least_zero (y +ℤ negsuc 0)) (sym e) ∙ h)
  where
    turn : (x y : ℤ) → x +ℤ (y +ℤ negsuc 0) ≡ (x +ℤ y) +ℤ negsuc 0
    turn x y = omega (arith, ints)

-- attempts in turn
pub first-append : (facts : List Fact) (as' bs : List Attempt) → first_lines facts (as' ++ bs) ≡ option_or (first_lines facts as') (first_lines facts bs)
first-append facts [] bs = refl
first-append facts (a ∷ as') bs = ap (option_or (carried_on 512 facts a)) (first-append facts as' bs)
    ∙ or_again (carried_on 512 facts a) (first_lines facts as') (first_lines facts bs)
  where
    or_again : (a b c : Option (List Line)) → option_or a (option_or b c) ≡ option_or (option_or a b) c
    or_again None b c = refl
    or_again (Some x) b c = refl

-- the attempts with one fact more
pub attempts-next : (facts : List Fact) (goal : Items) (i : ℕ) (x : Fact) (o : Option (List Line)) → i < length facts → x ≡ get_or facts i x
    → o ≡ first_lines facts (attempts_of_role facts goal i x.role x.cmp)
    → option_or o (first_lines facts (attempts_from facts goal (i + 1) (drop (i + 1) facts))) ≡ first_lines facts (attempts_from facts goal i (drop i facts))
attempts-next facts goal i x o h e a =
    (λ k. option_or (a k) (first_lines facts (attempts_from facts goal (turn i k) (drop (i + 1) facts))))
    ∙ sym (ap (λ xs. first_lines facts (attempts_from facts goal i xs)) (drop-item facts i x h e)
    ∙ first-append facts (attempts_of_role facts goal i x.role x.cmp) (attempts_from facts goal (suc i) (drop (i + 1) facts)))
  where
    turn : (i : ℕ) → i + 1 ≡ suc i
    turn i = omega arith

-- how much room attempts begin with
none_above : (m : ℕ) (xs : List Fact) → AllAbove m (no_times xs)
none_above m [] = tt
none_above m (x ∷ xs) = (omega (arith, ints), none_above m xs)

once_above : (xs : List Fact) (n : ℕ) (z : ℤ) → unsigned_abs z ≤ 1 → AllAbove 1 (add_at (no_times xs) n z)
once_above [] n z h = tt
once_above (x ∷ xs) zero z h = (least z h, none_above 1 xs)
  where
    least : (z : ℤ) → unsigned_abs z ≤ 1 → pos 0 ≤ℤ ((pos 0 +ℤ z) +ℤ pos 1)
    least z h = omega (arith, ints)
once_above (x ∷ xs) (suc n) z h = (omega (arith, ints), once_above xs n z h)

none_fit : (xs : List Fact) → multipliers_fit (no_times xs) ≡ true
none_fit [] = refl
none_fit (x ∷ xs) = none_fit xs

once_fit : (xs : List Fact) (n : ℕ) (z : ℤ) → unsigned_abs z ≤ 1 → multipliers_fit (add_at (no_times xs) n z) ≡ true
once_fit [] n z h = refl
once_fit (x ∷ xs) zero z h = and_true (multiplier_fits (pos 0 +ℤ z)) (small (pos 0 +ℤ z) (omega (arith, ints))) (none_fit xs)
  where
    small : (z : ℤ) → unsigned_abs z ≤ 1 → multiplier_fits z ≡ true
    small z h = grind arith

    and_true : (b : Bool) → b ≡ true → {c : Bool} → c ≡ true → (b && c) ≡ true
    and_true true e h = h
    and_true false e h = absurd (cc)
once_fit (x ∷ xs) (suc n) z h = once_fit xs n z h

pub first-room : (facts : List Fact) (goal : Items) → is_normal goal ≡ true → Room facts 0 (first_attempt facts goal)
first-room facts goal n = record {
  small = omega (arith, normal-norm goal n);
  ordered = normal-ordered goal n;
  some = omega arith;
  most = omega arith;
  fit = none_fit facts;
  above = none_above 1 facts;
  each = length-none facts;
}

once_most : (z : ℤ) (n : ℕ) → unsigned_abs z ≤ 1 → unsigned_abs z * n ≤ n
once_most z n h = grind arith

pub once-norm : (form : Items) (z : ℤ) → is_normal form ≡ true → unsigned_abs z ≤ 1 → norm (scaled z form) ≤ 2 ^ 48
once-norm form z n h = omega (arith, scaled-norm z form, once_most z (norm form) h, normal-norm form n)

pub once-small : (z m : ℤ) (n : ℕ) → z ≡ m → unsigned_abs m ≤ 1 → n ≤ 2 ^ 48 → unsigned_abs z * n ≤ 2 ^ 48
once-small z m n e h l = omega (arith, once_most m n h, ap (λ (y : ℤ). unsigned_abs y * n) e, l)

pub taken-once : (z m : ℤ) (form copy taken : Items) → z ≡ m → unsigned_abs m ≤ 1 → copy ≡ form → is_normal form ≡ true → taken ≡ scaled z copy
    → norm taken ≤ 2 ^ 48
taken-once z m form copy taken e h c n t =
    omega (arith, ap norm t, scaled-norm z copy, once-small z m (norm copy) e h (omega (arith, ap norm c, normal-norm form n)))

difference_norm : (goal form : Items) (z : ℤ) → is_normal goal ≡ true → is_normal form ≡ true → unsigned_abs z ≤ 1
    → norm (difference_of goal (scaled z form)) ≤ 2 ^ 49
difference_norm goal form z g n h =
    omega (arith, sum-norm goal (scaled (negsuc 0) (scaled z form)), scaled-norm (negsuc 0) (scaled z form), once-norm form z n h, normal-norm goal g)

pub with-room : (facts : List Fact) (goal form : Items) (n : ℕ) (z : ℤ) → is_normal goal ≡ true → is_normal form ≡ true → unsigned_abs z ≤ 1
    → Room facts 0 (attempt_with facts goal n form z)
with-room facts goal form n z g f h = record {
  small = omega (arith, difference_norm goal form z g f h);
  ordered = difference-ordered goal (scaled z form) (normal-ordered goal g) (scaled-ordered z form (normal-ordered form f));
  some = omega arith;
  most = omega arith;
  fit = once_fit facts n z h;
  above = once_above facts n z h;
  each = length-add (no_times facts) n z ∙ length-none facts;
}

-- a multiplier set among none
pub set-once : (xs : List Fact) (n : ℕ) (z : ℤ) → slice_set (no_times xs) n z ≡ add_at (no_times xs) n z
set-once [] n z = refl
set-once (x ∷ xs) zero z = ap (λ y. y ∷ no_times xs) (plain z)
  where
    plain : (z : ℤ) → z ≡ pos 0 +ℤ z
    plain z = omega (arith, ints)
set-once (x ∷ xs) (suc n) z = ap (λ ys. pos 0 ∷ ys) (set-once xs n z)

pub ruleset procedure_laws = (room-more)
