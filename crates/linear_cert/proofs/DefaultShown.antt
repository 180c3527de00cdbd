-- The lines that the procedure ends with show the goal: what is left of it and the facts as often as they were subtracted are, together, the goal as often as
-- it was taken.
use Rattle.std.proofs.Common.{◌≡◌, ℕ, zero, suc, ◌*◌, ◌/◌, ◌<◌, List, [], ◌∷◌, ◌++◌, length, drop, refl, ap, sym, ◌∙◌, Bool, true, false, ◌&&◌, ◌||◌, not}
use Rattle.std.proofs.Common.{Option, Some, None, eqb, arith}
use Rattle.std.specs.Prelude.{ℤ, pos, negsuc, ◌+ℤ◌, ◌*ℤ◌, ◌≤ℤ◌, if◌then◌else◌, slice_get, unsigned_abs}
use Rattle.std.specs.Option.{option_and_then, option_map, option_or}
use Rattle.std.specs.Ordering.{int_eq}
use Rattle.std.proofs.lemmas.Bool.{and_from}
use Rattle.std.proofs.lemmas.Int.{ints}
use Rattle.std.proofs.Math.IntN.{*ℤ-zero, zero-*ℤ}
use Rattle.affine_index.specs.Condition.{at_least_zero, cmp_form}
use Rattle.affine_index.specs.Form.{literal_form}
use Rattle.affine_index.specs.Normal.{is_normal, is_ordered}
use Rattle.affine_index.specs.Sum.{add_up, difference_of, scaled, sum_of}
use Rattle.affine_index.proofs.Division.{times-plus}
use Rattle.affine_index.proofs.OrderedLaws.{difference-ordered, literal-ordered, scaled-ordered}
use Rattle.affine_index.proofs.Ring.{*ℤ_assoc, *ℤ_distrib}
use Rattle.affine_index.proofs.Sorted.{sum-ordered}
use Rattle.affine_index.proofs.SumValue.{int_eq-zero}
use Rattle.affine_index.specs.declared.cond.Cmp.{Cmp}
use Rattle.affine_index.specs.declared.cond.Cmp.TheVariants.{Ge, Eq}
use Rattle.affine_index.specs.declared.form.Atom.{Atom}
use Rattle.affine_index.specs.declared.form.Item.{Item}
use Rattle.affine_index.specs.declared.form.Items.{Items}
use Rattle.affine_index.proofs.ArithmeticLaws.{normal-ordered}
use Rattle.fact_list.proofs.FactsTrue.{at_least_zero-from, at_least_zero-is}
use Rattle.fact_list.proofs.NotNegative.{times-not_negative}
use Rattle.fact_list.specs.Normal.{AllNormal}
use Rattle.fact_list.specs.declared.role.Fact.{Fact}
use Rattle.fact_list.specs.declared.role.Role.{Role}
use Rattle.fact_list.specs.declared.role.Role.TheVariants.{Stated, BoundOf, FactorOf, ProductOf}
use Rattle.linear_cert.proofs.RoomLaws.{length-add, length-all, length-none, role-within}
use Rattle.linear_cert.proofs.Weights.{constant-scaled, mark, no-weight, weight, weight-scaled, weight-sum}
use Rattle.linear_cert.specs.DefaultLines.{add_at, all_times, attempt_lines, attempt_with, attempts_from, attempts_of_cmp, attempts_of_role, carried_on}
use Rattle.linear_cert.specs.DefaultLines.{chosen_factor, chosen_item, default_lines_of, divisor_of, fact_form, find_role, finished, first_attempt, first_lines}
use Rattle.linear_cert.specs.DefaultLines.{less_fact, limited_attempt, lines_from, needed, no_times, replaced, replaced_item, role_for, side_for, unless_done}
use Rattle.linear_cert.specs.DefaultLines.{with_bound}
use Rattle.linear_cert.specs.Shown.{form_or_zero, is_negative_constant, line_sum, lines_good, lines_show, may_take, may_take_some, names_fact, negated}
use Rattle.linear_cert.specs.Shown.{no_terms, numbered, taken}
use Rattle.linear_cert.specs.declared.attempt.Attempt.{Attempt}
use Rattle.linear_cert.specs.declared.lines.Line.{Line}

-- a number of a form that goes with sums and multiples
pub record Linear (L : Items → ℤ) : Type 0 where
  pub sums : (a b : Items) → L (sum_of a b) ≡ L a +ℤ L b
  pub multiples : (c : ℤ) (a : Items) → L (scaled c a) ≡ c *ℤ L a

-- the facts as often as given, under such a number
abbrev weighed : (Items → ℤ) → List Fact → List ℤ → ℤ
weighed L [] zs = pos 0
weighed L (x ∷ xs) [] = pos 0
weighed L (x ∷ xs) (z ∷ zs) = (z *ℤ L (cmp_form x.cmp)) +ℤ weighed L xs zs

-- each multiplier may stand at its fact
abbrev MayTake : List Fact → List ℤ → Type 0
MayTake [] zs = Unit {0}
MayTake (x ∷ xs) [] = Unit {0}
MayTake (x ∷ xs) (z ∷ zs) = (may_take z x.cmp ≡ true) × MayTake xs zs

module _ (L : Items → ℤ) (linear : Linear L) where
  weighed-all : (by : ℕ) (xs : List Fact) (zs : List ℤ) → weighed L xs (all_times by zs) ≡ pos by *ℤ weighed L xs zs
  weighed-all by [] zs = sym (*ℤ-zero (pos by))
  weighed-all by (x ∷ xs) [] = sym (*ℤ-zero (pos by))
  weighed-all by (x ∷ xs) (z ∷ zs) =
      (λ k. *ℤ_assoc (pos by) z (L (cmp_form x.cmp)) k +ℤ weighed-all by xs zs k) ∙ sym (times-plus (pos by) (z *ℤ L (cmp_form x.cmp)) (weighed L xs zs))

  weighed-add : (xs : List Fact) (zs : List ℤ) (n : ℕ) (m : ℤ) → n < length xs → length zs ≡ length xs
      → weighed L xs (add_at zs n m) ≡ weighed L xs zs +ℤ (m *ℤ L (fact_form xs n))
  weighed-add [] zs n m h e = absurd (omega arith)
  weighed-add (x ∷ xs) [] n m h e = absurd (omega arith)
  weighed-add (x ∷ xs) (z ∷ zs) zero m h e = let d = *ℤ_distrib z m (L (cmp_form x.cmp)) in omega (arith, ints)
  weighed-add (x ∷ xs) (z ∷ zs) (suc n) m h e = let d = weighed-add xs zs n m (omega arith) (omega arith) in omega (arith, ints)

  weighed-none : (xs : List Fact) → weighed L xs (no_times xs) ≡ pos 0
  weighed-none [] = refl
  weighed-none (x ∷ xs) = let a = zero-*ℤ (L (cmp_form x.cmp)) in let b = weighed-none xs in omega (arith, ints)

  minus : (x : ℤ) → (negsuc 0 *ℤ x) +ℤ x ≡ pos 0
  minus x = omega (arith, ints)

  difference-L : (a b : Items) → L (difference_of a b) +ℤ L b ≡ L a
  difference-L a b = let s = linear.sums a (scaled (negsuc 0) b) in let m = linear.multiples (negsuc 0) b in let n = minus (L b) in omega (arith, ints)

  -- what is left and the facts subtracted are the goal as often as it was taken
  abbrev Balanced : List Fact → Items → Attempt → Type 0
  Balanced facts goal a = L a.left +ℤ weighed L facts a.times ≡ pos a.goal_times *ℤ L goal

  less-balanced : (facts : List Fact) (goal : Items) (a : Attempt) (by amount n : ℕ) → length a.times ≡ length facts → n < length facts → Balanced facts goal a
      → Balanced facts goal (less_fact facts a by amount n)
  less-balanced facts goal a by amount n e h b =
      let f = fact_form facts n in
      let d = difference-L (scaled (pos by) a.left) (scaled (pos amount) f) in
      let l = linear.multiples (pos by) a.left in
      let m = linear.multiples (pos amount) f in
      let t = weighed-add facts (all_times by a.times) n (pos amount) h (length-all by a.times ∙ e) in
      let w = weighed-all by facts a.times in
      let g = times-plus (pos by) (L a.left) (weighed L facts a.times) in
      let k = ap (λ z. pos by *ℤ z) b in
      let p = *ℤ_assoc (pos by) (pos a.goal_times) (L goal) in
      omega (arith, ints)

-- an attempt whose lines are right so far
pub record Good (facts : List Fact) (goal : Items) (a : Attempt) : Type 0 where
  pub each : length a.times ≡ length facts
  pub may : MayTake facts a.times
  pub balanced : (L : Items → ℤ) → Linear L → L a.left +ℤ weighed L facts a.times ≡ pos a.goal_times *ℤ L goal

may-all : (by : ℕ) (xs : List Fact) (zs : List ℤ) → MayTake xs zs → MayTake xs (all_times by zs)
may-all by [] zs h = tt
may-all by (x ∷ xs) [] h = tt
may-all by (x ∷ xs) (z ∷ zs) h = (one x.cmp h.0, may-all by xs zs h.1)
  where
    one : (c : Cmp) → may_take z c ≡ true → may_take (pos by *ℤ z) c ≡ true
    one (Ge i) h = at_least_zero-from (pos by *ℤ z) (times-not_negative (pos by) z (omega (arith, ints)) (at_least_zero-is z h))
    one (Eq i) h = refl

may-add : (xs : List Fact) (zs : List ℤ) (n amount : ℕ) → MayTake xs zs → MayTake xs (add_at zs n (pos amount))
may-add [] zs n amount h = tt
may-add (x ∷ xs) [] n amount h = tt
may-add (x ∷ xs) (z ∷ zs) zero amount h = (one x.cmp h.0, h.1)
  where
    one : (c : Cmp) → may_take z c ≡ true → may_take (z +ℤ pos amount) c ≡ true
    one (Ge i) h = let p = at_least_zero-is z h in at_least_zero-from (z +ℤ pos amount) (omega (arith, ints))
    one (Eq i) h = refl
may-add (x ∷ xs) (z ∷ zs) (suc n) amount h = (h.0, may-add xs zs n amount h.1)

may-none : (xs : List Fact) → MayTake xs (no_times xs)
may-none [] = tt
may-none (x ∷ xs) = (one x.cmp, may-none xs)
  where
    one : (c : Cmp) → may_take (pos 0) c ≡ true
    one (Ge i) = refl
    one (Eq i) = refl

less-good : (facts : List Fact) (goal : Items) (a : Attempt) (by amount n : ℕ) → n < length facts → Good facts goal a
    → Good facts goal (less_fact facts a by amount n)
less-good facts goal a by amount n h g = record {
  each = length-add (all_times by a.times) n (pos amount) ∙ length-all by a.times ∙ g.each;
  may = may-add facts (all_times by a.times) n amount (may-all by facts a.times g.may);
  balanced = λ L l. less-balanced L l facts goal a by amount n g.each h (g.balanced L l);
}

module _ (facts : List Fact) (goal : Items) where
  abbrev GoodSome : Option Attempt → Type 0
  GoodSome None = Unit {0}
  GoodSome (Some a) = Good facts goal a

  abbrev AllGood : List Attempt → Type 0
  AllGood [] = Unit {0}
  AllGood (a ∷ as') = Good facts goal a × AllGood as'

  limited-good : (a : Attempt) → Good facts goal a → GoodSome (limited_attempt a)
  limited-good a g = by _
    where
      by : (b : Bool) → GoodSome (if b then Some a else None)
      by true = g
      by false = tt

  bound-good : (a : Attempt) (c k : ℕ) (o : Option ℕ) → ((n : ℕ) → Some n ≡ o → n < length facts) → Good facts goal a → GoodSome (with_bound facts a c k o)
  bound-good a c k None h g = tt
  bound-good a c k (Some n) h g =
      limited-good (less_fact facts a (needed c k) ((c * needed c k) / k) n) (less-good facts goal a (needed c k) ((c * needed c k) / k) n (h n refl) g)

  replaced-good : (a : Attempt) (o : Option (Item Atom)) → Good facts goal a → GoodSome (replaced_item facts a o)
  replaced-good a None g = tt
  replaced-good a (Some t) g =
      let r = role_for (side_for t.coefficient) t.atom (chosen_factor t.atom) in
      bound-good a (unsigned_abs t.coefficient) (divisor_of (chosen_factor t.atom)) (find_role r 0 facts) (λ n e. role-within r facts n e) g

  slice-drop : (xs : List Fact) (k : ℕ) (x : Fact) (ys : List Fact) → drop k xs ≡ x ∷ ys → (slice_get xs k ≡ Some x) × (drop (suc k) xs ≡ ys)
  slice-drop [] zero x ys e = absurd (cc)
  slice-drop [] (suc k) x ys e = absurd (cc)
  slice-drop (y ∷ xs) zero x ys e = let a : y ≡ x = cc in let b : xs ≡ ys = cc in (ap Some a, b)
  slice-drop (y ∷ xs) (suc k) x ys e = slice-drop xs k x ys e

  never-named : (n k : ℕ) (zs : List ℤ) → n < k → names_fact n (lines_from k zs) ≡ false
  never-named n k [] h = refl
  never-named n k (z ∷ zs) h = by (int_eq z (pos 0)) (never-named n (suc k) zs (omega arith))
    where
      other : (n k : ℕ) → n < k → eqb n k ≡ false
      other n k h = grind arith

      by : (b : Bool) → names_fact n (lines_from (suc k) zs) ≡ false
          → names_fact n (if b then lines_from (suc k) zs else record { fact = k; multiplier = z } ∷ lines_from (suc k) zs) ≡ false
      by true f = f
      by false f = (λ j. other n k h j || f j)

  good-from : (k : ℕ) (xs : List Fact) (zs : List ℤ) → drop k facts ≡ xs → MayTake xs zs → length zs ≡ length xs
      → lines_good facts goal (lines_from (suc k) zs) ≡ true
  good-from k xs [] d m e = refl
  good-from k [] (z ∷ zs) d m e = absurd (omega arith)
  good-from k (x ∷ xs) (z ∷ zs) d m e = by (int_eq z (pos 0)) (good-from (suc k) xs zs (slice-drop facts k x xs d).1 m.1 (omega arith))
    where
      taken-well : may_take_some z (numbered facts goal (suc k)) ≡ true
      taken-well = ap (λ o. may_take_some z (option_map (λ (y : Fact). y.cmp) o)) (slice-drop facts k x xs d).0 ∙ m.0

      by : (b : Bool) → lines_good facts goal (lines_from (suc (suc k)) zs) ≡ true
          → lines_good facts goal (if b then lines_from (suc (suc k)) zs else record { fact = suc k; multiplier = z } ∷ lines_from (suc (suc k)) zs) ≡ true
      by true rest = rest
      by false rest =
          and_from (may_take_some z (numbered facts goal (suc k))) _ taken-well
          (and_from (not (names_fact (suc k) (lines_from (suc (suc k)) zs))) (lines_good facts goal (lines_from (suc (suc k)) zs))
          (ap not (never-named (suc k) (suc (suc k)) zs (omega arith))) rest)

  lines-good : (a : Attempt) → Good facts goal a → lines_good facts goal (attempt_lines a) ≡ true
  lines-good a g =
      and_from (not (names_fact 0 (lines_from 1 a.times))) (lines_good facts goal (lines_from 1 a.times)) (ap not (never-named 0 1 a.times (omega arith)))
      (good-from 0 facts a.times refl g.may g.each)

  -- the forms of lines with their multipliers, under a number that goes with sums and multiples
  abbrev total : (Items → ℤ) → List (Item Items) → ℤ
  total L [] = pos 0
  total L (t ∷ ts) = (t.coefficient *ℤ L t.atom) +ℤ total L ts

  add_up-L : (L : Items → ℤ) → Linear L → (ts : List (Item Items)) (start : Items) → L (add_up ts start) ≡ L start +ℤ total L ts
  add_up-L L l [] start = omega (arith, ints)
  add_up-L L l (t ∷ ts) start =
      let rest = add_up-L L l ts (sum_of start (scaled t.coefficient t.atom)) in
      let s = l.sums start (scaled t.coefficient t.atom) in
      let m = l.multiples t.coefficient t.atom in
      omega (arith, ints)

  taken-L : (L : Items → ℤ) (k : ℕ) (xs : List Fact) (zs : List ℤ) → drop k facts ≡ xs → length zs ≡ length xs
      → total L (taken facts goal (lines_from (suc k) zs)) ≡ weighed L xs zs
  taken-L L k [] [] d e = refl
  taken-L L k (x ∷ xs) [] d e = absurd (omega arith)
  taken-L L k [] (z ∷ zs) d e = absurd (omega arith)
  taken-L L k (x ∷ xs) (z ∷ zs) d e = by (int_eq z (pos 0)) (int_eq-zero z) (taken-L L (suc k) xs zs (slice-drop facts k x xs d).1 (omega arith))
    where
      form : form_or_zero (numbered facts goal (suc k)) ≡ cmp_form x.cmp
      form = ap (λ o. form_or_zero (option_map (λ (y : Fact). y.cmp) o)) (slice-drop facts k x xs d).0

      by : (b : Bool) → (b ≡ true → z ≡ pos 0) → total L (taken facts goal (lines_from (suc (suc k)) zs)) ≡ weighed L xs zs
          → total L (taken facts goal (if b then lines_from (suc (suc k)) zs else record { fact = suc k; multiplier = z } ∷ lines_from (suc (suc k)) zs)) ≡
          (z *ℤ L (cmp_form x.cmp)) +ℤ weighed L xs zs
      by true none rest = let n = ap (λ y. y *ℤ L (cmp_form x.cmp)) (none refl) ∙ zero-*ℤ (L (cmp_form x.cmp)) in omega (arith, ints)
      by false none rest = (λ j. (z *ℤ L (form j)) +ℤ rest j)

  -- the sum of the lines of an attempt
  sum-L : (L : Items → ℤ) → Linear L → (a : Attempt) → Good facts goal a
      → L (line_sum facts goal (attempt_lines a)) +ℤ L a.left ≡ L (literal_form (pos 0)) +ℤ (pos a.goal_times *ℤ L (literal_form (negsuc 0)))
  sum-L L l a g =
      let s = add_up-L L l (taken facts goal (attempt_lines a)) (literal_form (pos 0)) in
      let t = taken-L L 0 facts a.times refl g.each in
      let n = difference-L L l (literal_form (negsuc 0)) goal in
      let d = times-plus (pos a.goal_times) (L (negated goal)) (L goal) in
      let k = ap (λ z. pos a.goal_times *ℤ z) n in
      let b = g.balanced L l in
      omega (arith, ints)

  weight-linear : (w : Atom → ℤ) → Linear (λ i. weight w i.terms)
  weight-linear w = record { sums = weight-sum w; multiples = weight-scaled w }

  constant-linear : Linear (λ i. i.constant)
  constant-linear = record { sums = λ a b. refl; multiples = constant-scaled }

  module _ (normal : AllNormal facts) (goal-normal : is_normal goal ≡ true) where
    abbrev AllOrdered : List (Item Items) → Type 0
    AllOrdered [] = Unit {0}
    AllOrdered (t ∷ ts) = (is_ordered t.atom ≡ true) × AllOrdered ts

    add_up-ordered : (ts : List (Item Items)) (start : Items) → AllOrdered ts → is_ordered start ≡ true → is_ordered (add_up ts start) ≡ true
    add_up-ordered [] start h o = o
    add_up-ordered (t ∷ ts) start h o =
        add_up-ordered ts (sum_of start (scaled t.coefficient t.atom)) h.1
        (sum-ordered start (scaled t.coefficient t.atom) o (scaled-ordered t.coefficient t.atom h.0))

    listed-ordered : (xs : List Fact) (n : ℕ) → AllNormal xs → is_ordered (form_or_zero (option_map (λ x. x.cmp) (slice_get xs n))) ≡ true
    listed-ordered [] n h = literal-ordered (pos 0)
    listed-ordered (x ∷ xs) zero h = normal-ordered (cmp_form x.cmp) h.0
    listed-ordered (x ∷ xs) (suc n) h = listed-ordered xs n h.1

    numbered-ordered : (n : ℕ) → is_ordered (form_or_zero (numbered facts goal n)) ≡ true
    numbered-ordered zero = difference-ordered (literal_form (negsuc 0)) goal (literal-ordered (negsuc 0)) (normal-ordered goal goal-normal)
    numbered-ordered (suc n) = listed-ordered facts n normal

    taken-ordered : (ls : List Line) → AllOrdered (taken facts goal ls)
    taken-ordered [] = tt
    taken-ordered (l ∷ ls) = (numbered-ordered l.fact, taken-ordered ls)

    sum-none : (a : Attempt) → Good facts goal a → a.left.terms ≡ [] → (line_sum facts goal (attempt_lines a)).terms ≡ []
    sum-none a g e =
        no-weight (line_sum facts goal (attempt_lines a))
        (add_up-ordered (taken facts goal (attempt_lines a)) (literal_form (pos 0)) (taken-ordered (attempt_lines a)) (literal-ordered (pos 0)))
        (λ b. zero-from (mark b) (sum-L (λ i. weight (mark b) i.terms) (weight-linear (mark b)) a g))
      where
        zero-from : (w : Atom → ℤ) → weight w (line_sum facts goal (attempt_lines a)).terms +ℤ weight w a.left.terms ≡ pos 0 +ℤ (pos a.goal_times *ℤ pos 0)
            → weight w (line_sum facts goal (attempt_lines a)).terms ≡ pos 0
        zero-from w h = let none = ap (weight w) e in let times = *ℤ-zero (pos a.goal_times) in omega (arith, ints)

    sum-constant : (a : Attempt) → Good facts goal a → at_least_zero (a.left.constant +ℤ (pos a.goal_times +ℤ negsuc 0)) ≡ true
        → at_least_zero (line_sum facts goal (attempt_lines a)).constant ≡ false
    sum-constant a g h =
        let s = sum-L (λ i. i.constant) constant-linear a g in
        let p = at_least_zero-is _ h in
        let m = less-one (pos a.goal_times) in
        below (line_sum facts goal (attempt_lines a)).constant (omega (arith, ints))
      where
        less-one : (z : ℤ) → (z *ℤ negsuc 0) +ℤ z ≡ pos 0
        less-one z = omega (arith, ints)

        below : (z : ℤ) → (z +ℤ pos 1) ≤ℤ pos 0 → at_least_zero z ≡ false
        below (pos n) l = absurd (omega (arith, ints))
        below (negsuc n) l = refl

    -- where there are lines, they show the goal
    abbrev pub Show : Option (List Line) → Type 0
    Show None = Unit {0}
    Show (Some ls) = lines_show facts goal ls ≡ true

    finished-shows : (a : Attempt) → a.left.terms ≡ [] → Good facts goal a → Show (finished a)
    finished-shows a e g = by _ refl
      where
        by : (b : Bool) → at_least_zero (a.left.constant +ℤ (pos a.goal_times +ℤ negsuc 0)) ≡ b → Show (if b then Some (attempt_lines a) else None)
        by true h =
            and_from (lines_good facts goal (attempt_lines a)) (is_negative_constant (line_sum facts goal (attempt_lines a))) (lines-good a g)
            (λ k. no_terms (sum-none a g e k) && not (sum-constant a g h k))
        by false h = tt

    done-shows : (ts : List (Item Atom)) (a : Attempt) (rest : Option (List Line)) → a.left.terms ≡ ts → Good facts goal a → Show rest
        → Show (unless_done ts a rest)
    done-shows [] a rest e g m = finished-shows a e g
    done-shows (t ∷ ts) a rest e g m = m

    then-shows : (next : Attempt → Option (List Line)) → ((a : Attempt) → Good facts goal a → Show (next a)) → (o : Option Attempt) → GoodSome o
        → Show (option_and_then next o)
    then-shows next f None g = tt
    then-shows next f (Some a) g = f a g

    carried-shows : (n : ℕ) (a : Attempt) → Good facts goal a → Show (carried_on n facts a)
    carried-shows zero a g = done-shows a.left.terms a None refl g tt
    carried-shows (suc n) a g =
        done-shows a.left.terms a (option_and_then (carried_on n facts) (replaced facts a)) refl g
        (then-shows (carried_on n facts) (carried-shows n) (replaced facts a) (replaced-good a (chosen_item a.left) g))

    or-shows : (o p : Option (List Line)) → Show o → Show p → Show (option_or o p)
    or-shows None p h g = g
    or-shows (Some ls) p h g = h

    lines-show : (as' : List Attempt) → AllGood as' → Show (first_lines facts as')
    lines-show [] h = tt
    lines-show (a ∷ as') h = or-shows (carried_on 512 facts a) (first_lines facts as') (carried-shows 512 a h.0) (lines-show as' h.1)

    one-times : (z : ℤ) → pos 1 *ℤ z ≡ z
    one-times z = omega (arith, ints)

    first-good : Good facts goal (first_attempt facts goal)
    first-good = record {
      each = length-none facts;
      may = may-none facts;
      balanced = λ L l. let n = weighed-none L l facts in let o = one-times (L goal) in omega (arith, ints);
    }

    -- a multiplier that may stand at a fact from a place on
    may-once : (xs : List Fact) (n : ℕ) (m : ℤ) → ((x : Fact) → slice_get xs n ≡ Some x → may_take m x.cmp ≡ true) → MayTake xs (add_at (no_times xs) n m)
    may-once [] n m h = tt
    may-once (x ∷ xs) zero m h = (ap (λ z. may_take z x.cmp) (plain m) ∙ h x refl, may-none xs)
      where
        plain : (m : ℤ) → pos 0 +ℤ m ≡ m
        plain m = omega (arith, ints)
    may-once (x ∷ xs) (suc n) m h = (one x.cmp, may-once xs n m h)
      where
        one : (c : Cmp) → may_take (pos 0) c ≡ true
        one (Ge i) = refl
        one (Eq i) = refl

    form-slice : (xs : List Fact) (n : ℕ) (x : Fact) → slice_get xs n ≡ Some x → (fact_form xs n ≡ cmp_form x.cmp) × (n < length xs)
    form-slice [] n x e = absurd (cc)
    form-slice (y ∷ xs) zero x e = let s : y ≡ x = cc in (ap (λ (z : Fact). cmp_form z.cmp) s, omega arith)
    form-slice (y ∷ xs) (suc n) x e = let r = form-slice xs n x e in (r.0, omega (arith, r.1))

    same_some : (x y : Fact) → Some x ≡ Some y → x ≡ y
    same_some x y e = cc

    with-good : (n : ℕ) (x : Fact) (m : ℤ) → slice_get facts n ≡ Some x → may_take m x.cmp ≡ true
        → Good facts goal (attempt_with facts goal n (cmp_form x.cmp) m)
    with-good n x m e t = record {
      each = length-add (no_times facts) n m ∙ length-none facts;
      may = may-once facts n m (λ y f. ap (λ (z : Fact). may_take m z.cmp) (same_some y x (sym f ∙ e)) ∙ t);
      balanced = λ L l.
          let d = difference-L L l goal (scaled m (cmp_form x.cmp)) in
          let k = l.multiples m (cmp_form x.cmp) in
          let w = weighed-add L l facts (no_times facts) n m (form-slice facts n x e).1 (length-none facts) in
          let f = ap (λ i. m *ℤ L i) (form-slice facts n x e).0 in
          let z = weighed-none L l facts in
          let o = one-times (L goal) in
          omega (arith, ints);
    }

    cmp-good : (n : ℕ) (r : Role) (c : Cmp) → slice_get facts n ≡ Some (record { role = r; cmp = c }) → AllGood (attempts_of_cmp facts goal n c)
    cmp-good n r (Ge x) e = (with-good n (record { role = r; cmp = Ge x }) (pos 1) e refl, tt)
    cmp-good n r (Eq x) e = (
      with-good n (record { role = r; cmp = Eq x }) (pos 1) e refl,
      (with-good n (record { role = r; cmp = Eq x }) (negsuc 0) e refl, tt),
    )

    role-good : (n : ℕ) (r : Role) (c : Cmp) → slice_get facts n ≡ Some (record { role = r; cmp = c }) → AllGood (attempts_of_role facts goal n r c)
    role-good n Stated c e = cmp-good n Stated c e
    role-good n (BoundOf x a) c e = tt
    role-good n (FactorOf x a m) c e = tt
    role-good n (ProductOf m) c e = tt

    good-append : (as' bs : List Attempt) → AllGood as' → AllGood bs → AllGood (as' ++ bs)
    good-append [] bs h g = g
    good-append (a ∷ as') bs h g = (h.0, good-append as' bs h.1 g)

    attempts-good : (n : ℕ) (xs : List Fact) → drop n facts ≡ xs → AllGood (attempts_from facts goal n xs)
    attempts-good n [] d = tt
    attempts-good n (x ∷ xs) d =
        let s = slice-drop facts n x xs d in
        good-append (attempts_of_role facts goal n x.role x.cmp) (attempts_from facts goal (suc n) xs) (role-good n x.role x.cmp s.0)
        (attempts-good (suc n) xs s.1)

    -- the lines that the procedure ends with show the goal
    pub default-shows : Show (default_lines_of facts goal)
    default-shows = lines-show (first_attempt facts goal ∷ attempts_from facts goal 0 facts) (first-good, attempts-good 0 facts refl)
