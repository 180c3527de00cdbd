-- An attempt stays small: each replacement multiplies it with the multiplier of the goal, and adds few times a small fact.
use Rattle.std.proofs.Common.{◌≡◌, ℕ, zero, suc, ◌+◌, ◌*◌, ◌^◌, ◌/◌, ◌<◌, ◌≤◌, List, [], ◌∷◌, length, get_or, refl, ap, sym, ◌∙◌, subst, Bool, true, false}
use Rattle.std.proofs.Common.{◌&&◌, cond, Option, Some, None, nat_le, mul-le-mul, arith}
use Rattle.std.specs.Prelude.{ℤ, pos, negsuc, ◌+ℤ◌, ◌*ℤ◌, ◌≤ℤ◌, if◌then◌else◌, slice_get}
use Rattle.std.specs.Int.RustNames.{unsigned_abs}
use Rattle.std.specs.List.{find}
use Rattle.std.specs.Option.{is_some, option_or}
use Rattle.std.proofs.lemmas.Int.{ints}
use Rattle.std.proofs.Math.Nat.{mul_assoc}
use Rattle.affine_index.specs.Condition.{cmp_form}
use Rattle.affine_index.specs.Normal.{atom_is_ordered, is_normal, is_ordered}
use Rattle.affine_index.specs.Sum.{difference_of, scaled}
use Rattle.affine_index.specs.Wide.{norm, terms_norm}
use Rattle.affine_index.proofs.Division.{times-plus}
use Rattle.affine_index.proofs.Factors.{Ordered, mul_parts}
use Rattle.affine_index.proofs.Induction.{Each}
use Rattle.affine_index.proofs.NormLaws.{scaled-norm, sum-norm}
use Rattle.affine_index.proofs.OrderedLaws.{difference-ordered, scaled-ordered}
use Rattle.affine_index.proofs.PutNorm.{normal-norm}
use Rattle.affine_index.proofs.PutOrdered.{divisor_bounds}
use Rattle.affine_index.proofs.ReadyLaws.{ordered-Div}
use Rattle.affine_index.proofs.Sorted.{EachItem, GoodItem, ordered-terms}
use Rattle.affine_index.proofs.TotalOrder.{by_kind}
use Rattle.affine_index.specs.declared.form.Atom.{Atom, out-Atom}
use Rattle.affine_index.specs.declared.form.Atom.TheVariants.{Mul}
use Rattle.affine_index.specs.declared.form.Item.{Item}
use Rattle.affine_index.specs.declared.form.Items.{Items}
use Rattle.affine_index.proofs.ArithmeticLaws.{normal-ordered}
use Rattle.fact_list.proofs.NotNegative.{times-not_negative}
use Rattle.fact_list.specs.Normal.{AllNormal}
use Rattle.fact_list.specs.declared.role.Fact.{Fact}
use Rattle.fact_list.specs.declared.role.Side.{Side}
use Rattle.linear_cert.proofs.ChoiceLaws.{divisor-Div, divisor-Mul, divisor-Size, divisor-Var, factor-Div, factor-Mul, factor-Size, factor-Var, slice-at}
use Rattle.linear_cert.specs.DefaultLines.{add_at, all_times, atom_least, atom_or, chosen_factor, chosen_item, chosen_of, divisor_of, fact_form, find_role}
use Rattle.linear_cert.specs.DefaultLines.{layer_is_quotient, less_fact, limited_attempt, multiplier_fits, multipliers_fit, needed, no_times, replaced}
use Rattle.linear_cert.specs.DefaultLines.{replaced_item, role_for, side_for, with_bound}
use Rattle.linear_cert.specs.Room.{AllAbove, Room, StepOf}
use Rattle.linear_cert.specs.declared.attempt.Attempt.{Attempt}
use Rattle.linear_cert.specs.declared.attempt.Step.{Step}

-- the coefficient of an item is at most all of them together
pub coefficient-most : (ts : List (Item Atom)) (i : ℕ) (x : Item Atom) → i < length ts → x ≡ get_or ts i x → unsigned_abs x.coefficient ≤ terms_norm ts
coefficient-most [] i x h e = absurd (omega arith)
coefficient-most (t ∷ ts) zero x h e = omega (arith, ap (λ (y : Item Atom). unsigned_abs y.coefficient) e)
coefficient-most (t ∷ ts) (suc i) x h e = omega (arith, coefficient-most ts i x (omega arith) e)

-- the atom of an item of a normal form is one
atom-at : (ts : List (Item Atom)) (i : ℕ) (x : Item Atom) → i < length ts → x ≡ get_or ts i x → EachItem GoodItem ts → Ordered x.atom
atom-at [] i x h e g = absurd (omega arith)
atom-at (t ∷ ts) zero x h e g = ap (λ (y : Item Atom). atom_is_ordered y.atom) e ∙ g.0.0
atom-at (t ∷ ts) (suc i) x h e g = atom-at ts i x (omega arith) e g.1

abbrev SomeOrdered : Option Atom → Type 0
SomeOrdered None = Unit {0}
SomeOrdered (Some a) = Ordered a

find-ordered : (test : Atom → Bool) (fs : List Atom) → Each Ordered fs → SomeOrdered (find test fs)
find-ordered test [] o = tt
find-ordered test (f ∷ fs) o = by (test f) (find-ordered test fs o.1)
  where
    by : (b : Bool) → SomeOrdered (find test fs) → SomeOrdered (cond b (Some f) (find test fs))
    by true h = o.0
    by false h = h

first-ordered : (fs : List Atom) → Each Ordered fs → SomeOrdered (slice_get fs 0)
first-ordered [] o = tt
first-ordered (f ∷ fs) o = o.0

or-ordered : (a b : Option Atom) → SomeOrdered a → SomeOrdered b → SomeOrdered (option_or a b)
or-ordered None b h g = g
or-ordered (Some a) b h g = h

atom_or-ordered : (a : Atom) (o : Option Atom) → Ordered a → SomeOrdered o → Ordered (atom_or a o)
atom_or-ordered a None h g = h
atom_or-ordered a (Some b) h g = g

factor-ordered : (a : Atom) → Ordered a → Ordered (chosen_factor a)
factor-ordered = by_kind (λ a. Ordered a → Ordered (chosen_factor a))
    (λ k o. subst Ordered (sym (factor-Size k)) o)
    (λ k o. subst Ordered (sym (factor-Var k)) o)
    (λ i k o. subst Ordered (sym (factor-Div i k)) o)
    (λ fs o. subst Ordered (sym (factor-Mul fs)) (atom_or-ordered (Mul fs) (chosen_of fs) o
    (let each = (mul_parts fs o).good.ordered in
    or-ordered (find (λ a. is_some (atom_least a)) fs) _ (find-ordered _ fs each)
    (or-ordered (find (λ a. layer_is_quotient (out-Atom a)) fs) (slice_get fs 0) (find-ordered _ fs each) (first-ordered fs each)))))

divisor-positive : (a : Atom) → Ordered a → 0 < divisor_of a
divisor-positive = by_kind (λ a. Ordered a → 0 < divisor_of a)
    (λ k o. omega (arith, divisor-Size k))
    (λ k o. omega (arith, divisor-Var k))
    (λ i k o. omega (arith, divisor-Div i k, (divisor_bounds i k (ordered-Div i k o).0).0))
    (λ fs o. omega (arith, divisor-Mul fs))

-- the divisor of the factor of an item of a normal form is above 0
pub divisor-some : (form : Items) (i : ℕ) (x : Item Atom) → is_ordered form ≡ true → i < length form.terms → x ≡ get_or form.terms i x
    → 0 < divisor_of (chosen_factor x.atom)
divisor-some form i x o h e = divisor-positive (chosen_factor x.atom) (factor-ordered x.atom (atom-at form.terms i x h e (ordered-terms form o).1))

find_role-within : (r : _) (n : ℕ) (xs : List Fact) (k : ℕ) → find_role r n xs ≡ Some k → k < n + length xs
find_role-within r n [] k e = absurd (cc)
find_role-within r n (x ∷ xs) k e = by _ e (λ h. omega (arith, find_role-within r (suc n) xs k h))
  where
    by : (b : Bool) → (if b then Some n else find_role r (suc n) xs) ≡ Some k → (find_role r (suc n) xs ≡ Some k → k < n + suc (length xs))
        → k < n + suc (length xs)
    by true e f = let same : n ≡ k = cc in omega arith
    by false e f = f e

pub role-within : (r : _) (xs : List Fact) (k : ℕ) → Some k ≡ find_role r 0 xs → k < length xs
role-within r xs k e = omega (arith, find_role-within r 0 xs k (sym e))

-- the steps of an attempt
pub step-none : (facts : List Fact) (a : Attempt) → chosen_item a.left ≡ None → replaced facts a ≡ None
step-none facts a e = ap (replaced_item facts a) e

pub step-lost : (facts : List Fact) (a : Attempt) (t : Item Atom) → chosen_item a.left ≡ Some t
    → find_role (role_for (side_for t.coefficient) t.atom (chosen_factor t.atom)) 0 facts ≡ None → replaced facts a ≡ None
step-lost facts a t e f = ap (replaced_item facts a) e ∙ ap (with_bound facts a (unsigned_abs t.coefficient) (divisor_of (chosen_factor t.atom))) f

pub step-found : (facts : List Fact) (a : Attempt) (t : Item Atom) (n by amount k c : ℕ) → chosen_item a.left ≡ Some t
    → find_role (role_for (side_for t.coefficient) t.atom (chosen_factor t.atom)) 0 facts ≡ Some n
    → k ≡ divisor_of (chosen_factor t.atom) → c ≡ unsigned_abs t.coefficient → by ≡ needed c k → amount ≡ (c * by) / k
    → replaced facts a ≡ limited_attempt (less_fact facts a by amount n)
step-found facts a t n by amount k c e f ek ec eb ea =
    ap (replaced_item facts a) e ∙ ap (with_bound facts a (unsigned_abs t.coefficient) (divisor_of (chosen_factor t.atom))) f
    ∙ (λ j. with_bound facts a (sym ec j) (sym ek j) (Some n))
    ∙ sym (λ j. limited_attempt (less_fact facts a (eb j) ((ea ∙ ap (λ m. (c * m) / k) eb) j) n))

-- the divisor of what an attempt replaces
pub divisor-is : (form : Items) (at : ℕ) (t : Item Atom) (atom factor : Atom) (k : ℕ) → is_ordered form ≡ true → at < length form.terms
    → t ≡ get_or form.terms at t → atom ≡ t.atom → factor ≡ chosen_factor atom → k ≡ divisor_of factor → 0 < k
divisor-is form at t atom factor k o h e a f d = subst (λ n. 0 < n) (sym (d ∙ ap divisor_of (f ∙ ap chosen_factor a))) (divisor-some form at t o h e)

-- what an attempt is after a step
pub step-is : (facts : List Fact) (a : Attempt) (at : ℕ) (t : Item Atom) (atom other factor : Atom) (z y : ℤ) (side : Side) (n k c by amount : ℕ)
    → slice_get a.left.terms at ≡ chosen_item a.left → at < length a.left.terms → t ≡ get_or a.left.terms at t
    → atom ≡ t.atom → factor ≡ chosen_factor atom → z ≡ t.coefficient → side ≡ side_for z → other ≡ t.atom
    → Some n ≡ find_role (role_for side other factor) 0 facts → k ≡ divisor_of factor → y ≡ t.coefficient → c ≡ unsigned_abs y
    → by ≡ needed c k → amount ≡ (c * by) / k → replaced facts a ≡ limited_attempt (less_fact facts a by amount n)
step-is facts a at t atom other factor z y side n k c by amount chosen h e ea ef ez es eo en ek ey ec eb em =
    let f = ef ∙ ap chosen_factor ea in
    step-found facts a t n by amount k c (sym chosen ∙ slice-at a.left.terms at t h e)
    (sym (en ∙ (λ j. find_role (role_for ((es ∙ ap side_for ez) j) (eo j) (f j)) 0 facts))) (ek ∙ ap divisor_of f) (ec ∙ ap unsigned_abs ey) eb em

pub many-is : (n : ℕ) → 2 ^ 31 < n → nat_le n (2 ^ 31) ≡ false
many-is n h = grind arith

pub few-is : (n : ℕ) → n ≤ 2 ^ 31 → nat_le n (2 ^ 31) ≡ true
few-is n h = grind arith

pub few-from : (n : ℕ) → nat_le n (2 ^ 31) ≡ true → n ≤ 2 ^ 31
few-from n h = grind arith

pub limited-many : (a : Attempt) → 2 ^ 31 < a.goal_times → limited_attempt a ≡ None
limited-many a h = ap (λ b. if b && multipliers_fit a.times then Some a else None) (many-is a.goal_times h)

pub limited-unfit : (a : Attempt) → multipliers_fit a.times ≡ false → limited_attempt a ≡ None
limited-unfit a h = by (nat_le a.goal_times (2 ^ 31)) (multipliers_fit a.times) h
  where
    by : (b c : Bool) → c ≡ false → (if b && c then Some a else None) ≡ None
    by true true e = absurd (cc)
    by true false e = refl
    by false c e = refl

pub limited-fit : (a : Attempt) → a.goal_times ≤ 2 ^ 31 → multipliers_fit a.times ≡ true → limited_attempt a ≡ Some a
limited-fit a h f = (λ k. if few-is a.goal_times h k && f k then Some a else None)

-- the form of a fact in normal form
pub fact_form-at : (facts : List Fact) (n : ℕ) (x : Fact) → n < length facts → x ≡ get_or facts n x → fact_form facts n ≡ cmp_form x.cmp
fact_form-at [] n x h e = absurd (omega arith)
fact_form-at (y ∷ facts) zero x h e = ap (λ (z : Fact). cmp_form z.cmp) (sym e)
fact_form-at (y ∷ facts) (suc n) x h e = fact_form-at facts n x (omega arith) e

normal-at : (facts : List Fact) (n : ℕ) → n < length facts → AllNormal facts → is_normal (fact_form facts n) ≡ true
normal-at [] n h a = absurd (omega arith)
normal-at (y ∷ facts) zero h a = a.0
normal-at (y ∷ facts) (suc n) h a = normal-at facts n (omega arith) a.1

-- a multiple of a bound
pub times-more : (by l m b : ℕ) → l ≤ m * b → by * l ≤ by * m * b
times-more by l m b h = omega (arith, mul-le-mul (le-self by) h, mul_assoc by m b)
  where
    le-self : (n : ℕ) → n ≤ n
    le-self n = omega arith

pub bounded : (p l b : ℕ) → p ≤ 2 ^ 31 → l ≤ p * b → b ≤ 2 ^ 90 → l ≤ 2 ^ 121
bounded p l b h e f = omega (arith, mul-le-mul h f)

commuted : (a b : ℕ) → a * b ≡ b * a
commuted a b = omega arith

-- what is left, as often as a step takes it
pub left-small : (m l by : ℕ) → l ≤ m * (2 ^ 50 + 512 * 2 ^ 80) → by * m ≤ 2 ^ 31 → by * l ≤ 2 ^ 121
left-small m l by h p = bounded (by * m) (by * l) (2 ^ 50 + 512 * 2 ^ 80) p (times-more by l m (2 ^ 50 + 512 * 2 ^ 80) h) (omega arith)

pub product-small : (m l by c : ℕ) → l ≤ m * (2 ^ 50 + 512 * 2 ^ 80) → c ≤ l → by * m ≤ 2 ^ 31 → c * by ≤ 2 ^ 121
product-small m l by c h e p = omega (arith, left-small m l by h p, commuted c by, mul-le-mul (le-self by) e)
  where
    le-self : (n : ℕ) → n ≤ n
    le-self n = omega arith

at_least-once : (m : ℕ) → 0 < m → 2 ^ 80 ≤ m * 2 ^ 80
at_least-once m h = omega arith

grown : (m b n : ℕ) → m * (b + suc n * 2 ^ 80) ≡ m * (b + n * 2 ^ 80) + m * 2 ^ 80
grown m b n = grind arith

difference-norm : (by amount : ℕ) (left form : Items)
    → norm (difference_of (scaled (pos by) left) (scaled (pos amount) form)) ≤ by * norm left + amount * norm form
difference-norm by amount left form =
    omega (
      arith,
      sum-norm (scaled (pos by) left) (scaled (negsuc 0) (scaled (pos amount) form)),
      scaled-norm (pos by) left,
      scaled-norm (negsuc 0) (scaled (pos amount) form),
      scaled-norm (pos amount) form,
    )

small-next : (n by m amount l f w : ℕ) → l ≤ m * (2 ^ 50 + n * 2 ^ 80) → f ≤ 2 ^ 48 → amount ≤ 2 ^ 32 → 0 < by * m → w ≤ by * l + amount * f
    → w ≤ by * m * (2 ^ 50 + suc n * 2 ^ 80)
small-next n by m amount l f w hl hf ha hm hw =
    omega (arith, hw, times-more by l m (2 ^ 50 + n * 2 ^ 80) hl, mul-le-mul ha hf, at_least-once (by * m) hm, grown (by * m) (2 ^ 50) n)

pub positive-product : (a b : ℕ) → 0 < a → 0 < b → 0 < a * b
positive-product a b h g = grind arith

above_one : (by m : ℕ) (z : ℤ) → pos 0 ≤ℤ (z +ℤ pos m) → pos 0 ≤ℤ ((pos by *ℤ z) +ℤ pos (by * m))
above_one by m z h =
    let p = times-not_negative (pos by) (z +ℤ pos m) (omega (arith, ints)) h in
    let q = times-plus (pos by) z (pos m) in
    omega (arith, ints)

all-above : (by m : ℕ) (zs : List ℤ) → AllAbove m zs → AllAbove (by * m) (all_times by zs)
all-above by m [] h = tt
all-above by m (z ∷ zs) h = (above_one by m z h.0, all-above by m zs h.1)

add-above : (m : ℕ) (zs : List ℤ) (n amount : ℕ) → AllAbove m zs → AllAbove m (add_at zs n (pos amount))
add-above m [] n amount h = tt
add-above m (z ∷ zs) zero amount h = let a = h.0 in (omega (arith, ints), h.1)
add-above m (z ∷ zs) (suc n) amount h = (h.0, add-above m zs n amount h.1)

pub length-all : (by : ℕ) (zs : List ℤ) → length (all_times by zs) ≡ length zs
length-all by [] = refl
length-all by (z ∷ zs) = ap suc (length-all by zs)

pub length-add : (zs : List ℤ) (n : ℕ) (z : ℤ) → length (add_at zs n z) ≡ length zs
length-add [] n z = refl
length-add (x ∷ zs) zero z = refl
length-add (x ∷ zs) (suc n) z = ap suc (length-add zs n z)

-- an amount that is too large makes a multiplier too large
too_large : (z : ℤ) (by m amount : ℕ) → pos 0 ≤ℤ ((pos by *ℤ z) +ℤ pos (by * m)) → by * m ≤ 2 ^ 31 → 2 ^ 32 < amount
    → multiplier_fits ((pos by *ℤ z) +ℤ pos amount) ≡ false
too_large z by m amount h p a = many-is (unsigned_abs ((pos by *ℤ z) +ℤ pos amount)) (large (pos by *ℤ z) (by * m) amount h p a)
  where
    large : (y : ℤ) (q amount : ℕ) → pos 0 ≤ℤ (y +ℤ pos q) → q ≤ 2 ^ 31 → 2 ^ 32 < amount → 2 ^ 31 < unsigned_abs (y +ℤ pos amount)
    large y q amount h p a = omega (arith, ints)

pub amount-large : (zs : List ℤ) (by m n amount : ℕ) → AllAbove m zs → n < length zs → by * m ≤ 2 ^ 31 → 2 ^ 32 < amount
    → multipliers_fit (add_at (all_times by zs) n (pos amount)) ≡ false
amount-large [] by m n amount h l p a = absurd (omega arith)
amount-large (z ∷ zs) by m zero amount h l p a = ap (λ b. b && multipliers_fit (all_times by zs)) (too_large z by m amount (above_one by m z h.0) p a)
amount-large (z ∷ zs) by m (suc n) amount h l p a =
    last (multiplier_fits (pos by *ℤ z)) (multipliers_fit (add_at (all_times by zs) n (pos amount))) (amount-large zs by m n amount h.1 (omega arith) p a)
  where
    last : (a b : Bool) → b ≡ false → (a && b) ≡ false
    last true b e = e
    last false b e = refl

-- an attempt after a step is small too
pub room-next : (facts : List Fact) (n : ℕ) (a : Attempt) (s : Step) → Room facts n a → AllNormal facts → StepOf facts a s
    → multipliers_fit (add_at (all_times s.by a.times) s.fact (pos s.amount)) ≡ true → Room facts (suc n) (less_fact facts a s.by s.amount s.fact)
room-next facts n a s r normal step fit =
    let form = fact_form facts s.fact in
    let good = normal-at facts s.fact step.within normal in
    let positive = positive-product s.by a.goal_times step.some r.some in
    record {
      small = small-next n s.by a.goal_times s.amount (norm a.left) (norm form) _ r.small (normal-norm form good) step.small positive
          (difference-norm s.by s.amount a.left form);
      ordered = difference-ordered (scaled (pos s.by) a.left) (scaled (pos s.amount) form) (scaled-ordered (pos s.by) a.left r.ordered)
          (scaled-ordered (pos s.amount) form (normal-ordered form good));
      some = positive;
      most = step.product;
      fit = fit;
      above = add-above (s.by * a.goal_times) (all_times s.by a.times) s.fact s.amount (all-above s.by a.goal_times a.times r.above);
      each = length-add (all_times s.by a.times) s.fact (pos s.amount) ∙ length-all s.by a.times ∙ r.each;
    }

-- an attempt after a step, put together
after : (facts : List Fact) (a : Attempt) (s : Step) (left form : Items) (times : List ℤ) → times ≡ add_at (all_times s.by a.times) s.fact (pos s.amount)
    → left ≡ difference_of (scaled (pos s.by) a.left) (scaled (pos s.amount) form) → form ≡ fact_form facts s.fact
    → record { left = left; goal_times = s.by * a.goal_times; times = times } ≡ less_fact facts a s.by s.amount s.fact
after facts a s left form times et el ef =
    λ k. record {
      left = (el ∙ ap (λ f. difference_of (scaled (pos s.by) a.left) (scaled (pos s.amount) f)) ef) k;
      goal_times = s.by * a.goal_times;
      times =
          et k;
    }

pub after-is : (facts : List Fact) (a : Attempt) (s : Step) (left form : Items) (times : List ℤ) → StepOf facts a s
    → times ≡ add_at (all_times s.by a.times) s.fact (pos s.amount) → left ≡ difference_of (scaled (pos s.by) a.left) (scaled (pos s.amount) form)
    → form ≡ fact_form facts s.fact
    → multipliers_fit times ≡ true → Some (record { left = left; goal_times = s.by * a.goal_times; times = times }) ≡ replaced facts a
after-is facts a s left form times step et el ef fit =
    ap Some (after facts a s left form times et el ef)
    ∙ sym (step.is ∙ limited-fit (less_fact facts a s.by s.amount s.fact) step.product (sym (ap multipliers_fit et) ∙ fit))

pub after-room : (facts : List Fact) (n : ℕ) (a : Attempt) (s : Step) (left form : Items) (times : List ℤ) → StepOf facts a s
    → times ≡ add_at (all_times s.by a.times) s.fact (pos s.amount) → left ≡ difference_of (scaled (pos s.by) a.left) (scaled (pos s.amount) form)
    → form ≡ fact_form facts s.fact → multipliers_fit times ≡ true → AllNormal facts → Room facts n a
    → Room facts (suc n) (record { left = left; goal_times = s.by * a.goal_times; times = times })
after-room facts n a s left form times step et el ef fit normal r =
    subst (Room facts (suc n)) (sym (after facts a s left form times et el ef)) (room-next facts n a s r normal step (sym (ap multipliers_fit et) ∙ fit))

more-count : (m n k : ℕ) → n ≤ k → m * (2 ^ 50 + n * 2 ^ 80) ≤ m * (2 ^ 50 + k * 2 ^ 80)
more-count m n k h = mul-le-mul (omega arith) (omega arith)

-- room after fewer replacements is room after more
pub room-more : (facts : List Fact) (n k : ℕ) (a : Attempt) → n ≤ k → Room facts n a → Room facts k a
room-more facts n k a h r = record {
  small = omega (arith, r.small, more-count a.goal_times n k h);
  ordered = r.ordered;
  some = r.some;
  most = r.most;
  fit = r.fit;
  above = r.above;
  each =
      r.each;
}

pub length-none : (xs : List Fact) → length (no_times xs) ≡ length xs
length-none [] = refl
length-none (x ∷ xs) = ap suc (length-none xs)
