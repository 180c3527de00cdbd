-- Within the limit a limited run is the run; beyond it, it is over the limit.
use Rattle.std.proofs.Common.{◌≡◌, ◌<◌, ◌≤◌, ℕ, zero, suc, ◌+◌, ◌-◌, ◌^◌, min, Bool, true, false, nat_lt, if◌then◌else◌, List, [], ◌∷◌, length, inl, inr}
use Rattle.std.proofs.Common.{Result, Ok, Err, refl, ap, subst, arith, sym, ◌∙◌}
use Rattle.std.proofs.lemmas.Bool.{cases_lt, lt-ltb, le-ltb, ltb-false}
use Rattle.std.specs.Prelude.{ℤ, IfOk}
use Rattle.loop_lang.specs.declared.word.Buf.{Buf}
use Rattle.loop_lang.specs.Actions.{Tree, loads, Mode, Action, Tick, Store, Trip}
use Rattle.loop_lang.specs.Memory.{Memory, Cause, Outcome, Ends, Stuck, Outside, Met, and_then, apply_one, apply, tripped}
use Rattle.loop_lang.specs.Reckoning.{Overflow, NegativeDividend}
use Rattle.loop_lang.specs.Run.{Counts, products, counts_one, counts_of}
use Rattle.loop_run.specs.declared.counted.Counted.{Counted}
use Rattle.loop_run.specs.Limited.{State, Progress, Blocked, OverLimit, Goes, Halts, next, capped, more, begun, tallied, left_by, followed, started}
use Rattle.loop_run.specs.Exact.{through, taken, left_before, steps_within, added, counts_told, ended_or_stuck, decided}
use Rattle.loop_run.specs.Buffers.{answer_of, memory_left}
use Rattle.loop_run.specs.declared.refusal.Stuck as refusal
use Rattle.loop_run.specs.declared.refusal.Stuck.TheVariants as stuck
use Rattle.loop_run.proofs.WordJoin.{more-add}

abbrev at : Counted → Memory → State
at c m = record { counts = c; memory = m }

abbrev stepped : Counted → Counted
stepped c = record c { steps = c.steps + 1 }

begun-goes : (limit : ℕ) (c : Counted) (m : Memory) → c.steps < limit → begun limit (at c m) ≡ Goes (at (stepped c) m)
begun-goes limit c m h = ap (λ b. if b then Goes (at (stepped c) m) else Halts OverLimit m) (lt-ltb c.steps limit h)

begun-over : (limit : ℕ) (c : Counted) (m : Memory) → limit ≤ c.steps → begun limit (at c m) ≡ Halts OverLimit m
begun-over limit c m h = ap (λ b. if b then Goes (at (stepped c) m) else Halts OverLimit m) (le-ltb c.steps limit h)

more-after : (a n k : ℕ) → more (more a n) k ≡ more a (k + n)
more-after a n k = let e : n + k ≡ k + n = omega arith in sym (more-add a n k) ∙ ap (more a) e

more-suc : (a k : ℕ) → more (capped a 1) k ≡ more a (k + 1)
more-suc a k = more-after a 1 k

added-tick : (c : Counted) (xs : List Action) → added (stepped c) xs ≡ added c (Tick ∷ xs)
added-tick c xs =
    let e : c.steps + 1 + (counts_of xs).steps ≡ c.steps + ((counts_of xs).steps + 1) = omega arith in
    λ i. record (added c xs) { steps = e i }

added-store : (c : Counted) (x : Action) (w : Tree) (xs : List Action)
    → counts_of (x ∷ xs) ≡ record {
      steps = (counts_of xs).steps + 1;
      stores = (counts_of xs).stores + 1;
      loads = (counts_of xs).loads + length (loads w);
      products =
          (counts_of xs).products + products w;
    }
    → added (tallied w (stepped c)) xs ≡ added c (x ∷ xs)
added-store c x w xs h =
    let e : c.steps + 1 + (counts_of xs).steps ≡ c.steps + ((counts_of xs).steps + 1) = omega arith in
    let s = more-suc c.stores (counts_of xs).stores in
    let l = more-after c.loads (length (loads w)) (counts_of xs).loads in
    let p = more-after c.products (products w) (counts_of xs).products in
    let back = sym h in
    (λ i. record { steps = e i; stores = s i; loads = l i; products = p i })
    ∙ (λ i. record {
      steps = c.steps + (back i).steps;
      stores = more c.stores (back i).stores;
      loads = more c.loads (back i).loads;
      products =
          more c.products (back i).products;
    })

memory_or : Memory → Outcome → Memory
memory_or m (Ends n) = n
memory_or m (Stuck k) = m

cause_or : Cause → Outcome → Cause
cause_or d (Ends n) = d
cause_or d (Stuck k) = k

same_memory : (m n : Memory) → Ends m ≡ Ends n → m ≡ n
unfolding memory_or
same_memory m n e = ap (memory_or m) e

same_cause : (j k : Cause) → Stuck j ≡ Stuck k → j ≡ k
unfolding cause_or
same_cause j k e = ap (cause_or j) e

added-none : (c : Counted) → added c [] ≡ c
added-none c = let e : c.steps + 0 ≡ c.steps = omega arith in λ i. record c { steps = e i }

-- what is said of a list of actions, for any counts and memory before it
module _ (limit : ℕ) (xs : List Action) where
  abbrev IsEnding : Type 0
  IsEnding = (c : Counted) (m n : Memory) → apply xs m ≡ Ends n → c.steps + (counts_of xs).steps ≤ limit → followed limit xs (at c m) ≡ Goes (at (added c xs) n)

  abbrev IsStuckLike : Type 0
  IsStuckLike = (c : Counted) (m : Memory) (k : Cause) → apply xs m ≡ Stuck k → c.steps + (counts_of (taken xs m)).steps ≤ limit
      → followed limit xs (at c m) ≡ Halts (Blocked k) (left_before xs m)

  abbrev IsOver : Type 0
  IsOver = (c : Counted) (m : Memory) → c.steps ≤ limit → limit < c.steps + (counts_of (taken xs m)).steps → (n : Memory)
      × (followed limit xs (at c m) ≡ Halts OverLimit n)

module _ (limit : ℕ) (x : Action) (w : Tree) (xs : List Action) where
  store-ends : IsEnding limit xs → (o : Outcome) (c : Counted) (m n : Memory) → and_then o (apply xs) ≡ Ends n
      → added (tallied w (stepped c)) xs ≡ added c (x ∷ xs) → c.steps + 1 + (counts_of xs).steps ≤ limit
      → next (left_by o (tallied w (stepped c)) m) (followed limit xs) ≡ Goes (at (added c (x ∷ xs)) n)
  store-ends rest (Ends m') c m n e a h = rest (tallied w (stepped c)) m' n e h ∙ ap (λ d. Goes (at d n)) a
  store-ends rest (Stuck k) c m n e a h = absurd (cc)

  store-stuck : IsStuckLike limit xs → (o : Outcome) (c : Counted) (m : Memory) (k : Cause) → and_then o (apply xs) ≡ Stuck k
      → c.steps + 1 + (counts_of (through o [] (taken xs))).steps ≤ limit
      → next (left_by o (tallied w (stepped c)) m) (followed limit xs) ≡ Halts (Blocked k) (through o m (left_before xs))
  store-stuck rest (Ends m') c m k e h = rest (tallied w (stepped c)) m' k e h
  store-stuck rest (Stuck j) c m k e h = ap (λ q. Halts (Blocked q) m) (same_cause j k e)

  store-over : IsOver limit xs → (o : Outcome) (c : Counted) (m : Memory) → c.steps + 1 ≤ limit
      → limit < c.steps + 1 + (counts_of (through o [] (taken xs))).steps
      → (n : Memory) × (next (left_by o (tallied w (stepped c)) m) (followed limit xs) ≡ Halts OverLimit n)
  store-over rest (Ends m') c m l h = rest (tallied w (stepped c)) m' l h
  store-over rest (Stuck j) c m l h = absurd (omega (arith, l, h))

module _ (limit : ℕ) where
  -- a store whose step begins
  store-begins : (mode : Mode) (b : Buf) (w : Tree) (z : ℤ) (xs : List Action) (c : Counted) (m : Memory) → c.steps < limit
      → followed limit (Store mode b w z ∷ xs) (at c m) ≡ next (left_by (apply_one (Store mode b w z) m) (tallied w (stepped c)) m) (followed limit xs)
  store-begins mode b w z xs c m l =
      ap (λ p. next (next p (λ u. left_by (apply_one (Store mode b w z) u.memory) (tallied w u.counts) u.memory)) (followed limit xs)) (begun-goes limit c m l)

  store-barred : (mode : Mode) (b : Buf) (w : Tree) (z : ℤ) (xs : List Action) (c : Counted) (m : Memory) → limit ≤ c.steps
      → followed limit (Store mode b w z ∷ xs) (at c m) ≡ Halts OverLimit m
  store-barred mode b w z xs c m l =
      ap (λ p. next (next p (λ u. left_by (apply_one (Store mode b w z) u.memory) (tallied w u.counts) u.memory)) (followed limit xs)) (begun-over limit c m l)

  tick-begins : (xs : List Action) (c : Counted) (m : Memory) → c.steps < limit → followed limit (Tick ∷ xs) (at c m) ≡ followed limit xs (at (stepped c) m)
  tick-begins xs c m l = ap (λ p. next p (followed limit xs)) (begun-goes limit c m l)

  tick-barred : (xs : List Action) (c : Counted) (m : Memory) → limit ≤ c.steps → followed limit (Tick ∷ xs) (at c m) ≡ Halts OverLimit m
  tick-barred xs c m l = ap (λ p. next p (followed limit xs)) (begun-over limit c m l)

  -- a run that ends within the limit leaves its memory, and its counts are told
  pub followed-ends : (xs : List Action) → IsEnding limit xs
  followed-ends [] c m n e h = λ i. Goes (at (sym (added-none c) i) (same_memory m n e i))
  followed-ends (Tick ∷ xs) c m n e h =
      let l : c.steps < limit = omega (arith, h) in
      let k : c.steps + 1 + (counts_of xs).steps ≤ limit = omega (arith, h) in
      tick-begins xs c m l ∙ followed-ends xs (stepped c) m n e k ∙ ap (λ d. Goes (at d n)) (added-tick c xs)
  followed-ends (Store mode b w z ∷ xs) c m n e h =
      let l : c.steps < limit = omega (arith, h) in
      let k : c.steps + 1 + (counts_of xs).steps ≤ limit = omega (arith, h) in
      store-begins mode b w z xs c m l
      ∙ store-ends limit (Store mode b w z) w xs (followed-ends xs) (apply_one (Store mode b w z) m) c m n e (added-store c (Store mode b w z) w xs refl) k
  followed-ends (Trip j ls ∷ xs) c m n e h = absurd (cc)

  -- a run that is stuck within the limit is stuck so, and leaves the memory of the actions before
  pub followed-stuck : (xs : List Action) → IsStuckLike limit xs
  followed-stuck [] c m k e h = absurd (cc)
  followed-stuck (Tick ∷ xs) c m k e h =
      let l : c.steps < limit = omega (arith, h) in
      let j : c.steps + 1 + (counts_of (taken xs m)).steps ≤ limit = omega (arith, h) in
      tick-begins xs c m l ∙ followed-stuck xs (stepped c) m k e j
  followed-stuck (Store mode b w z ∷ xs) c m k e h =
      let l : c.steps < limit = omega (arith, h) in
      let j : c.steps + 1 + (counts_of (through (apply_one (Store mode b w z) m) [] (taken xs))).steps ≤ limit = omega (arith, h) in
      store-begins mode b w z xs c m l ∙ store-stuck limit (Store mode b w z) w xs (followed-stuck xs) (apply_one (Store mode b w z) m) c m k e j
  followed-stuck (Trip i ls ∷ xs) c m k e h = ap (λ q. Halts (Blocked q) m) (same_cause (tripped i ls m) k e)

  -- a run that would begin one step more than the limit is over it
  pub followed-over : (xs : List Action) → IsOver limit xs
  followed-over [] c m g h = absurd (omega (arith, g, h))
  followed-over (Tick ∷ xs) c m g h = elim (cases_lt c.steps limit) [
    | inl l ↦ let k : c.steps + 1 ≤ limit = omega (arith, l) in
        let j : limit < c.steps + 1 + (counts_of (taken xs m)).steps = omega (arith, h) in
        let rest = followed-over xs (stepped c) m k j in
        (rest.0, tick-begins xs c m l ∙ rest.1)
    | inr l ↦ (m, tick-barred xs c m l)
  ]
  followed-over (Store mode b w z ∷ xs) c m g h = elim (cases_lt c.steps limit) [
    | inl l ↦ let k : c.steps + 1 ≤ limit = omega (arith, l) in
        let j : limit < c.steps + 1 + (counts_of (through (apply_one (Store mode b w z) m) [] (taken xs))).steps = omega (arith, h) in
        let rest = store-over limit (Store mode b w z) w xs (followed-over xs) (apply_one (Store mode b w z) m) c m k j in
        (rest.0, store-begins mode b w z xs c m l ∙ rest.1)
    | inr l ↦ (m, store-barred mode b w z xs c m l)
  ]
  followed-over (Trip i ls ∷ xs) c m g h = absurd (omega (arith, g, h))

-- one by one up to 2^64 - 1, or at once
pub more-is : (n : ℕ) (a : ℕ) → a ≤ 2 ^ 64 - 1 → more a n ≡ min (a + n) (2 ^ 64 - 1)
more-is zero a h = omega (arith, h)
more-is (suc n) a h =
    let l : capped a 1 ≤ 2 ^ 64 - 1 = omega arith in
    let e : min (capped a 1 + n) (2 ^ 64 - 1) ≡ min (a + suc n) (2 ^ 64 - 1) = omega (arith, h) in
    more-is n (capped a 1) l ∙ e

more-none : (n : ℕ) → more 0 n ≡ min n (2 ^ 64 - 1)
more-none n = let e : 0 + n ≡ n = omega arith in let l : 0 ≤ 2 ^ 64 - 1 = omega arith in more-is n 0 l ∙ ap (λ k. min k (2 ^ 64 - 1)) e

stores-few : (xs : List Action) → (counts_of xs).stores ≤ (counts_of xs).steps
stores-few [] = omega arith
stores-few (Tick ∷ xs) = let h = stores-few xs in omega (arith, h)
stores-few (Store mode b w z ∷ xs) = let h = stores-few xs in omega (arith, h)
stores-few (Trip k ls ∷ xs) = stores-few xs

none : Counted
none = record { steps = 0; stores = 0; loads = 0; products = 0 }

-- the counts of a run within a limit below 2^64
told-is : (limit : ℕ) (xs : List Action) → limit < 2 ^ 64 → (counts_of xs).steps ≤ limit → added none xs ≡ counts_told xs
unfolding none
told-is limit xs l h =
    let few = stores-few xs in
    let e : 0 + (counts_of xs).steps ≡ (counts_of xs).steps = omega arith in
    let s : min (counts_of xs).stores (2 ^ 64 - 1) ≡ (counts_of xs).stores = omega (arith, few, l, h) in
    let stores = more-none (counts_of xs).stores ∙ s in
    let loads = more-none (counts_of xs).loads in
    let products = more-none (counts_of xs).products in
    λ i. record { steps = e i; stores = stores i; loads = loads i; products = products i }

-- where a run ends, all its actions begin
taken-one : (x : Action) (xs : List Action) → ((m n : Memory) → apply xs m ≡ Ends n → counts_of (taken xs m) ≡ counts_of xs) → (o : Outcome) (n : Memory)
    → and_then o (apply xs) ≡ Ends n → counts_of (x ∷ through o [] (taken xs)) ≡ counts_of (x ∷ xs)
taken-one x xs rest (Ends m) n e = ap (counts_one x) (rest m n e)
taken-one x xs rest (Stuck k) n e = absurd (cc)

taken-all : (xs : List Action) (m n : Memory) → apply xs m ≡ Ends n → counts_of (taken xs m) ≡ counts_of xs
taken-all [] m n e = refl
taken-all (Tick ∷ xs) m n e = taken-one Tick xs (taken-all xs) (Ends m) n e
taken-all (Store mode b w z ∷ xs) m n e = taken-one (Store mode b w z) xs (taken-all xs) (apply_one (Store mode b w z) m) n e
taken-all (Trip k ls ∷ xs) m n e = absurd (cc)

answer-stuck : (limit : ℕ) (k : Cause) (n : Memory) (c : Counted) → answer_of limit (Halts (Blocked k) n) ≡ ended_or_stuck (Stuck k) c
answer-stuck limit (Outside b i) n c = refl
answer-stuck limit (Met Overflow) n c = refl
answer-stuck limit (Met NegativeDividend) n c = refl

answer-within : (limit : ℕ) (xs : List Action) (m : Memory) (o : Outcome) → limit < 2 ^ 64 → apply xs m ≡ o → (counts_of (taken xs m)).steps ≤ limit
    → answer_of limit (followed limit xs (started m)) ≡ ended_or_stuck o (counts_told xs)
unfolding none
answer-within limit xs m (Ends n) l e h =
    let k : (counts_of xs).steps ≤ limit = subst (λ (c : Counts). c.steps ≤ limit) (taken-all xs m n e) h in
    let j : 0 + (counts_of xs).steps ≤ limit = omega (arith, k) in
    ap (answer_of limit) (followed-ends limit xs none m n e j) ∙ ap (λ c. Ok c) (told-is limit xs l k)
answer-within limit xs m (Stuck k) l e h =
    let j : 0 + (counts_of (taken xs m)).steps ≤ limit = omega (arith, h) in
    ap (answer_of limit) (followed-stuck limit xs none m k e j) ∙ answer-stuck limit k (left_before xs m) (counts_told xs)

-- the answer of a limited run, by the run without a limit
pub answer-is : (limit : ℕ) (xs : List Action) (m : Memory) → limit < 2 ^ 64 → answer_of limit (followed limit xs (started m)) ≡ decided limit xs m
unfolding none decided
answer-is limit xs m l = elim (cases_lt limit (counts_of (taken xs m)).steps) [
  | inl h ↦ let g : 0 ≤ limit = omega arith in
      let j : limit < 0 + (counts_of (taken xs m)).steps = omega (arith, h) in
      let over = followed-over limit xs none m g j in
      ap (answer_of limit) over.1
      ∙ sym (ap (λ b. if b then Err (stuck.TooMuchWork (limit + 1)) else ended_or_stuck (apply xs m) (counts_told xs))
      (lt-ltb limit (counts_of (taken xs m)).steps h))
  | inr h ↦ answer-within limit xs m (apply xs m) l refl h
      ∙ sym (ap (λ b. if b then Err (stuck.TooMuchWork (limit + 1)) else ended_or_stuck (apply xs m) (counts_told xs))
      (le-ltb limit (counts_of (taken xs m)).steps h))
]

-- ---- the memory that is left

store-left : (limit n : ℕ) (w : Tree) (xs : List Action)
    → ((c : Counted) (m : Memory) → n + c.steps ≡ limit → memory_left (followed limit xs (at c m)) ≡ left_before (steps_within n xs) m)
    → (o : Outcome) (c : Counted) (m : Memory) → n + (c.steps + 1) ≡ limit
    → memory_left (next (left_by o (tallied w (stepped c)) m) (followed limit xs)) ≡ through o m (left_before (steps_within n xs))
store-left limit n w xs rest (Ends m') c m h = rest (tallied w (stepped c)) m' h
store-left limit n w xs rest (Stuck k) c m h = refl

left-from : (limit n : ℕ) (xs : List Action) (c : Counted) (m : Memory) → n + c.steps ≡ limit
    → memory_left (followed limit xs (at c m)) ≡ left_before (steps_within n xs) m
left-from limit n [] c m h = refl
left-from limit n (Trip k ls ∷ xs) c m h = refl
left-from limit zero (Tick ∷ xs) c m h = ap memory_left (tick-barred limit xs c m (omega (arith, h)))
left-from limit (suc n) (Tick ∷ xs) c m h =
    let e : n + (c.steps + 1) ≡ limit = omega (arith, h) in
    ap memory_left (tick-begins limit xs c m (omega (arith, h))) ∙ left-from limit n xs (stepped c) m e
left-from limit zero (Store mode b w z ∷ xs) c m h = ap memory_left (store-barred limit mode b w z xs c m (omega (arith, h)))
left-from limit (suc n) (Store mode b w z ∷ xs) c m h =
    let e : n + (c.steps + 1) ≡ limit = omega (arith, h) in
    ap memory_left (store-begins limit mode b w z xs c m (omega (arith, h)))
    ∙ store-left limit n w xs (λ d k j. left-from limit n xs d k j) (apply_one (Store mode b w z) m) c m e

-- a limited run leaves what the actions leave whose steps the limit allows
pub left-is : (limit : ℕ) (xs : List Action) (m : Memory) → memory_left (followed limit xs (started m)) ≡ left_before (steps_within limit xs) m
unfolding none
left-is limit xs m = left-from limit limit xs none m (omega arith)

-- a run that ends within the limit: its counts are told, and its memory is left
pub within-is : (limit : ℕ) (xs : List Action) (m n : Memory) → limit < 2 ^ 64 → apply xs m ≡ Ends n → (counts_of xs).steps ≤ limit
    → (decided limit xs m ≡ Ok (counts_told xs)) × (memory_left (followed limit xs (started m)) ≡ n)
unfolding none
within-is limit xs m n l e h =
    let k : (counts_of (taken xs m)).steps ≤ limit = subst (λ (c : Counts). c.steps ≤ limit) (sym (taken-all xs m n e)) h in
    let j : 0 + (counts_of xs).steps ≤ limit = omega (arith, h) in
    (sym (answer-is limit xs m l) ∙ answer-within limit xs m (Ends n) l e k, ap memory_left (followed-ends limit xs none m n e j))

ended-of : (limit : ℕ) (xs : List Action) (m : Memory) (o : Outcome) → apply xs m ≡ o → (counts_of (taken xs m)).steps ≤ limit
    → IfOk (ended_or_stuck o (counts_told xs)) (λ _. apply xs m ≡ Ends (memory_left (followed limit xs (started m))))
unfolding none
ended-of limit xs m (Ends n) e h =
    let k : (counts_of xs).steps ≤ limit = subst (λ (c : Counts). c.steps ≤ limit) (taken-all xs m n e) h in
    let j : 0 + (counts_of xs).steps ≤ limit = omega (arith, k) in
    e ∙ sym (ap (λ p. Ends (memory_left p)) (followed-ends limit xs none m n e j))
ended-of limit xs m (Stuck (Outside b i)) e h = tt
ended-of limit xs m (Stuck (Met Overflow)) e h = tt
ended-of limit xs m (Stuck (Met NegativeDividend)) e h = tt

-- where counts are told, the run without a limit ends, and its memory is left
pub ended-is : (limit : ℕ) (xs : List Action) (m : Memory) → IfOk (decided limit xs m) (λ _. apply xs m ≡ Ends (memory_left (followed limit xs (started m))))
unfolding decided
ended-is limit xs m = go (nat_lt limit (counts_of (taken xs m)).steps) refl
  where
    go : (b : Bool) → nat_lt limit (counts_of (taken xs m)).steps ≡ b
        → IfOk (if b then Err (stuck.TooMuchWork (limit + 1)) else ended_or_stuck (apply xs m) (counts_told xs))
        (λ _. apply xs m ≡ Ends (memory_left (followed limit xs (started m))))
    go true e = tt
    go false e = ended-of limit xs m (apply xs m) refl (ltb-false limit (counts_of (taken xs m)).steps e)

-- ---- what is answered, and left, where the progress is that of the limited run

module _ (limit : ℕ) (xs : List Action) (m : Memory) (short : limit < 2 ^ 64) (p : Progress) (is : p ≡ followed limit xs (started m)) where
  pub run-answer : answer_of limit p ≡ decided limit xs m
  run-answer = ap (answer_of limit) is ∙ answer-is limit xs m short

  pub run-left : memory_left p ≡ left_before (steps_within limit xs) m
  run-left = ap memory_left is ∙ left-is limit xs m

  pub run-ended : (r : Result Counted refusal.Stuck) → r ≡ decided limit xs m → IfOk r (λ _. apply xs m ≡ Ends (memory_left p))
  run-ended r e = subst (λ q. IfOk r (λ _. apply xs m ≡ Ends (memory_left q))) (sym is)
      (subst (λ o. IfOk o (λ _. apply xs m ≡ Ends (memory_left (followed limit xs (started m))))) (sym e) (ended-is limit xs m))

  pub run-within : (r : Result Counted refusal.Stuck) → r ≡ decided limit xs m → (n : Memory) → apply xs m ≡ Ends n → (counts_of xs).steps ≤ limit
      → (r ≡ Ok (counts_told xs)) × (memory_left p ≡ n)
  run-within r e n ends few = let w = within-is limit xs m n short ends few in (e ∙ w.0, ap memory_left is ∙ w.1)
