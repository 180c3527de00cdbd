-- From what `make` and `go` say to what a run comes to.
use Rattle.std.proofs.Common.{◌≡◌, ◌∙◌, ℕ, ◌+◌, ◌^◌, Bool, true, false, nat_lt, if◌then◌else◌, List, [], Option, Some, None, Result, Ok, Err, refl, ap, sym, subst}
use Rattle.std.specs.Prelude.{IfOk}
use Rattle.loop_lang.specs.declared.stmt.Prog.{Prog}
use Rattle.loop_lang.specs.Actions.{Action, program_acts}
use Rattle.loop_lang.specs.Memory.{Memory, Outcome, Ends, Stuck, Outside, Met, apply}
use Rattle.loop_lang.specs.Reckoning.{Overflow, NegativeDividend, reckon}
use Rattle.loop_lang.specs.Run.{IsMemoryOf, counts_of, run}
use Rattle.loop_run.specs.Buffers.{Held}
use Rattle.loop_run.specs.Exact.{counts_told, decided, ended_or_stuck, taken}
use Rattle.loop_run.specs.Made.{IsAnswer, held_at, lengths_told, made, made_at, then_told, total_from, unless, wrong_count}
use Rattle.loop_run.specs.declared.counted.Counted.{Counted}
use Rattle.loop_run.specs.declared.given.Given.{Given}
use Rattle.loop_run.specs.declared.refusal.MakeRefusal.{MakeRefusal}
use Rattle.loop_run.specs.declared.refusal.MakeRefusal.TheVariants as refusal
use Rattle.loop_run.specs.declared.refusal.Stuck as why
use Rattle.loop_run.specs.declared.refusal.Stuck.TheVariants as stuck
use Rattle.program_run.specs.Ran.{IsRun, ended, most_steps, ran, ran_from}
use Rattle.program_run.specs.declared.run.Ran.{Ran}

abbrev told_counts : Counted → Result Counted why.Stuck
told_counts c = Ok c

abbrev told_stuck : why.Stuck → Result Counted why.Stuck
told_stuck k = Err k

same_counts : (c d : Counted) → told_counts c ≡ told_counts d → c ≡ d
same_counts c d e = cc

same_stuck : (k l : why.Stuck) → told_stuck k ≡ told_stuck l → k ≡ l
same_stuck k l e = cc

same_end : (m n : Memory) → Ends m ≡ Ends n → m ≡ n
same_end m n e = cc

abbrev as_refusal : why.Stuck → Result Ran MakeRefusal
as_refusal k = Err (refusal.Stuck k)

-- ---- a run that ends

abbrev left_with : Held → Counted → Memory → Result Ran MakeRefusal
left_with held c m = Ok (record { buffers = record held { memory = m }; stores = c.stores })

ended-ok : (held : Held) (xs : List Action) (b : Bool) (o : Outcome) (k : why.Stuck) (c : Counted) (n : Memory)
    → told_counts c ≡ (if b then Err k else ended_or_stuck o (counts_told xs)) → o ≡ Ends n
    → left_with held c n ≡ (if b then as_refusal k else ended held (counts_of xs).stores o)
ended-ok held xs true o k c n told ends = absurd cc
ended-ok held xs false (Ends m) k c n told ends =
    let counts = same_counts c (counts_told xs) told in
    let memory = same_end m n ends in
    λ i. left_with held (counts i) (sym memory i)
ended-ok held xs false (Stuck cause) k c n told ends = absurd cc

pub run-ok : (held : Held) (xs : List Action) (c : Counted) (n : Memory) → told_counts c ≡ decided most_steps xs held.memory → apply xs held.memory ≡ Ends n
    → left_with held c n ≡ ran_from xs held
unfolding decided
run-ok held xs c n told ends =
    ended-ok held xs (nat_lt most_steps (counts_of (taken xs held.memory)).steps) (apply xs held.memory) (stuck.TooMuchWork (most_steps + 1)) c n told ends

-- buffers that are as before but for their memory
pub kept : (new held : Held) (m : Memory) → new ≡ record held { memory = m } → new ≡ record held { memory = new.memory }
kept new held m e =
    let with_memory : Memory → Held = λ n. record held { memory = n } in
    e ∙ ap with_memory (sym (ap (λ (h : Held). h.memory) e))

-- ---- a run that does not

ended-err : (held : Held) (xs : List Action) (b : Bool) (o : Outcome) (k l : why.Stuck)
    → told_stuck l ≡ (if b then Err k else ended_or_stuck o (counts_told xs))
    → as_refusal l ≡ (if b then as_refusal k else ended held (counts_of xs).stores o)
ended-err held xs true o k l told = ap as_refusal (same_stuck l k told)
ended-err held xs false (Ends m) k l told = absurd cc
ended-err held xs false (Stuck (Outside b i)) k l told = ap as_refusal (same_stuck l (stuck.Outside b i) told)
ended-err held xs false (Stuck (Met Overflow)) k l told = ap as_refusal (same_stuck l stuck.Overflow told)
ended-err held xs false (Stuck (Met NegativeDividend)) k l told = ap as_refusal (same_stuck l stuck.NegativeDividend told)

pub run-err : (held : Held) (xs : List Action) (k : why.Stuck) → told_stuck k ≡ decided most_steps xs held.memory → as_refusal k ≡ ran_from xs held
unfolding decided
run-err held xs k told =
    ended-err held xs (nat_lt most_steps (counts_of (taken xs held.memory)).steps) (apply xs held.memory) (stuck.TooMuchWork (most_steps + 1)) k told

-- ---- what is made has the given sizes and inputs

pub record IsGivenTo (g : Given) (h : Held) : Type 0 where
  pub sizes : h.sizes ≡ g.sizes
  pub inputs : h.memory.inputs ≡ g.inputs

abbrev made_so : Held → Result Held MakeRefusal
made_so h = Ok h

same_made : (h k : Held) → made_so h ≡ made_so k → h ≡ k
same_made h k e = cc

module _ (p : Prog) (g : Given) where
  given-at : (ns : List ℕ) (h : Held) → held_at p g ns ≡ h → IsGivenTo g h
  given-at ns h e = record { sizes = ap (λ (k : Held). k.sizes) (sym e); inputs = ap (λ (k : Held). k.memory.inputs) (sym e) }

  given-unless : (o : Option MakeRefusal) (ns : List ℕ) (h : Held) → unless o (held_at p g ns) ≡ Ok h → IsGivenTo g h
  given-unless None ns h is = given-at ns h (same_made (held_at p g ns) h is)
  given-unless (Some x) ns h is = absurd cc

  given-small : (b : Bool) (ns : List ℕ) (h : Held)
      → (if b then Err (refusal.TooBigToRun (total_from 0 ns)) else unless (wrong_count 0 ns g.inputs) (held_at p g ns)) ≡ Ok h → IsGivenTo g h
  given-small true ns h is = absurd cc
  given-small false ns h is = given-unless (wrong_count 0 ns g.inputs) ns h is

  given-told : (r : Result (List ℕ) MakeRefusal) (h : Held) → then_told r (made_at p g) ≡ Ok h → IsGivenTo g h
  given-told (Ok ns) h is = given-small (nat_lt (2 ^ 24) (total_from 0 ns)) ns h is
  given-told (Err x) h is = absurd cc

  given-made : (h : Held) → made_so h ≡ made p g → IsGivenTo g h
  unfolding made
  given-made h is = given-told (lengths_told (λ x. reckon x g.sizes []) p.lengths) h (sym is)

  -- ---- the answers

  pub answer-made : (h : Held) (r : Result Ran MakeRefusal) → made_so h ≡ made p g → r ≡ ran_from (program_acts p h.sizes) h → IsAnswer r (ran p g)
  unfolding ran
  answer-made h r is from =
      let all : r ≡ then_told (made p g) (λ held. ran_from (program_acts p held.sizes) held) =
      from ∙ ap (λ (x : Result Held MakeRefusal). then_told x (λ held. ran_from (program_acts p held.sizes) held)) is in
      same_answer r _ all
    where
      same_answer : (x y : Result Ran MakeRefusal) → x ≡ y → IsAnswer x y
      same_answer (Ok a) y e = e
      same_answer (Err (refusal.Stuck k)) y e = e
      same_answer (Err (refusal.TooBigToRun n)) y e = e
      same_answer (Err (refusal.WrongCount k n m)) y e = e
      same_answer (Err refusal.Memory) y e = tt

  pub answer-unmade : (e : MakeRefusal) → IsAnswer {A = Held} (Err e) (made p g) → IsAnswer {A = Ran} (Err e) (ran p g)
  unfolding ran
  answer-unmade (refusal.Stuck k) h = ap (λ (x : Result Held MakeRefusal). then_told x (λ held. ran_from (program_acts p held.sizes) held)) h
  answer-unmade (refusal.TooBigToRun n) h = ap (λ (x : Result Held MakeRefusal). then_told x (λ held. ran_from (program_acts p held.sizes) held)) h
  answer-unmade (refusal.WrongCount k n m) h = ap (λ (x : Result Held MakeRefusal). then_told x (λ held. ran_from (program_acts p held.sizes) held)) h
  answer-unmade refusal.Memory h = tt

  -- ---- what is left is what a run leaves

  abbrev left_so : Ran → Result Ran MakeRefusal
  left_so r = Ok r

  same_left : (r q : Ran) → left_so r ≡ left_so q → r ≡ q
  same_left r q e = cc

  ended-run : (h : Held) (b : Bool) (o : Outcome) (k : why.Stuck) (r : Ran) → IsMemoryOf p g.sizes h.memory → h.memory.inputs ≡ g.inputs
      → run p g.sizes h.memory ≡ o → left_so r ≡ (if b then as_refusal k else ended h (counts_of (program_acts p g.sizes)).stores o) → IsRun p g r
  ended-run h true o k r fits inputs runs is = absurd cc
  ended-run h false (Stuck cause) k r fits inputs runs is = absurd cc
  ended-run h false (Ends m) k r fits inputs runs is =
      let whole : Ran = record { buffers = record h { memory = m }; stores = (counts_of (program_acts p g.sizes)).stores } in
      let same : r ≡ whole = same_left r whole is in
      record {
        start = h.memory;
        fits = fits;
        given = inputs;
        ends = runs ∙ ap (λ (q : Ran). Ends q.buffers.memory) (sym same);
        stores = ap (λ (q : Ran). q.stores) same;
      }

  run-at : (h : Held) (s : List ℕ) (r : Ran) → s ≡ g.sizes → IsMemoryOf p s h.memory → h.memory.inputs ≡ g.inputs
      → left_so r ≡ ran_from (program_acts p s) h → IsRun p g r
  run-at h s r e fits inputs is =
      ended-run h (nat_lt most_steps (counts_of (taken (program_acts p g.sizes) h.memory)).steps) (apply (program_acts p g.sizes) h.memory)
      (stuck.TooMuchWork (most_steps + 1)) r (subst (λ (t : List ℕ). IsMemoryOf p t h.memory) e fits) inputs refl
      (subst (λ (t : List ℕ). left_so r ≡ ran_from (program_acts p t) h) e is)

  pub run-made : (h : Held) (r : Result Ran MakeRefusal) → made_so h ≡ made p g → IsMemoryOf p h.sizes h.memory → r ≡ ran_from (program_acts p h.sizes) h
      → IfOk r (IsRun p g)
  run-made h (Ok r) is fits from = let to = given-made h is in run-at h h.sizes r to.sizes fits to.inputs from
  run-made h (Err x) is fits from = tt
