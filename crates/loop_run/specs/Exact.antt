-- How far a run without a limit goes, and its counts as they are told.
use Rattle.std.specs.Prelude.{ℕ, zero, suc, ◌+◌, ◌-◌, ◌^◌, min, nat_lt, if◌then◌else◌, List, [], ◌∷◌, Result, Ok, Err}
use Rattle.loop_lang.specs.Actions.{Action, Tick, Store, Trip}
use Rattle.loop_lang.specs.Memory.{Memory, Outcome, Ends, Stuck, Outside, Met, apply_one, apply}
use Rattle.loop_lang.specs.Reckoning.{Overflow, NegativeDividend}
use Rattle.loop_run.specs.declared.refusal.Stuck as refusal
use Rattle.loop_run.specs.declared.refusal.Stuck.TheVariants as stuck
use Rattle.loop_lang.specs.Run.{counts_of}
use Rattle.loop_run.specs.declared.counted.Counted.{Counted}
use Rattle.loop_run.specs.Limited.{more}

abbrev pub through : {A : Type 0} → Outcome → A → (Memory → A) → A
through (Ends n) a f = f n
through (Stuck k) a f = a

-- the actions that begin: up to the first that is stuck, and that one
abbrev pub taken : List Action → Memory → List Action
taken [] m = []
taken (x ∷ xs) m = x ∷ through (apply_one x m) [] (taken xs)

-- the memory that the actions before the stuck one leave
abbrev pub left_before : List Action → Memory → Memory
left_before [] m = m
left_before (x ∷ xs) m = through (apply_one x m) m (left_before xs)

-- the actions as far as so many steps may begin: those before the step that would be one too many
abbrev pub steps_within : ℕ → List Action → List Action
steps_within n [] = []
steps_within n (Trip k ls ∷ xs) = Trip k ls ∷ steps_within n xs
steps_within zero (Tick ∷ xs) = []
steps_within (suc n) (Tick ∷ xs) = Tick ∷ steps_within n xs
steps_within zero (Store mode b w i ∷ xs) = []
steps_within (suc n) (Store mode b w i ∷ xs) = Store mode b w i ∷ steps_within n xs

-- counts, and those of these actions
abbrev pub added : Counted → List Action → Counted
added c xs = record {
  steps = c.steps + (counts_of xs).steps;
  stores = more c.stores (counts_of xs).stores;
  loads = more c.loads (counts_of xs).loads;
  products = more c.products (counts_of xs).products;
}

-- the counts that are told: loads and products stop at 2^64 - 1
abbrev pub counts_told : List Action → Counted
counts_told xs = record {
  steps = (counts_of xs).steps;
  stores = (counts_of xs).stores;
  loads = min (counts_of xs).loads (2 ^ 64 - 1);
  products = min (counts_of xs).products (2 ^ 64 - 1);
}

-- the counts where the run ends, or why it is stuck
abbrev pub ended_or_stuck : Outcome → Counted → Result Counted refusal.Stuck
ended_or_stuck (Ends n) c = Ok c
ended_or_stuck (Stuck (Outside b i)) c = Err (stuck.Outside b i)
ended_or_stuck (Stuck (Met Overflow)) c = Err stuck.Overflow
ended_or_stuck (Stuck (Met NegativeDividend)) c = Err stuck.NegativeDividend

-- the answer by the run without a limit: too much work where more steps begin than the limit, else the counts or why it is stuck
unfoldable pub decided : ℕ → List Action → Memory → Result Counted refusal.Stuck
decided limit xs m = if nat_lt limit (counts_of (taken xs m)).steps then Err (stuck.TooMuchWork (limit + 1)) else ended_or_stuck (apply xs m) (counts_told xs)
