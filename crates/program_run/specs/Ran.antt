-- What running a program on what is given comes to.
use Rattle.std.specs.Prelude.{◌≡◌, ℕ, ◌+◌, if◌then◌else◌, nat_lt, List, Result, Ok, Err}
use Rattle.loop_lang.specs.declared.stmt.Prog.{Prog}
use Rattle.loop_lang.specs.Actions.{Action, program_acts}
use Rattle.loop_lang.specs.Memory.{Memory, Cause, Outcome, Outside, Met, apply}
use Rattle.loop_lang.specs.Memory as memory
use Rattle.loop_lang.specs.Reckoning.{Overflow, NegativeDividend}
use Rattle.loop_lang.specs.Run.{IsMemoryOf, counts_of, run}
use Rattle.loop_run.specs.Buffers.{Held}
use Rattle.loop_run.specs.Exact.{taken}
use Rattle.loop_run.specs.Made.{made, then_told}
use Rattle.loop_run.specs.declared.given.Given.{Given}
use Rattle.loop_run.specs.declared.refusal.MakeRefusal.{MakeRefusal}
use Rattle.loop_run.specs.declared.refusal.MakeRefusal.TheVariants as refusal
use Rattle.loop_run.specs.declared.refusal.Stuck.TheVariants as stuck
use Rattle.program_run.specs.declared.run.Ran.{Ran}

-- the most steps of a run, 2^27
abbrev pub most_steps : ℕ
most_steps = 134217728

-- the run is stuck for this cause
abbrev pub stuck_so : Cause → MakeRefusal
stuck_so (Outside b i) = refusal.Stuck (stuck.Outside b i)
stuck_so (Met Overflow) = refusal.Stuck stuck.Overflow
stuck_so (Met NegativeDividend) = refusal.Stuck stuck.NegativeDividend

-- the buffers with the memory in which the run ends, and its stores, or why it is stuck
abbrev pub ended : Held → ℕ → Outcome → Result Ran MakeRefusal
ended held stores (memory.Ends m) = Ok (record { buffers = record held { memory = m }; stores = stores })
ended held stores (memory.Stuck cause) = Err (stuck_so cause)

-- the run from these buffers; where more steps begin than a run may have, that comes first
abbrev pub ran_from : List Action → Held → Result Ran MakeRefusal
ran_from xs held =
    if nat_lt most_steps (counts_of (taken xs held.memory)).steps
    then Err (refusal.Stuck (stuck.TooMuchWork (most_steps + 1)))
    else ended held (counts_of xs).stores (apply xs held.memory)

module _ (p : Prog) (g : Given) where
  -- why no buffers are made, or the run on them
  unfoldable pub ran : Result Ran MakeRefusal
  ran = then_told (made p g) (λ held. ran_from (program_acts p held.sizes) held)

  -- A run of the program at the given sizes, from buffers of its lengths with the given words in the inputs, ends in this memory, and stores so many words.
  pub record IsRun (r : Ran) : Type 0 where
    pub start : Memory
    pub fits : IsMemoryOf p g.sizes start
    pub given : start.inputs ≡ g.inputs
    pub ends : run p g.sizes start ≡ memory.Ends r.buffers.memory
    pub stores : r.stores ≡ (counts_of (program_acts p g.sizes)).stores
