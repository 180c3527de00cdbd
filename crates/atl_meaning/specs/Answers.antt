-- Which answer comes where.
use Rattle.std.specs.Prelude.{◌≡◌, ℕ, ◌+◌, ◌<◌, ◌≤◌, List, Option, Some, None, Result, Ok, Err}
use Rattle.term_tree.specs.declared.term.Module.{Module}
use Rattle.atl_meaning.specs.declared.fault.MeaningFault.{MeaningFault}
use Rattle.atl_meaning.specs.declared.fault.MeaningFault.TheVariants.{TooBig, TooMuchWork, Memory}
use Rattle.atl_meaning.specs.Turns.{module_turns}
use Rattle.atl_meaning.specs.Words.{module_big}

-- by the first that is too big and the turns: tensors where nothing is too big and the turns are within the limit; too
-- much work where nothing is too big; want of memory anywhere
abbrev pub IsDecided : {A : Type 0} → Option ℕ → ℕ → ℕ → Result A MeaningFault → Type 0
IsDecided big turns limit (Ok tensors) = (big ≡ None) × (turns ≤ limit)
IsDecided big turns limit (Err (TooBig w)) = big ≡ Some w
IsDecided big turns limit (Err (TooMuchWork n)) = (big ≡ None) × (limit < turns) × (n ≡ limit + 1)
IsDecided big turns limit (Err Memory) = Unit {0}

-- each answer comes where its cause is
abbrev pub HasCause : {A : Type 0} → Module → List ℕ → ℕ → Result A MeaningFault → Type 0
HasCause m s limit result = IsDecided (module_big m s) (module_turns m s) limit result
