-- The step at which all versions fail is the one at which the last version does.
use Rattle.std.proofs.Common.{◌≡◌, ℕ, ◌+◌, List, [], ◌∷◌, ap, Result, Ok, Err}
use Rattle.term_tree.specs.declared.term.Module.{Module}
use Rattle.schedule_script.specs.declared.tree.Step.{Step}
use Rattle.schedule_run.specs.Verdict.{version_after}
use Rattle.schedule_run.specs.Versions.{after, behind, last_from, last_version_of, versions_from, versions_of}
use Rattle.schedule_run.specs.declared.fault.StepFault.{StepFault}
use Rattle.schedule_run.specs.declared.fault.StepKind.{StepKind}

behind_fails : (ms : List Module) (r : Result (List Module) StepFault) (failing : StepFault) → behind ms r ≡ Err failing → r ≡ Err failing
behind_fails ms (Ok ns) failing h = absurd (cc)
behind_fails ms (Err fault) failing h = h

-- a step that fails, or one behind it
step_fails : (number : ℕ) (m : Module) (ss : List Step) (failing : StepFault)
    → ((n : Module) → versions_from number n ss ≡ Err failing → last_from number n ss ≡ Err failing)
    → (r : Result Module StepKind) → after number r (λ n. behind (m ∷ []) (versions_from number n ss)) ≡ Err failing
    → after number r (λ n. last_from number n ss) ≡ Err failing
step_fails number m ss failing next (Ok n) h = next n (behind_fails (m ∷ []) (versions_from number n ss) failing h)
step_fails number m ss failing next (Err kind) h =
    let same : (let fault : StepFault = record { step = number; kind = kind } in fault) ≡ failing = cc in
    ap (λ (f : StepFault). let r : Result Module StepFault = Err f in r) same

fails_from : (ss : List Step) (number : ℕ) (m : Module) (failing : StepFault) → versions_from number m ss ≡ Err failing → last_from number m ss ≡ Err failing
fails_from [] number m failing h = absurd (cc)
fails_from (s ∷ ss) number m failing h =
    step_fails (number + 1) m ss failing (λ n. fails_from ss (number + 1) n failing) (version_after m s) h

pub last_fails : (m : Module) (ss : List Step) (failing : StepFault) → versions_of m ss ≡ Err failing → last_version_of m ss ≡ Err failing
last_fails m ss failing h = fails_from ss 0 m failing h
