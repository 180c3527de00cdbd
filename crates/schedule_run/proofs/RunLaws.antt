-- Steps taken one after another.
use Rattle.std.proofs.Common.{◌≡◌, ℕ, ◌+◌, ◌<◌, List, [], ◌∷◌, ◌++◌, length, get_or, drop, refl, ap, sym, subst, ◌∙◌, arith, append_assoc, drop-cons}
use Rattle.std.proofs.Common.{Result, Ok, Err}
use Rattle.schedule_run.specs.Verdict as verdict
use Rattle.schedule_run.specs.Verdict.{version_after}
use Rattle.schedule_run.specs.Versions.{IsRefused, after, behind, versions_from}
use Rattle.schedule_run.specs.declared.fault.StepFault.{StepFault}
use Rattle.schedule_run.specs.declared.fault.StepKind.{StepKind}
use Rattle.schedule_run.specs.declared.fault.StepKind.TheVariants.{NoSuchRule, NoSuchPath, TooDeep, RankTooLarge, TooManyNodes}
use Rattle.schedule_run.specs.declared.fault.StepKind.TheVariants.{CoefficientTooLarge, IndexTooLong, Memory}
use Rattle.schedule_run.specs.declared.fault.StepKind.TheVariants as kind
use Rattle.schedule_script.specs.declared.tree.Step.{Step}
use Rattle.term_tree.specs.declared.term.Module.{Module}

-- one step more
all_more : (number : ℕ) (before all : List Module) (m n : Module) (s : Step) (ss : List Step) → all ≡ before ++ m ∷ [] → version_after m s ≡ Ok n
    → behind all (versions_from (number + 1) n ss) ≡ behind before (versions_from number m (s ∷ ss))
all_more number before all m n s ss e h =
    ap (λ ms. behind ms (versions_from (number + 1) n ss)) e
    ∙ by (versions_from (number + 1) n ss)
    ∙ ap (λ r. behind before (after (number + 1) r (λ n. behind (m ∷ []) (versions_from (number + 1) n ss)))) (sym h)
  where
    by : (r : Result (List Module) StepFault) → behind (before ++ m ∷ []) r ≡ behind before (behind (m ∷ []) r)
    by (Ok ns) = ap Ok (append_assoc before (m ∷ []) ns)
    by (Err fault) = refl

first_left : (ss : List Step) (at : ℕ) (s : Step) → at < length ss → drop at ss ≡ get_or ss at s ∷ drop (at + 1) ss
first_left ss at s l = grind (arith, drop-cons ss at s)

-- the step at a place in a script
pub all_next : (ss : List Step) (at : ℕ) (s : Step) (before all : List Module) (m n : Module) → at < length ss → s ≡ get_or ss at s → all ≡ before ++ m ∷ []
    → version_after m s ≡ Ok n → behind all (versions_from (at + 1) n (drop (at + 1) ss)) ≡ behind before (versions_from at m (drop at ss))
all_next ss at s before all m n l i e h =
    all_more at before all m n s (drop (at + 1) ss) e h
    ∙ ap (λ xs. behind before (versions_from at m xs)) (ap (λ x. x ∷ drop (at + 1) ss) i ∙ sym (first_left ss at s l))

pub none_before : (r : Result (List Module) StepFault) → behind [] r ≡ r
none_before (Ok ms) = refl
none_before (Err fault) = refl

module _ {A : Type 0} where
  -- the fault of a step, unless memory ran out there
  fails : (want : Result A StepFault) (number : ℕ) (r : Result Module StepKind) (k : StepKind) → (r ≡ Err k → want ≡ Err (record { step = number; kind = k }))
      → verdict.Tells r k → IsRefused want (record { step = number; kind = k }) k
  fails want number r NoSuchRule f h = f h
  fails want number r NoSuchPath f h = f h
  fails want number r (kind.Rule q) f h = f h
  fails want number r TooDeep f h = f h
  fails want number r RankTooLarge f h = f h
  fails want number r (TooManyNodes n) f h = f h
  fails want number r CoefficientTooLarge f h = f h
  fails want number r IndexTooLong f h = f h
  fails want number r Memory f h = tt

-- the fault of the step at a place
pub all_fails : (ss : List Step) (at : ℕ) (s : Step) (before : List Module) (m : Module) (k : StepKind) → at < length ss → s ≡ get_or ss at s
    → verdict.Tells (version_after m s) k → IsRefused (behind before (versions_from at m (drop at ss))) (record { step = at + 1; kind = k }) k
all_fails ss at s before m k l i h = subst
    (λ (xs : List Step). IsRefused (behind before (versions_from at m xs)) (record { step = at + 1; kind = k }) k)
    (ap (λ x. x ∷ drop (at + 1) ss) i ∙ sym (first_left ss at s l))
    (fails (behind before (versions_from at m (s ∷ drop (at + 1) ss))) (at + 1) (version_after m s) k
    (ap (λ r. behind before (after (at + 1) r (λ n. behind (m ∷ []) (versions_from (at + 1) n (drop (at + 1) ss))))))
    h)
