use Rattle.std.proofs.Common.{◌≡◌, ◌⊎◌, List, ℕ, Ok, refl, sym, ◌∙◌, ap, subst, inl, inr}
use Rattle.std.specs.declared.result.Result.{Result}
use Rattle.atl_driver.specs.Compile.{decided}
use Rattle.atl_driver.specs.Form.{form_of}
use Rattle.atl_driver.specs.Outcome.{status_of, status_after}
use Rattle.atl_driver.proofs.Completes.{came_is, completes}
use Rattle.atl_driver.specs.declared.fault.Fault.{Fault}
use Rattle.atl_driver.specs.declared.status.Status.TheVariants.{Done, Memory}
use Rattle.atl_driver.proofs.driver.atl.Goals as goal

pub returns-in-Ok-put-clause-complete : goal.returns-in-Ok-put-clause-complete
returns-in-Ok-put-clause-complete g c = λ command contents is told none out err.
    let F = g.F.Files in
    let decides = came_is F.held F.faults F.taken c.args.files.now c.decide.new.files (form_of c.args.words.now) command contents is told
    (Ok c.in-Ok.text.items) c.in-Ok.ensures.text.came in
    inl (subst (λ (answer : Result (List ℕ) Fault). Done ≡ status_after answer) (sym decides) refl)

pub returns-clause-complete : goal.returns-clause-complete
returns-clause-complete g c = λ command contents is told none out err.
    let F = g.F.Files in
    let reason = c.report.ensures.told.0 in
    let Aim : Type 0 = (c.report.result ≡ status_after (decided command.verb contents)) ⊎ (c.report.result ≡ Memory) in
    let caused = completes F.held F.faults F.taken c.args.files.now c.decide.new.files (form_of c.args.words.now) command contents is told c.in-Err.refusal none
    c.in-Err.ensures.cause in
    elim c.report.ensures.told.2 as (λ _. Aim) [
      | inl whole ↦ elim c.report.ensures.told.1 as (λ _. Aim) [
        | inl same ↦ elim caused as (λ _. Aim) [
          | inl given ↦ inl (whole.answered ∙ ap status_of same ∙ given)
          | inr memory ↦ inr (whole.answered ∙ ap status_of (same ∙ memory))
        ]
        | inr memory ↦ inr (whole.answered ∙ ap status_of memory)
      ]
      | inr cut ↦ absurd (err cut.rose)
    ]
