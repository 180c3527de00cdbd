use Rattle.std.proofs.Common.{◌∙◌, refl}
use Rattle.atl_driver.specs.Asked.{OfTrial, Run}
use Rattle.atl_driver.proofs.Contents.{answers_on, fault_on, right_on}
use Rattle.atl_driver.proofs.trial.trial_bytes.Goals as goal

pub returns-in-Ok-clause-answers : goal.returns-in-Ok-clause-answers
returns-in-Ok-clause-answers c =
    answers_on (Run (OfTrial c.args.steps)) c.as_slice.result.now _ _ _ c.trial_on.result (c.as_slice.ensures.value ∙ c.in-Ok.ensures.exact) refl
    c.trial_on.ensures.answers

pub returns-in-Ok-clause-correct : goal.returns-in-Ok-clause-correct
returns-in-Ok-clause-correct c =
    right_on (Run (OfTrial c.args.steps)) c.as_slice.result.now _ _ _ c.trial_on.result (c.as_slice.ensures.value ∙ c.in-Ok.ensures.exact) refl
    c.trial_on.ensures.correct

pub returns-in-Ok-clause-refused : goal.returns-in-Ok-clause-refused
returns-in-Ok-clause-refused c =
    fault_on (Run (OfTrial c.args.steps)) c.as_slice.result.now _ _ _ c.trial_on.result (c.as_slice.ensures.value ∙ c.in-Ok.ensures.exact) refl
    c.trial_on.ensures.refused
