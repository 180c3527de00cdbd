use Rattle.std.proofs.Common.{◌∙◌, refl}
use Rattle.atl_driver.specs.Asked.{OfTrial, Run}
use Rattle.atl_driver.proofs.Contents.{answers_on, fault_on, right_on}
use Rattle.atl_driver.proofs.trial.trial_on.Goals as goal

pub returns-in-Ok-clause-answers : goal.returns-in-Ok-clause-answers
returns-in-Ok-clause-answers c =
    answers_on (Run (OfTrial c.args.steps)) c.args.source.now _ c.as_slice.result.now _ c.emit_bytes.result refl
    (c.as_slice.ensures.value ∙ c.in-Ok.ensures.exact)
    c.emit_bytes.ensures.answers

pub returns-in-Ok-clause-correct : goal.returns-in-Ok-clause-correct
returns-in-Ok-clause-correct c =
    right_on (Run (OfTrial c.args.steps)) c.args.source.now _ c.as_slice.result.now _ c.emit_bytes.result refl
    (c.as_slice.ensures.value ∙ c.in-Ok.ensures.exact)
    c.emit_bytes.ensures.correct

pub returns-in-Ok-clause-refused : goal.returns-in-Ok-clause-refused
returns-in-Ok-clause-refused c =
    fault_on (Run (OfTrial c.args.steps)) c.args.source.now _ c.as_slice.result.now _ c.emit_bytes.result refl
    (c.as_slice.ensures.value ∙ c.in-Ok.ensures.exact)
    c.emit_bytes.ensures.refused
