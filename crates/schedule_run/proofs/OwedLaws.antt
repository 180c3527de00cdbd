-- The conditions of a rule as those of its step.
use Rattle.std.proofs.Common.{◌≡◌, List, refl, ap, Ok, Err}
use Rattle.path_focus.specs.Outcome.{Makes, Meant, Unfit, Unlike, conditions_of}
use Rattle.path_focus.specs.declared.rule.Condition.{Condition}
use Rattle.path_focus.specs.declared.rule.RuleFault.{RuleFault}
use Rattle.path_focus.specs.declared.rule.RuleFault.TheVariants as broken
use Rattle.rules_loop.specs.Rules.{IsConditions}
use Rattle.schedule_run.specs.Conditions.{TellsOwed, owed_by}
use Rattle.schedule_run.specs.Verdict.{step_fault}

pub owed_there : (q : Meant) (cs : List Condition) → IsConditions (conditions_of q) (Ok cs) → owed_by q ≡ Ok cs
owed_there Unlike cs h = absurd (cc)
owed_there Unfit cs h = absurd (cc)
owed_there (Makes raw ds) cs h = let same : ds ≡ cs = cc in ap Ok same

pub owed_refused : (q : Meant) (fault : RuleFault) → IsConditions (conditions_of q) (Err fault) → TellsOwed (owed_by q) (step_fault 0 fault)
owed_refused Unlike broken.PatternMismatch h = refl
owed_refused Unlike broken.BadArgument h = absurd (cc)
owed_refused Unlike broken.ExtraLines h = absurd (cc)
owed_refused Unlike (broken.ConditionNotShown n) h = absurd (cc)
owed_refused Unlike broken.CoefficientTooLarge h = absurd (cc)
owed_refused Unlike broken.IndexTooLong h = absurd (cc)
owed_refused Unlike (broken.TooManyNodes n) h = absurd (cc)
owed_refused Unfit broken.BadArgument h = refl
owed_refused Unfit broken.PatternMismatch h = absurd (cc)
owed_refused Unfit broken.ExtraLines h = absurd (cc)
owed_refused Unfit (broken.ConditionNotShown n) h = absurd (cc)
owed_refused Unfit broken.CoefficientTooLarge h = absurd (cc)
owed_refused Unfit broken.IndexTooLong h = absurd (cc)
owed_refused Unfit (broken.TooManyNodes n) h = absurd (cc)
owed_refused (Makes raw cs) broken.PatternMismatch h = absurd (cc)
owed_refused (Makes raw cs) broken.BadArgument h = absurd (cc)
owed_refused (Makes raw cs) broken.ExtraLines h = absurd (cc)
owed_refused (Makes raw cs) (broken.ConditionNotShown n) h = absurd (cc)
owed_refused (Makes raw cs) broken.CoefficientTooLarge h = absurd (cc)
owed_refused (Makes raw cs) broken.IndexTooLong h = absurd (cc)
owed_refused (Makes raw cs) (broken.TooManyNodes n) h = absurd (cc)
owed_refused q broken.Memory h = tt
