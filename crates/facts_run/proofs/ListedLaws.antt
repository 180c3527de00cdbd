-- The facts of the conditions of a step may be listed.
use Rattle.std.proofs.Common.{◌≡◌, Bool, true, false, List, refl, sym, subst, Some, None}
use Rattle.std.specs.Prelude.{map}
use Rattle.std.specs.declared.option.Option.{Option}
use Rattle.facts_run.specs.Verdict.{OwedListed}
use Rattle.path_focus.specs.Focus.{IsProper, focus_of}
use Rattle.path_focus.specs.Outcome.{IsDraft, IsOutcome, MadeListed, Makes, Meant, Unfit, Unlike}
use Rattle.path_focus.specs.declared.outcome.Draft.{Draft}
use Rattle.path_focus.specs.declared.outcome.Draft.TheVariants.{Whole, TooLarge, TooLong}
use Rattle.path_focus.specs.declared.outcome.Outcome.{Outcome}
use Rattle.path_focus.specs.declared.outcome.Outcome.TheVariants.{Made}
use Rattle.path_focus.specs.declared.place.Focus.{Focus}
use Rattle.path_focus.specs.declared.rule.Arg.{Arg}
use Rattle.rules_guard.specs.Rules as guard_table
use Rattle.rules_guard.proofs.ApplyLaws as guard_laws
use Rattle.rules_let.specs.Rules as let_table
use Rattle.rules_let.proofs.ApplyLaws as let_laws
use Rattle.rules_loop.specs.Rules as loop_table
use Rattle.rules_loop.proofs.ApplyLaws as loop_laws
use Rattle.rules_shape.specs.Rules as shape_table
use Rattle.rules_shape.proofs.ApplyLaws as shape_laws
use Rattle.schedule_run.specs.Conditions.{conditions_of_step, owed_at, owed_by, owed_of}
use Rattle.schedule_run.specs.Names.{meant_by, rule_named}
use Rattle.schedule_run.specs.declared.names.Rule.{Rule}
use Rattle.schedule_run.specs.declared.names.Rule.TheVariants.{Loop, Let, Guard, Shape}
use Rattle.schedule_script.specs.declared.tree.Step.{Step}
use Rattle.script_arguments.specs.Arguments.{arguments_at}
use Rattle.term_tree.specs.Limits.{coefficients_fit, forms_short}
use Rattle.term_tree.specs.declared.term.Module.{Module}
use Rattle.term_tree.specs.declared.term.Term.{Term}

-- each result has a draft
draft_of : (raw : Term) → (d : Draft) × IsDraft raw d
draft_of raw = by (coefficients_fit raw) (forms_short raw) refl refl
  where
    by : (fit short : Bool) → coefficients_fit raw ≡ fit → forms_short raw ≡ short → (d : Draft) × IsDraft raw d
    by true true e f = (Whole raw, (refl, e, f))
    by true false e f = (TooLong, (e, f))
    by false short e f = (TooLarge, e)

-- what is so of each outcome of what the table says is so of the table
meant_listed : (q : Meant) → ((o : Outcome) → IsOutcome q o → MadeListed o) → OwedListed (owed_by q)
meant_listed Unlike h = tt
meant_listed Unfit h = tt
meant_listed (Makes raw cs) h = let d = draft_of raw in h (Made (record { conditions = cs; draft = d.0 })) (refl, d.1)

rule_listed : (f : Focus) → IsProper f → (r : Rule) (as' : List Arg) → OwedListed (owed_by (meant_by r f as'))
rule_listed f p (Loop r) as' = meant_listed (loop_table.rule_of f r as') (λ o h. loop_laws.rule_listed f r as' o p h)
rule_listed f p (Let r) as' = meant_listed (let_table.rule_of f r as') (λ o h. let_laws.rule_listed f r as' o h)
rule_listed f p (Guard r) as' = meant_listed (guard_table.rule_of f r as') (λ o h. guard_laws.rule_listed f r as' o p h)
rule_listed f p (Shape r) as' = meant_listed (shape_table.rule_of f r as') (λ o h. shape_laws.rule_listed f r as' o p h)

pub step_listed : (m : Module) (s : Step) (f : Focus) → focus_of m s.path ≡ Some f → IsProper f → OwedListed (conditions_of_step m s)
unfolding conditions_of_step
step_listed m s f e p = by (rule_named s.rule)
  where
    by : (o : Option Rule) → OwedListed (owed_of m s o)
    by None = tt
    by (Some r) = subst (λ (x : Option Focus). OwedListed (owed_at m s r x)) (sym e)
        (rule_listed f p r (arguments_at (map (λ d. d.name) m.sizes) f s.rule s.args))

pub step_nowhere : (m : Module) (s : Step) → focus_of m s.path ≡ None → OwedListed (conditions_of_step m s)
unfolding conditions_of_step
step_nowhere m s e = by (rule_named s.rule)
  where
    by : (o : Option Rule) → OwedListed (owed_of m s o)
    by None = tt
    by (Some r) = subst (λ (x : Option Focus). OwedListed (owed_at m s r x)) (sym e) tt
