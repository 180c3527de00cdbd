-- A step that makes a version has shown each of its conditions.
use Rattle.std.proofs.Common.{◌≡◌, ℕ, ◌+◌, Bool, true, false, ◌&&◌, if◌then◌else◌, List, [], ◌∷◌, length, get_or, refl, ap, ◌∙◌, Some, None, Ok, Err}
use Rattle.std.specs.Prelude.{map, nat_lt}
use Rattle.std.specs.declared.option.Option.{Option}
use Rattle.std.specs.declared.result.Result.{Result}
use Rattle.affine_index.specs.declared.form.Items.{Items}
use Rattle.fact_list.specs.declared.facts.Facts.{Facts}
use Rattle.facts_run.specs.Claims.{condition_claims, owed_claims, step_claims}
use Rattle.facts_text.specs.Block.{all_met, shows}
use Rattle.linear_cert.specs.declared.lines.Lines.{Lines}
use Rattle.linear_cert.specs.declared.lines.Lines.TheVariants.{Default}
use Rattle.path_focus.specs.Focus.{focus_of}
use Rattle.path_focus.specs.Outcome.{Makes, Meant, Unfit, Unlike, first_unshown, goal_shown, shown_by}
use Rattle.path_focus.specs.declared.place.Focus.{Focus}
use Rattle.path_focus.specs.declared.rule.Condition.{Condition}
use Rattle.path_focus.specs.declared.rule.RuleFault.TheVariants as broken
use Rattle.schedule_run.specs.Conditions.{conditions_of_step, owed_at, owed_by, owed_of}
use Rattle.schedule_run.specs.Names.{meant_by, rule_named}
use Rattle.schedule_run.specs.Verdict.{applied, changed, ruled, unless, version_after, with_result}
use Rattle.schedule_run.specs.declared.fault.StepKind.{StepKind}
use Rattle.schedule_run.specs.declared.fault.StepKind.TheVariants as kind
use Rattle.schedule_run.specs.declared.names.Rule.{Rule}
use Rattle.schedule_script.specs.declared.tree.Step.{Step}
use Rattle.script_arguments.specs.Arguments.{arguments_at}
use Rattle.term_tree.specs.declared.term.Module.{Module}
use Rattle.term_tree.specs.declared.term.Path.{Path}

same_shown : (f : Facts) (g : Option Items) (ls : Lines) → shows f g ls ≡ goal_shown f g ls
same_shown f None ls = refl
same_shown f (Some g) ls = refl

-- a condition that is shown, in front of others
one_shown : (step : ℕ) (ls : List Lines) (n : ℕ) (c : Condition) (cs : List Condition) (b : Bool) → shown_by ls n c ≡ b
    → (first_unshown ls (n + 1) cs ≡ None → all_met (condition_claims step ls (n + 1) cs) ≡ true)
    → (if b then first_unshown ls (n + 1) cs else Some (n + 1)) ≡ None → all_met (condition_claims step ls n (c ∷ cs)) ≡ true
one_shown step ls n c cs true e rest h =
    ap (λ b. b && all_met (condition_claims step ls (n + 1) cs)) (same_shown c.facts c.goal (get_or ls n Default) ∙ e) ∙ rest h
one_shown step ls n c cs false e rest h = absurd (cc)

-- conditions of which none is the first that is not shown
all_shown : (step : ℕ) (ls : List Lines) (n : ℕ) (cs : List Condition) → first_unshown ls n cs ≡ None → all_met (condition_claims step ls n cs) ≡ true
all_shown step ls n [] h = refl
all_shown step ls n (c ∷ cs) h = one_shown step ls n c cs (shown_by ls n c) refl (λ k. all_shown step ls (n + 1) cs k) h

unless_shown : (step : ℕ) (ls : List Lines) (cs : List Condition) (r : Result Module StepKind) (v : Module) (o : Option ℕ) → first_unshown ls 0 cs ≡ o
    → unless o r ≡ Ok v → all_met (condition_claims step ls 0 cs) ≡ true
unless_shown step ls cs r v None e h = all_shown step ls 0 cs e
unless_shown step ls cs r v (Some n) e h = absurd (cc)

changed_met : (number : ℕ) (m : Module) (p : Path) (ls : List Lines) (q : Meant) (v : Module) → changed m p ls q ≡ Ok v
    → all_met (owed_claims number ls (owed_by q)) ≡ true
changed_met number m p ls Unlike v h = absurd (cc)
changed_met number m p ls Unfit v h = absurd (cc)
changed_met number m p ls (Makes raw cs) v h = by (nat_lt (length cs) (length ls)) h
  where
    by : (b : Bool) → (if b then Err (kind.Rule broken.ExtraLines) else unless (first_unshown ls 0 cs) (with_result m p raw)) ≡ Ok v
        → all_met (condition_claims number ls 0 cs) ≡ true
    by true h = absurd (cc)
    by false h = unless_shown number ls cs (with_result m p raw) v (first_unshown ls 0 cs) refl h

applied_met : (number : ℕ) (m : Module) (s : Step) (r : Rule) (o : Option Focus) (v : Module) → applied m s r o ≡ Ok v
    → all_met (owed_claims number s.lines (owed_at m s r o)) ≡ true
applied_met number m s r None v h = absurd (cc)
applied_met number m s r (Some f) v h = changed_met number m s.path s.lines (meant_by r f (arguments_at (map (λ d. d.name) m.sizes) f s.rule s.args)) v h

ruled_met : (number : ℕ) (m : Module) (s : Step) (o : Option Rule) (v : Module) → ruled m s o ≡ Ok v
    → all_met (owed_claims number s.lines (owed_of m s o)) ≡ true
ruled_met number m s None v h = absurd (cc)
ruled_met number m s (Some r) v h = applied_met number m s r (focus_of m s.path) v h

pub version_met : (number : ℕ) (m : Module) (s : Step) (v : Module) → version_after m s ≡ Ok v → all_met (step_claims number m s) ≡ true
unfolding version_after conditions_of_step
version_met number m s v h = ruled_met number m s (rule_named s.rule) v h
