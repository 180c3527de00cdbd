-- What a script has to show of a module, in order: the conditions of each step, then the goals of the last version.
use Rattle.std.specs.Prelude.{ℕ, ◌+◌, List, [], ◌∷◌, ◌++◌, get_or, Result, Ok, Err}
use Rattle.facts_text.specs.Block.{Claim, blocks}
use Rattle.facts_text.specs.Form.{Text}
use Rattle.facts_text.specs.declared.block.Title.TheVariants as of
use Rattle.final_rules.specs.Rules.{lines_of, module_goals}
use Rattle.final_rules.specs.declared.goal.Goal.{Goal}
use Rattle.linear_cert.specs.declared.lines.FinalLine.{FinalLine}
use Rattle.linear_cert.specs.declared.lines.Lines.{Lines}
use Rattle.linear_cert.specs.declared.lines.Lines.TheVariants.{Default}
use Rattle.path_focus.specs.declared.rule.Condition.{Condition}
use Rattle.schedule_run.specs.Conditions.{Owed, conditions_of_step}
use Rattle.schedule_run.specs.Verdict.{version_after}
use Rattle.schedule_run.specs.declared.fault.StepKind.{StepKind}
use Rattle.schedule_script.specs.declared.tree.Script.{Script}
use Rattle.schedule_script.specs.declared.tree.Step.{Step}
use Rattle.term_tree.specs.declared.term.Module.{Module}

-- a condition of a step, before which so many stand, with the lines of its place, or default lines where there are none
abbrev pub condition_claim : ℕ → List Lines → ℕ → Condition → Claim
condition_claim step ls n c = record { title = of.Condition step (n + 1); goal = c.goal; facts = c.facts; lines = get_or ls n Default }

-- conditions of a step, before which so many stand
abbrev pub condition_claims : ℕ → List Lines → ℕ → List Condition → List Claim
condition_claims step ls n [] = []
condition_claims step ls n (c ∷ cs) = condition_claim step ls n c ∷ condition_claims step ls (n + 1) cs

-- the conditions of a step, where its rule has some
abbrev pub owed_claims : ℕ → List Lines → Owed → List Claim
owed_claims step ls (Ok cs) = condition_claims step ls 0 cs
owed_claims step ls (Err k) = []

-- what the step with this number has to show
abbrev pub step_claims : ℕ → Module → Step → List Claim
step_claims number m s = owed_claims number s.lines (conditions_of_step m s)

-- the goal with this number, with the final lines that name it, or default lines
abbrev pub goal_claim : List FinalLine → ℕ → Goal → Claim
goal_claim finals number g = record { title = of.Goal number; goal = g.goal; facts = g.facts; lines = lines_of number finals }

-- goals, of which the first has this number
abbrev pub goal_claims : List FinalLine → ℕ → List Goal → List Claim
goal_claims finals number [] = []
goal_claims finals number (g ∷ gs) = goal_claim finals number g ∷ goal_claims finals (number + 1) gs

-- what is claimed of the version after a step, where there is one
abbrev pub claims_after : Result Module StepKind → (Module → List Claim) → List Claim
claims_after (Ok v) claims = claims v
claims_after (Err k) claims = []

-- what steps have to show, before which so many stand, and then the last version
abbrev pub claims_from : ℕ → Module → List Step → List FinalLine → List Claim
claims_from number m [] finals = goal_claims finals 1 (module_goals m)
claims_from number m (s ∷ ss) finals = step_claims (number + 1) m s ++ claims_after (version_after m s) (λ v. claims_from (number + 1) v ss finals)

-- a block for each condition of each step, then for each goal, up to and with the first that is not shown
abbrev pub facts_text : Module → Script → Text
facts_text m script = blocks m.sizes (claims_from 0 m script.steps script.finals)
