-- One step of a script: the version after it, or the first rule that it breaks.
use Rattle.std.specs.Prelude.{◌≡◌, ℕ, ◌+◌, ◌-◌, ◌^◌, Bool, true, ◌&&◌, if◌then◌else◌, nat_le, nat_lt, min, List, [], ◌∷◌, length, map}
use Rattle.std.specs.Prelude.{Option, Some, None, Result, Ok, Err}
use Rattle.linear_cert.specs.declared.lines.Lines.{Lines}
use Rattle.path_focus.specs.Focus.{focus_of, plugged_in}
use Rattle.path_focus.specs.Laws.{IsLimitFault}
use Rattle.path_focus.specs.Outcome.{Makes, Meant, Unfit, Unlike, first_unshown}
use Rattle.path_focus.specs.declared.place.Focus.{Focus}
use Rattle.path_focus.specs.declared.rule.RuleFault.{RuleFault}
use Rattle.path_focus.specs.declared.rule.RuleFault.TheVariants as broken
use Rattle.schedule_run.specs.Names.{meant_by, rule_named}
use Rattle.schedule_run.specs.declared.fault.StepKind.{StepKind}
use Rattle.schedule_run.specs.declared.fault.StepKind.TheVariants.{NoSuchRule, NoSuchPath, TooDeep, RankTooLarge, TooManyNodes}
use Rattle.schedule_run.specs.declared.fault.StepKind.TheVariants.{CoefficientTooLarge, IndexTooLong, Memory}
use Rattle.schedule_run.specs.declared.fault.StepKind.TheVariants as kind
use Rattle.schedule_run.specs.declared.names.Rule.{Rule}
use Rattle.schedule_script.specs.declared.tree.Step.{Step}
use Rattle.script_arguments.specs.Arguments.{arguments_at}
use Rattle.shape_rules.specs.Faults.{IsModuleFault}
use Rattle.shape_rules.specs.declared.fault.ShapeFault.{ShapeFault}
use Rattle.shape_rules.specs.declared.fault.ShapeFault.TheVariants as shape
use Rattle.source_grammar.specs.Source.{nodes}
use Rattle.term_tree.specs.Counts.{node_depth}
use Rattle.term_tree.specs.Limits.{coefficients_fit, forms_short}
use Rattle.term_tree.specs.Modules.{input_shapes}
use Rattle.term_tree.specs.Shape.{Extents, Shaped, shape_of}
use Rattle.term_tree.specs.declared.cause.Cause.{Cause}
use Rattle.term_tree.specs.declared.cause.Cause.TheVariants as cause
use Rattle.term_tree.specs.declared.term.Module.{Module}
use Rattle.term_tree.specs.declared.term.OutputDecl.{OutputDecl}
use Rattle.term_tree.specs.declared.term.Path.{Path}
use Rattle.term_tree.specs.declared.term.Term.{Term}

-- the limit that a node breaks; a rule keeps the shape but for the limits, so that ranks and extents of no result disagree
abbrev pub limit_of : Cause → StepKind
limit_of cause.RankTooLarge = RankTooLarge
limit_of cause.CoefficientTooLarge = CoefficientTooLarge
limit_of cause.IndexTooLong = IndexTooLong
limit_of _ = Memory

-- the limit that a fault of shapes tells
abbrev pub told_kind : ShapeFault → StepKind
told_kind (shape.RankTooLarge p) = RankTooLarge
told_kind (shape.CoefficientTooLarge p) = CoefficientTooLarge
told_kind (shape.IndexTooLong p) = IndexTooLong
told_kind _ = Memory

-- no shape rule but those of the limits is broken
abbrev pub BreaksLimits : Module → Type 0
BreaksLimits m = (f : ShapeFault) → IsModuleFault m f → IsLimitFault f

-- the limit that the first node of an output without a shape breaks, or else what the rest has
abbrev pub limit_or : Shaped → Option StepKind → Option StepKind
limit_or (Ok ns) rest = rest
limit_or (Err misfit) rest = Some (limit_of misfit.cause)

-- that of the first output without a shape
abbrev pub broken_limit : List Extents → List OutputDecl → Option StepKind
broken_limit ts [] = None
broken_limit ts (o ∷ os) = limit_or (shape_of o.term ts) (broken_limit ts os)

-- no term is deeper than 200
abbrev pub are_shallow : List OutputDecl → Bool
are_shallow [] = true
are_shallow (o ∷ os) = nat_le (node_depth o.term) 200 && are_shallow os

-- the result, or the limit that its shapes break
abbrev pub shaped_as : Option StepKind → Module → Result Module StepKind
shaped_as None m = Ok m
shaped_as (Some k) m = Err k

-- the result, where the shape rules hold in it
abbrev pub shaped : Module → Result Module StepKind
shaped m = shaped_as (broken_limit (input_shapes m) m.outputs) m

-- the result within the limits of modules: nodes, depth, and last its shapes
abbrev pub version_within : Module → Result Module StepKind
version_within m =
    if nat_le (nodes m.outputs) 20000 then (if are_shallow m.outputs then shaped m else Err TooDeep)
    else Err (TooManyNodes (min (nodes m.outputs) (2 ^ 64 - 1)))

-- the module with a term at a place, which is there
abbrev pub placed : Option Module → Result Module StepKind
placed (Some m) = version_within m
placed None = Err NoSuchPath

-- the normal forms of what a rule makes within their limits, and the module with it at the place
abbrev pub with_result : Module → Path → Term → Result Module StepKind
with_result m p raw = if coefficients_fit raw then (if forms_short raw then placed (plugged_in m p raw) else Err IndexTooLong) else Err CoefficientTooLarge

-- a condition that is not shown comes first
abbrev pub unless : Option ℕ → Result Module StepKind → Result Module StepKind
unless (Some n) r = Err (kind.Rule (broken.ConditionNotShown n))
unless None r = r

-- pattern, arguments, surplus lines, conditions in order, and then the result
abbrev pub changed : Module → Path → List Lines → Meant → Result Module StepKind
changed m p ls Unlike = Err (kind.Rule broken.PatternMismatch)
changed m p ls Unfit = Err (kind.Rule broken.BadArgument)
changed m p ls (Makes raw cs) =
    if nat_lt (length cs) (length ls) then Err (kind.Rule broken.ExtraLines) else unless (first_unshown ls 0 cs) (with_result m p raw)

-- the rule at the place of the step, which is there; names in its arguments are those of sizes and of the variables around the place
abbrev pub applied : Module → Step → Rule → Option Focus → Result Module StepKind
applied m s r None = Err NoSuchPath
applied m s r (Some f) = changed m s.path s.lines (meant_by r f (arguments_at (map (λ d. d.name) m.sizes) f s.rule s.args))

-- the rule of the step, where its name is that of one
abbrev pub ruled : Module → Step → Option Rule → Result Module StepKind
ruled m s None = Err NoSuchRule
ruled m s (Some r) = applied m s r (focus_of m s.path)

-- the version after a step, or the first rule that the step breaks
unfoldable pub version_after : Module → Step → Result Module StepKind
version_after m s = ruled m s (rule_named s.rule)

-- the refusal is the wanted one; want of memory tells nothing
abbrev pub Tells : Result Module StepKind → StepKind → Type 0
Tells want Memory = Unit {0}
Tells want k = want ≡ Err k

-- the answer, unless memory runs out
abbrev pub Answers : Result Module StepKind → Result Module StepKind → Type 0
Answers want (Ok v) = want ≡ Ok v
Answers want (Err k) = Tells want k

-- the fault of a rule as that of its step; so many nodes of the module stand outside the place
abbrev pub step_fault : ℕ → RuleFault → StepKind
step_fault outside (broken.TooManyNodes n) = TooManyNodes (min (outside + n) (2 ^ 64 - 1))
step_fault outside broken.CoefficientTooLarge = CoefficientTooLarge
step_fault outside broken.IndexTooLong = IndexTooLong
step_fault outside broken.Memory = Memory
step_fault outside fault = kind.Rule fault
