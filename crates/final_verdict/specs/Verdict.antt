-- The rules of the final form from some rule on, and what a refusal tells.
use Rattle.std.specs.Prelude.{◌≡◌, List, [], length, Some}
use Rattle.linear_cert.specs.declared.lines.FinalLine.{FinalLine}
use Rattle.term_tree.specs.declared.term.Module.{Module}
use Rattle.term_tree.specs.declared.term.Path.{Path}
use Rattle.final_rules.specs.declared.fault.FinalFault.{FinalFault}
use Rattle.final_rules.specs.declared.fault.FinalFault.TheVariants.{Memory}
use Rattle.final_rules.specs.Rules.{Verdict, goal_fault, large_fault, line_fault, mark_fault, maxima, module_goals, or_else, printed}

-- the printed indices, then the marks
abbrev pub printed_and_marked : Module → List Path → Verdict
printed_and_marked m marks = or_else (large_fault (maxima m) 1 (printed m)) (mark_fault m [] marks)

-- the lines, the goals, and then these
abbrev pub claimed : Module → List FinalLine → List Path → Verdict
claimed m finals marks =
    or_else (line_fault (length (module_goals m)) 0 1 finals) (or_else (goal_fault finals 1 (module_goals m)) (printed_and_marked m marks))

-- the fault is this one, or memory did not suffice
abbrev pub Tells : Verdict → FinalFault → Type 0
Tells due Memory = Unit {0}
Tells due fault = due ≡ Some fault
