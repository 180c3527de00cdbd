-- The table by the names of the rules.
use Rattle.std.specs.Prelude.{◌≡◌, List, Result, Err}
use Rattle.path_focus.specs.Outcome.{Meant}
use Rattle.path_focus.specs.declared.place.Focus.{Focus}
use Rattle.path_focus.specs.declared.rule.Arg.{Arg}
use Rattle.path_focus.specs.declared.rule.Condition.{Condition}
use Rattle.path_focus.specs.declared.rule.RuleFault.{RuleFault}
use Rattle.path_focus.specs.declared.rule.RuleFault.TheVariants.{Memory}
use Rattle.rules_guard.specs.Table as table
use Rattle.rules_guard.specs.declared.rules.GuardRule.{GuardRule}
use Rattle.rules_guard.specs.declared.rules.GuardRule.TheVariants.{GuardIntro, GuardElim, GuardMerge, GuardPart, GuardGen, GenGuard, GuardSum, GuardAdd}
use Rattle.rules_guard.specs.declared.rules.GuardRule.TheVariants.{GuardMul, GuardIndex, GuardCases, AccessGuard, SumNarrow, DivZero}
use Rattle.rules_narrow.specs.Narrow.{sum_narrow}
use Rattle.rules_narrow.specs.Quotients.{div_zero}

-- what a rule makes of a focus and arguments
abbrev pub rule_of : Focus → GuardRule → List Arg → Meant
rule_of f GuardIntro = table.guard_intro f
rule_of f GuardElim = table.guard_elim f
rule_of f GuardMerge = table.guard_merge f
rule_of f GuardPart = table.guard_part f
rule_of f GuardGen = table.guard_gen f
rule_of f GenGuard = table.gen_guard f
rule_of f GuardSum = table.guard_sum f
rule_of f GuardAdd = table.guard_add f
rule_of f GuardMul = table.guard_mul f
rule_of f GuardIndex = table.guard_index f
rule_of f GuardCases = table.guard_cases f
rule_of f AccessGuard = table.access_guard f
rule_of f SumNarrow = sum_narrow f
rule_of f DivZero = div_zero f

-- the conditions, unless memory runs out
abbrev pub IsConditions : Result (List Condition) RuleFault → Result (List Condition) RuleFault → Type 0
IsConditions want (Err Memory) = Unit {0}
IsConditions want r = r ≡ want
