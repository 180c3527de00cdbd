-- The table by the names of the rules.
use Rattle.std.specs.Prelude.{◌≡◌, false, List, Result, Err}
use Rattle.binders.specs.Uses.{uses_tensor}
use Rattle.path_focus.specs.Outcome.{Meant}
use Rattle.path_focus.specs.declared.place.Focus.{Focus}
use Rattle.path_focus.specs.declared.rule.Arg.{Arg}
use Rattle.path_focus.specs.declared.rule.Condition.{Condition}
use Rattle.path_focus.specs.declared.rule.RuleFault.{RuleFault}
use Rattle.path_focus.specs.declared.rule.RuleFault.TheVariants.{Memory}
use Rattle.rules_let.specs.Table as table
use Rattle.rules_let.specs.Table.{inlined}
use Rattle.rules_let.specs.declared.rules.LetRule.{LetRule}
use Rattle.rules_let.specs.declared.rules.LetRule.TheVariants.{LetIntro, LetInline, LetUse, LetOutOfGen, LetLiftGen, LetOutOfSum, LetIndex, LetGuard, LetLet}
use Rattle.rules_let.specs.declared.rules.LetRule.TheVariants.{LetDrop, LetOp}
use Rattle.term_tree.specs.declared.term.Term.{Term}

-- what a rule makes of a focus and arguments
abbrev pub rule_of : Focus → LetRule → List Arg → Meant
rule_of f LetIntro = table.let_intro f
rule_of f LetInline = table.let_inline f
rule_of f LetUse = table.let_use f
rule_of f LetOutOfGen = table.let_out_of_gen f
rule_of f LetLiftGen = table.let_lift_gen f
rule_of f LetOutOfSum = table.let_out_of_sum f
rule_of f LetIndex = table.let_index f
rule_of f LetGuard = table.let_guard f
rule_of f LetLet = table.let_let f
rule_of f LetDrop = table.let_drop f
rule_of f LetOp = table.let_op f

-- the conditions, unless memory runs out
abbrev pub IsConditions : Result (List Condition) RuleFault → Result (List Condition) RuleFault → Type 0
IsConditions want (Err Memory) = Unit {0}
IsConditions want r = r ≡ want

-- where the variable of a let does not occur, whatever is put for it leaves the same body
abbrev pub DropsAlike : Type 0
DropsAlike = (a c b : Term) → uses_tensor b 0 ≡ false → inlined a b ≡ inlined c b
