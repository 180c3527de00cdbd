-- The table by the names of the rules.
use Rattle.std.specs.Prelude.{◌≡◌, List, Result, Err}
use Rattle.path_focus.specs.Outcome.{Meant}
use Rattle.path_focus.specs.declared.place.Focus.{Focus}
use Rattle.path_focus.specs.declared.rule.Arg.{Arg}
use Rattle.path_focus.specs.declared.rule.Condition.{Condition}
use Rattle.path_focus.specs.declared.rule.RuleFault.{RuleFault}
use Rattle.path_focus.specs.declared.rule.RuleFault.TheVariants.{Memory}
use Rattle.rules_loop.specs.OneTurn as one_turn
use Rattle.rules_loop.specs.Raising as raising
use Rattle.rules_loop.specs.Table as table
use Rattle.rules_loop.specs.Tilings as tilings
use Rattle.rules_loop.specs.declared.rules.LoopRule.{LoopRule}
use Rattle.rules_loop.specs.declared.rules.LoopRule.TheVariants.{Beta, Eta, SwapGen, CutGen, SwapSum, CutSum, SumGen, GenSum, SumIndex, SumAdd}
use Rattle.rules_loop.specs.declared.rules.LoopRule.TheVariants.{AddSum, MulOutOfSum, AddIndex, SplitGen, SplitSum, SplitGenExact, FuseGen, SumOne}
use Rattle.rules_loop.specs.declared.rules.LoopRule.TheVariants.{SumPick, Uneta, MulIntoSum}

-- what a rule makes of a focus and arguments
abbrev pub rule_of : Focus → LoopRule → List Arg → Meant
rule_of f Beta = table.beta f
rule_of f Eta = table.eta f
rule_of f SwapGen = table.swap_gen f
rule_of f CutGen = table.cut_gen f
rule_of f SwapSum = table.swap_sum f
rule_of f CutSum = table.cut_sum f
rule_of f SumGen = table.sum_gen f
rule_of f GenSum = table.gen_sum f
rule_of f SumIndex = table.sum_index f
rule_of f SumAdd = table.sum_add f
rule_of f AddSum = table.add_sum f
rule_of f MulOutOfSum = table.mul_out_of_sum f
rule_of f AddIndex = table.add_index f
rule_of f SplitGen = tilings.split_gen f
rule_of f SplitSum = tilings.split_sum f
rule_of f SplitGenExact = tilings.split_gen_exact f
rule_of f FuseGen = tilings.fuse_gen f
rule_of f SumOne = one_turn.sum_one f
rule_of f SumPick = one_turn.sum_pick f
rule_of f Uneta = raising.uneta f
rule_of f MulIntoSum = raising.mul_into_sum f

-- the conditions, unless memory runs out
abbrev pub IsConditions : Result (List Condition) RuleFault → Result (List Condition) RuleFault → Type 0
IsConditions want (Err Memory) = Unit {0}
IsConditions want r = r ≡ want
