use Rattle.std.proofs.Common.{◌≡◌, ◌++◌, drop}
use Rattle.term_tree.specs.Modules.{input_goals}
use Rattle.shape_rules.proofs.modules.input_goals.Given as goal

abbrev pub invariant-loop-input : goal.invariant-loop-input
invariant-loop-input l = l.goals ++ input_goals (drop l.input-index l.inputs) ≡ input_goals l.inputs
