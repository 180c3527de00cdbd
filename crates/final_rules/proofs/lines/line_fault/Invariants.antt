use Rattle.std.proofs.Common.{◌≡◌, ◌+◌, drop}
use Rattle.final_rules.specs.Rules.{line_fault}
use Rattle.final_rules.proofs.lines.line_fault.Given as goal

abbrev pub invariant-loop-i : goal.invariant-loop-i
invariant-loop-i l = line_fault l.goals l.last (l.i + 1) (drop l.i l.finals) ≡ line_fault l.goals 0 1 l.finals
