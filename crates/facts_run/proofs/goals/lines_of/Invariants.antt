use Rattle.std.proofs.Common.{◌≡◌, drop}
use Rattle.final_rules.specs.Rules.{lines_of}
use Rattle.facts_run.proofs.goals.lines_of.Given as goal

abbrev pub invariant-loop-line : goal.invariant-loop-line
invariant-loop-line l = lines_of l.number (drop l.line-index l.finals) ≡ lines_of l.number l.finals
