use Rattle.std.proofs.Common.{◌≡◌, drop}
use Rattle.final_rules.specs.Rules.{any_nested}
use Rattle.final_rules.proofs.marks.any_nested.Given as goal

abbrev pub invariant-loop-other : goal.invariant-loop-other
invariant-loop-other l = any_nested l.path (drop l.other-index l.before) ≡ any_nested l.path l.before
