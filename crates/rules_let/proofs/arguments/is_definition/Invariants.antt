use Rattle.std.proofs.Common.{◌≡◌, drop}
use Rattle.rules_let.specs.Arguments.{is_definition}
use Rattle.rules_let.proofs.arguments.is_definition.Given as goal

abbrev pub invariant-loop-bound : goal.invariant-loop-bound
invariant-loop-bound l = is_definition l.var l.term (drop l.bound-index l.lets) ≡ is_definition l.var l.term l.lets
