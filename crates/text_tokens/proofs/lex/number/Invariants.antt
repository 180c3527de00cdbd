use Rattle.std.proofs.Common.{◌≡◌, ◌<◌, ◌^◌, drop}
use Rattle.text_tokens.specs.Numbers.{value_from}
use Rattle.text_tokens.proofs.lex.number.Given as goal

abbrev pub invariant-loop-b : goal.invariant-loop-b
invariant-loop-b l = (value_from l.value (drop l.b-index l.b-items) ≡ value_from 0 l.digits) × (l.value < 2 ^ 64)
