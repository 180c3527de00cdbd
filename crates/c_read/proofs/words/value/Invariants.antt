use Rattle.std.proofs.Common.{◌≡◌, ◌<◌, ◌^◌, drop}
use Rattle.text_tokens.specs.Numbers.{value_from}
use Rattle.c_read.proofs.words.value.Given as goal

abbrev pub invariant-loop-b : goal.invariant-loop-b
invariant-loop-b l = (value_from l.value (drop l.b-index l.digits) ≡ value_from 0 l.digits) × (l.value < 2 ^ 64)
