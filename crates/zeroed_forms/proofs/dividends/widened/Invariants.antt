use Rattle.std.proofs.Common.{◌≡◌, take}
use Rattle.zeroed_forms.proofs.dividends.widened.Given as goal

abbrev pub invariant-loop-term : goal.invariant-loop-term
invariant-loop-term l = l.terms ≡ take l.term-index l.items.terms
