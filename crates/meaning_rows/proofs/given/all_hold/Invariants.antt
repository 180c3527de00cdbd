use Rattle.std.proofs.Common.{◌≡◌, [], drop, true}
use Rattle.affine_index.specs.Condition.{all_hold}
use Rattle.meaning_rows.proofs.given.all_hold.Given as goal

abbrev pub invariant-loop-cmp : goal.invariant-loop-cmp
invariant-loop-cmp l = all_hold l.sizes [] (drop l.cmp-index l.cmps) ≡ true → all_hold l.sizes [] l.cmps ≡ true
