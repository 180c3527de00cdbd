use Rattle.std.proofs.Common.{◌≡◌, ◌≤◌, length, map, min, take}
use Rattle.atl_meaning.specs.Operations.{on_words, rows_by_places}
use Rattle.atl_meaning.specs.Values.{meant}
use Rattle.atl_meaning.proofs.build.+places.Given as goal

abbrev pub invariant-rows_by_places-loop-at : goal.invariant-rows_by_places-loop-at
invariant-rows_by_places-loop-at l = record {
  within : l.at ≤ min (length l.a) (length l.b);
  rows : map meant l.rows ≡ rows_by_places (on_words l.operation) (map meant (take l.at l.a)) (map meant (take l.at l.b));
}
