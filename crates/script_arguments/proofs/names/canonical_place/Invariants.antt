use Rattle.std.proofs.Common.{◌≡◌, ◌+◌, ◌∷◌, []}
use Rattle.reader_laws.specs.Steps.{place_from}
use Rattle.script_arguments.specs.Names.{canonical_names}
use Rattle.script_arguments.proofs.names.canonical_place.Given as goal

abbrev pub invariant-loop-left : goal.invariant-loop-left
invariant-loop-left l =
    (place_from l.at l.name (canonical_names (l.letter ∷ []) l.left) ≡ place_from 0 l.name (canonical_names (l.letter ∷ []) l.count))
    × (l.at + l.left ≡ l.count)

abbrev pub decreases-loop-left : goal.decreases-loop-left
decreases-loop-left l = l.left
