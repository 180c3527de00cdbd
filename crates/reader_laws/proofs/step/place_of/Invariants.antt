use Rattle.std.proofs.Common.{◌≡◌, ◌+◌, length, map}
use Rattle.reader_laws.specs.Steps.{place_from}
use Rattle.reader_laws.proofs.step.place_of.Given as goal

abbrev pub invariant-loop-names : goal.invariant-loop-names
invariant-loop-names l = (place_from l.at l.name (map (λ n. n.now) l.names) ≡ place_from 0 l.name (map (λ n. n.now) l.initial.names))
    × (l.at + length l.names ≡ length l.initial.names)

abbrev pub decreases-loop-names : goal.decreases-loop-names
decreases-loop-names l = length l.names
