use Rattle.std.proofs.Common.{◌≡◌, ◌+◌, length, map}
use Rattle.reader_laws.specs.Steps.{place_from}
use Rattle.script_arguments.proofs.names.size_place.Given as goal

abbrev pub invariant-loop-sizes : goal.invariant-loop-sizes
invariant-loop-sizes l = (place_from l.at l.name (map (λ d. d.name) l.sizes) ≡ place_from 0 l.name (map (λ d. d.name) l.initial.sizes))
    × (l.at + length l.sizes ≡ length l.initial.sizes)

abbrev pub decreases-loop-sizes : goal.decreases-loop-sizes
decreases-loop-sizes l = length l.sizes
