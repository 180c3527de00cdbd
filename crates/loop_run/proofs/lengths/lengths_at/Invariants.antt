use Rattle.std.proofs.Common.{◌≡◌, ◌++◌, [], drop, Ok}
use Rattle.loop_run.specs.Indices.{index_fold}
use Rattle.loop_run.specs.Made.{lengths_told, then_told}
use Rattle.loop_run.proofs.lengths.lengths_at.Given as goal

abbrev pub invariant-loop-length : goal.invariant-loop-length
invariant-loop-length l = then_told (lengths_told (index_fold l.sizes []) (drop l.length-index l.lengths)) (λ ns. Ok (l.found ++ ns)) ≡ lengths_told
    (index_fold l.sizes []) l.lengths
