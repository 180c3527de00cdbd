use Rattle.std.proofs.Common.{◌≡◌, drop}
use Rattle.run_rows.specs.Formed.{lengths_fold}
use Rattle.run_rows.proofs.formed.lengths_formed.Given as goal

abbrev pub invariant-loop-length : goal.invariant-loop-length
invariant-loop-length l = lengths_fold l.sizes (drop l.length-index l.lengths) ≡ lengths_fold l.sizes l.lengths
