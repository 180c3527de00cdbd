use Rattle.std.proofs.Common.{◌≡◌, ◌++◌, ◌*◌, ◌<◌, ◌^◌, length}
use Rattle.std.specs.Int.RustNames.{unsigned_abs}
use Rattle.affine_index.specs.Sum.{scaled_terms}
use Rattle.affine_index.specs.Wide.{terms_norm}
use Rattle.affine_index.proofs.multiple.scaled_terms.Given as goal

abbrev pub invariant-loop-item : goal.invariant-loop-item
invariant-loop-item l = record {
  room : unsigned_abs l.by * terms_norm l.rest < 2 ^ 127;
  whole : l.items ++ scaled_terms l.by l.rest ≡ scaled_terms l.by l.fn.terms;
}

abbrev pub decreases-loop-item : goal.decreases-loop-item
decreases-loop-item l = length l.rest
