use Rattle.std.proofs.Common.{length}
use Rattle.index_limits.proofs.stores.+full_read.Given as goal

abbrev pub decreases-full_read : goal.decreases-full_read
decreases-full_read l = length l.extents.now
