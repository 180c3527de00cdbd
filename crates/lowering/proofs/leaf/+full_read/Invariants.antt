use Rattle.std.proofs.Common.{◌+◌, ◌-◌, ◌*◌, length}
use Rattle.lowering.proofs.leaf.+full_read.Given as goal

abbrev pub decreases-full_read : goal.decreases-full_read
decreases-full_read l = 2 * (length l.extents.now - l.from) + 1

abbrev pub decreases-inside : goal.decreases-inside
decreases-inside l = 2 * (length l.extents.now - l.from) + 2
