use Rattle.std.proofs.Common.{◌≡◌, map, take}
use Rattle.affine_index.specs.Put.{moved}
use Rattle.binders.specs.Maps.{put_cmp}
use Rattle.rule_parts.proofs.conds.raised_cmps.Given as goal

abbrev pub invariant-loop-cmp : goal.invariant-loop-cmp
invariant-loop-cmp l = l.all ≡ map (put_cmp (moved 0 1)) (take l.cmp-index l.cmps)
