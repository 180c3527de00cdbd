use Rattle.std.proofs.Common.{◌≡◌, map, take}
use Rattle.final_rules.specs.Places.{frame_of}
use Rattle.final_rules.proofs.frames.frames_of.Given as goal

abbrev pub invariant-loop-around : goal.invariant-loop-around
invariant-loop-around l = l.frames ≡ map (frame_of l.loops) (take l.around-index l.spot.around)
