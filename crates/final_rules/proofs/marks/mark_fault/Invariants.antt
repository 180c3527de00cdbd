use Rattle.std.proofs.Common.{◌≡◌, [], drop, take}
use Rattle.final_rules.specs.Rules.{mark_fault}
use Rattle.final_rules.proofs.marks.mark_fault.Given as goal

abbrev pub invariant-loop-i : goal.invariant-loop-i
invariant-loop-i l = mark_fault l.«module» (take l.i l.marks) (drop l.i l.marks) ≡ mark_fault l.«module» [] l.marks
