use Rattle.std.proofs.Common.{◌≡◌, ◌++◌, take}
use Rattle.std.specs.List.{flat_map, zip}
use Rattle.c_print.specs.Program.{length_entry}
use Rattle.c_print.proofs.writer.Writer.put_lengths.Given as goal

abbrev pub invariant-loop-i : goal.invariant-loop-i
invariant-loop-i l = l.self ≡ l.initial.self ++ flat_map (length_entry l.sizes) (take l.i (zip l.all l.lengths))
