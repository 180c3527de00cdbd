use Rattle.std.proofs.Common.{◌≡◌, ◌-◌, ◌++◌, map}
use Rattle.std.specs.List.{flat_map, range_with_len}
use Rattle.c_print.specs.Program.{after_comma, size_parameter}
use Rattle.c_print.proofs.writer.Writer.put_further_sizes.Given as goal

abbrev pub invariant-loop-size : goal.invariant-loop-size
invariant-loop-size l = l.self ≡ l.initial.self ++ flat_map after_comma (map size_parameter (range_with_len 1 (l.size - 1)))
