use Rattle.std.proofs.Common.{◌≡◌, ◌++◌, map, string_bytes}
use Rattle.c_execution.specs.Names.{size_names}
use Rattle.c_execution.proofs.names.put_sizes.Given as goal

abbrev pub invariant-loop-size : goal.invariant-loop-size
invariant-loop-size l = map string_bytes l.names.items ≡ map string_bytes l.fn.names.items ++ size_names l.size
