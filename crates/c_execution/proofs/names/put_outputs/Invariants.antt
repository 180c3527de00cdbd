use Rattle.std.proofs.Common.{◌≡◌, ◌++◌, map, string_bytes}
use Rattle.c_execution.specs.Names.{output_names}
use Rattle.c_execution.proofs.names.put_outputs.Given as goal

abbrev pub invariant-loop-output : goal.invariant-loop-output
invariant-loop-output l = map string_bytes l.names.items ≡ map string_bytes l.fn.names.items ++ output_names l.output
