use Rattle.std.proofs.Common.{◌≡◌, ◌++◌, map, string_bytes}
use Rattle.c_execution.specs.Names.{input_names}
use Rattle.c_execution.proofs.names.put_inputs.Given as goal

abbrev pub invariant-loop-input : goal.invariant-loop-input
invariant-loop-input l = map string_bytes l.names.items ≡ map string_bytes l.fn.names.items ++ input_names l.input
