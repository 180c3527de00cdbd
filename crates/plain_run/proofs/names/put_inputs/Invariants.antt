use Rattle.std.proofs.Common.{◌≡◌, ◌++◌, map, string_bytes, take}
use Rattle.source_grammar.specs.Source.{input_names}
use Rattle.plain_run.proofs.names.put_inputs.Given as goal

abbrev pub invariant-loop-input : goal.invariant-loop-input
invariant-loop-input l = map string_bytes l.names.items ≡ map string_bytes l.fn.names.items ++ input_names (take l.input-index l.inputs)
