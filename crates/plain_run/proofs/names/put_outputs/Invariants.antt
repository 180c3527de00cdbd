use Rattle.std.proofs.Common.{◌≡◌, ◌++◌, map, string_bytes, take}
use Rattle.source_grammar.specs.Source.{output_names}
use Rattle.plain_run.proofs.names.put_outputs.Given as goal

abbrev pub invariant-loop-output : goal.invariant-loop-output
invariant-loop-output l = map string_bytes l.names.items ≡ map string_bytes l.fn.names.items ++ output_names (take l.output-index l.outputs)
