use Rattle.std.proofs.Common.{◌≡◌, ◌++◌, map, string_bytes, take}
use Rattle.source_grammar.specs.Source.{size_names}
use Rattle.plain_run.proofs.names.put_sizes.Given as goal

abbrev pub invariant-loop-size : goal.invariant-loop-size
invariant-loop-size l = map string_bytes l.names.items ≡ map string_bytes l.fn.names.items ++ size_names (take l.size-index l.sizes)
