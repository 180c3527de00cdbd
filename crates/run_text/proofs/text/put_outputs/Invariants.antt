use Rattle.std.proofs.Common.{◌≡◌, ◌++◌, map, string_bytes, take}
use Rattle.run_text.specs.Outputs.{output_lines}
use Rattle.run_text.proofs.text.put_outputs.Given as goal

abbrev pub invariant-loop-at : goal.invariant-loop-at
invariant-loop-at l = l.text.items ≡ l.fn.text.items ++ output_lines (map string_bytes (take l.at l.names)) l.buffers.memory.outputs
