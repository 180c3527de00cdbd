use Rattle.std.proofs.Common.{◌≡◌, ◌++◌, take, map}
use Rattle.std.specs.List.{flat_map}
use Rattle.c_print.specs.Program.{after_comma, buffer_parameter}
use Rattle.c_print.proofs.writer.Writer.put_further_buffers.Given as goal

abbrev pub invariant-loop-buffer : goal.invariant-loop-buffer
invariant-loop-buffer l = l.self ≡ l.initial.self ++ flat_map after_comma (map buffer_parameter (take l.buffer-index l.all))
