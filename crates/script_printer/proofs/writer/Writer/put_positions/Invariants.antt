use Rattle.std.proofs.Common.{◌≡◌, ◌++◌, take}
use Rattle.std.specs.Prelude.{flat_map}
use Rattle.script_printer.specs.Script.{position_text}
use Rattle.script_printer.proofs.writer.Writer.put_positions.Given as goal

abbrev pub invariant-loop-position : goal.invariant-loop-position
invariant-loop-position l = l.self ≡ l.initial.self ++ flat_map position_text (take l.position-index l.all)
