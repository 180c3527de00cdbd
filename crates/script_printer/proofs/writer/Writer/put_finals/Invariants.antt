use Rattle.std.proofs.Common.{◌≡◌, ◌++◌, take}
use Rattle.std.specs.Prelude.{flat_map}
use Rattle.script_printer.specs.Script.{final_text}
use Rattle.script_printer.proofs.writer.Writer.put_finals.Given as goal

abbrev pub invariant-loop-line : goal.invariant-loop-line
invariant-loop-line l = l.self ≡ l.initial.self ++ flat_map final_text (take l.line-index l.all)
