use Rattle.std.proofs.Common.{◌≡◌, ◌++◌, take}
use Rattle.std.specs.Prelude.{flat_map}
use Rattle.script_printer.specs.Script.{certificate_text}
use Rattle.script_printer.proofs.writer.Writer.put_certificates.Given as goal

abbrev pub invariant-loop-lines : goal.invariant-loop-lines
invariant-loop-lines l = l.self ≡ l.initial.self ++ flat_map certificate_text (take l.lines-index l.all)
