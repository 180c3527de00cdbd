use Rattle.std.proofs.Common.{◌≡◌, ◌++◌, take}
use Rattle.std.specs.Prelude.{flat_map}
use Rattle.script_printer.specs.Script.{further_argument}
use Rattle.script_printer.proofs.writer.Writer.put_further_arguments.Given as goal

abbrev pub invariant-loop-argument : goal.invariant-loop-argument
invariant-loop-argument l = l.self ≡ l.initial.self ++ flat_map further_argument (take l.argument-index l.all)
