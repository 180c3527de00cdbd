use Rattle.std.proofs.Common.{◌≡◌, ◌++◌, take}
use Rattle.std.specs.Prelude.{flat_map}
use Rattle.script_printer.specs.Script.{further_path}
use Rattle.script_printer.proofs.writer.Writer.put_further_paths.Given as goal

abbrev pub invariant-loop-path : goal.invariant-loop-path
invariant-loop-path l = l.self ≡ l.initial.self ++ flat_map further_path (take l.path-index l.all)
