use Rattle.std.proofs.Common.{◌≡◌, ◌++◌, take}
use Rattle.std.specs.Prelude.{flat_map}
use Rattle.script_printer.specs.Script.{and_comparison}
use Rattle.script_printer.proofs.writer.Writer.put_further_comparisons.Given as goal

abbrev pub invariant-loop-comparison : goal.invariant-loop-comparison
invariant-loop-comparison l = l.self ≡ l.initial.self ++ flat_map and_comparison (take l.comparison-index l.all)
