use Rattle.std.proofs.Common.{◌≡◌, ◌++◌, string_bytes, take}
use Rattle.std.specs.Prelude.{decimal, flat_map}
use Rattle.atl_driver.specs.Line.{step_text}
use Rattle.atl_driver.proofs.line.path_text.Given as goal

abbrev pub invariant-loop-step : goal.invariant-loop-step
invariant-loop-step l = string_bytes l.text ≡ decimal l.fn.path.output ++ flat_map step_text (take l.step-index l.step-items)
