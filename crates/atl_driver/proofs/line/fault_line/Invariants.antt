use Rattle.std.proofs.Common.{◌≡◌, ◌++◌, string_bytes, take}
use Rattle.std.specs.Prelude.{flat_map}
use Rattle.atl_driver.specs.Line.{field_text, fault_head}
use Rattle.atl_driver.proofs.line.fault_line.Given as goal

abbrev pub invariant-loop-field : goal.invariant-loop-field
invariant-loop-field l = string_bytes l.line ≡ fault_head l.fn.fault.number ++ flat_map field_text (take l.field-index l.field-items)
