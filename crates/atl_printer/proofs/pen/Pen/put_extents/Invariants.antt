use Rattle.std.proofs.Common.{◌≡◌, drop}
use Rattle.atl_printer.specs.ModulePages.{in_turn, extent_page}
use Rattle.atl_printer.proofs.pen.Pen.put_extents.Given as goal

abbrev pub invariant-loop-extent : goal.invariant-loop-extent
invariant-loop-extent l = in_turn (extent_page l.sizes) (drop l.extent-index l.extents) l.self ≡ in_turn (extent_page l.sizes) l.extents l.fn.self
