-- Where a term stands in the walk of printed indices.
use Rattle.std.specs.Prelude.{◌∷◌}
use Rattle.affine_index.specs.Sum.{sum_of}
use Rattle.affine_index.specs.declared.form.Items.{Items}
use Rattle.reindexer.specs.Limited.{Limited}
use Rattle.reindexer.specs.Places.{limited_place}
use Rattle.final_rules.specs.Places.{Place, Site, frames_of}
use Rattle.final_rules.specs.Printed.{behind}
use Rattle.final_rules.specs.Printing.{scene_sites}
use Rattle.final_rules.specs.declared.printing.Scene.{Scene}
use Rattle.final_rules.specs.declared.spot.Spot.{Spot}
use Rattle.index_limits.specs.declared.stores.Room.{Room}
use Rattle.index_limits.specs.declared.stores.Target.{Target}

abbrev pub site_of : Target → Site
site_of t = record { extents = t.extents; offset = t.offset }

-- where scratch is free: behind so many words at an offset
abbrev pub free_of : Room → Items
free_of r = sum_of r.base r.above

-- a node at a spot of a target, where the tensors of a scene are in scope, and scratch is free from a place on
abbrev pub place_at : Scene → Target → Items → Spot → Place
place_at scene t free q = record { spot = q; sites = scene_sites scene; target = site_of t; free = free }

-- inside a let, whose tensor is the innermost
abbrev pub under : Target → Scene → Scene
under t scene = record { shapes = record { lets = t.extents ∷ scene.shapes.lets; inputs = scene.shapes.inputs }; offsets = t.offset ∷ scene.offsets }

-- the place of a leaf in its target
abbrev pub stored_at : Target → Spot → Limited Items
stored_at t q = behind t.offset (limited_place (frames_of q) t.extents)
