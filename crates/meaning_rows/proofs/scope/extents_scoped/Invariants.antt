use Rattle.std.proofs.Common.{◌≡◌, drop}
use Rattle.term_tree.specs.Modules.{extents_scoped}
use Rattle.meaning_rows.proofs.scope.extents_scoped.Given as goal

abbrev pub invariant-loop-extent : goal.invariant-loop-extent
invariant-loop-extent l = extents_scoped l.sizes (drop l.extent-index l.extents) ≡ extents_scoped l.sizes l.extents
