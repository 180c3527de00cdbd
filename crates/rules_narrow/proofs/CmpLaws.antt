-- Comparisons one after another.
use Rattle.std.proofs.Common.{List, ◌++◌, Some, None}
use Rattle.std.specs.Prelude.{Option}
use Rattle.affine_index.specs.declared.cond.Cmp.{Cmp}

-- comparisons behind others, where there are some
abbrev pub behind_all : List Cmp → Option (List Cmp) → Option (List Cmp)
behind_all cs (Some ds) = Some (cs ++ ds)
behind_all cs None = None
