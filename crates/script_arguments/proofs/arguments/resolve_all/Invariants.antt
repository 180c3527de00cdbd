use Rattle.std.proofs.Common.{◌≡◌, map, take}
use Rattle.script_arguments.specs.Arguments.{arguments_at}
use Rattle.script_arguments.proofs.arguments.resolve_all.Given as goal

abbrev pub invariant-loop-tree : goal.invariant-loop-tree
invariant-loop-tree l = l.all ≡ arguments_at (map (λ d. d.name) l.sizes) l.focus l.rule (take l.tree-index l.trees)
