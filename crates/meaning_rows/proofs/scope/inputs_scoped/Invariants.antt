use Rattle.std.proofs.Common.{◌≡◌, drop}
use Rattle.term_tree.specs.Modules.{inputs_scoped}
use Rattle.meaning_rows.proofs.scope.inputs_scoped.Given as goal

abbrev pub invariant-loop-input : goal.invariant-loop-input
invariant-loop-input l = inputs_scoped l.sizes (drop l.input-index l.inputs) ≡ inputs_scoped l.sizes l.inputs
