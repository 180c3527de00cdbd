use Rattle.std.proofs.Common.{◌≡◌, drop, true}
use Rattle.term_tree.specs.Modules.{outputs_scoped}
use Rattle.meaning_rows.proofs.scope.outputs_scoped.Given as goal

abbrev pub invariant-loop-output : goal.invariant-loop-output
invariant-loop-output l = outputs_scoped l.sizes l.tensors (drop l.output-index l.outputs) ≡ true → outputs_scoped l.sizes l.tensors l.outputs ≡ true
