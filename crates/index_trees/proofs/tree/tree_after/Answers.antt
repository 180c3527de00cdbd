use Rattle.std.proofs.Common.{subst, IfOk}
use Rattle.affine_index.specs.declared.form.Items.{Items}
use Rattle.index_trees.specs.Value.{ComputesSum}
use Rattle.index_trees.proofs.TreeFits.{normal-fits}
use Rattle.index_trees.proofs.TreeValue.{answer-computes-sum}
use Rattle.index_trees.proofs.tree.tree_after.Goals as goal

pub form_after-requires : goal.form_after-requires
form_after-requires c = normal-fits c.items.result.now c.items.ensures.normal

pub returns-clause-value : goal.returns-clause-value
returns-clause-value c =
    subst (λ (i : Items). IfOk c.form_after.result (λ t. ComputesSum c.args.loops c.args.first i t)) c.items.ensures.form
    (answer-computes-sum c.args.loops c.args.first c.items.result.now c.form_after.result c.form_after.ensures)
