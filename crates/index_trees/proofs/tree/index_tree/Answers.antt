use Rattle.std.proofs.Common.{subst, IfOk}
use Rattle.affine_index.specs.declared.form.Items.{Items}
use Rattle.index_trees.specs.Value.{Computes}
use Rattle.index_trees.proofs.TreeFits.{normal-fits}
use Rattle.index_trees.proofs.TreeValue.{answer-computes}
use Rattle.index_trees.proofs.tree.index_tree.Goals as goal

pub form_tree-requires : goal.form_tree-requires
form_tree-requires c = normal-fits c.items.result.now c.items.ensures.normal

pub returns-clause-value : goal.returns-clause-value
returns-clause-value c =
    subst (λ (i : Items). IfOk c.form_tree.result (λ t. Computes c.args.loops i t)) c.items.ensures.form
    (answer-computes c.args.loops c.items.result.now c.form_tree.result c.form_tree.ensures)
