use Rattle.std.proofs.Common.{subst, IfOk}
use Rattle.affine_index.specs.declared.form.Items.{Items}
use Rattle.path_focus.specs.Outcome.{IsDraft}
use Rattle.term_tree.specs.Syntax.{gen}
use Rattle.rules_shape_tensor.proofs.columns.chunk.Goals as goal

pub returns : goal.returns
returns c = λ e h. subst (λ (n : Items). IfOk c.gen_with.result (IsDraft (gen n e))) (c.in_ok-n.ensures {u = tt}) (c.gen_with.ensures e h)
