use Rattle.std.proofs.Common.{subst, IfOk}
use Rattle.affine_index.specs.Form.{var_form}
use Rattle.affine_index.specs.declared.form.Items.{Items}
use Rattle.path_focus.specs.Making.{in_tile}
use Rattle.rules_shape_tensor.specs.Formed.{IsFormed}
use Rattle.rules_shape_tensor.proofs.columns.place.Goals as goal

pub returns : goal.returns
returns c =
    subst (λ (p : Items). IfOk c.formed.result (IsFormed (in_tile c.args.k p (var_form 0)))) (c.in_ok-x.ensures {u = tt})
    (subst (λ (q : Items). IfOk c.formed.result (IsFormed (in_tile c.args.k c.in_ok-x.x q))) (c.in_ok-j.ensures {u = tt})
    (c.formed.ensures (in_tile c.args.k c.in_ok-x.x c.in_ok-j.j) c.in_tile.ensures))
