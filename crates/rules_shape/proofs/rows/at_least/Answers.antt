use Rattle.std.proofs.Common.{◌≡◌, IfOk, subst}
use Rattle.affine_index.specs.Sum.{difference_of}
use Rattle.affine_index.specs.declared.form.Items.{Items}
use Rattle.std.specs.Prelude.{Option}
use Rattle.rules_shape.proofs.rows.at_least.Goals as goal

pub returns : goal.returns
returns c =
    subst (λ (g : Option Items). IfOk c.condition.result (λ d. d ≡ record { goal = g; facts = c.args.facts.now }))
    (c.in_ok-goal.ensures {u = tt} (difference_of c.args.x.now c.args.n.now) c.sub.ensures.form) c.condition.ensures
