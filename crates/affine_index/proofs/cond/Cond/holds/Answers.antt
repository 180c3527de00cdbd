use Rattle.std.proofs.Common.{◌∙◌, ap}
use Rattle.affine_index.specs.Condition.{all_limited}
use Rattle.affine_index.proofs.ConditionLaws.{holds-value}
use Rattle.affine_index.proofs.cond.Cond.holds.Goals as goal

pub returns-clause-value : goal.returns-clause-value
returns-clause-value c = holds-value c.args.sizes.now c.args.vars.now c.args.self.now.all c.all_hold.result
    (c.all_hold.ensures ∙ ap (all_limited c.args.sizes.now c.args.vars.now) c.as_slice.ensures)
