use Rattle.std.proofs.Common.{◌∙◌, ap}
use Rattle.affine_index.specs.Limited.{items_scoped}
use Rattle.affine_index.specs.Sum.{difference_of}
use Rattle.shape_rows.proofs.RowLaws.{less_one_scoped}
use Rattle.shape_rows.proofs.tests.less_one.Goals as goal

pub returns : goal.returns
returns c =
    ap (items_scoped 1 0)
    (c.in_ok-form.ensures.form
    ∙ (λ i. difference_of (c.in_ok-size.ensures {u = tt} i) (c.in_ok-one.ensures {u = tt} i)))
    ∙ less_one_scoped
