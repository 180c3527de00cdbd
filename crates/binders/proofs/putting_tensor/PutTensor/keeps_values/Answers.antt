use Rattle.affine_index.specs.Normal.{is_normal, is_ordered}
use Rattle.term_tree.proofs.FormLaws.{every_form-weaker}
use Rattle.binders.proofs.PlainLaws.{sends_put_tensor}
use Rattle.binders.proofs.NormalLaws.{ordered_of}
use Rattle.binders.proofs.putting_tensor.PutTensor.keeps_values.Goals as goal

pub returns : goal.returns
returns c =
    let m = c.args.self.now in
    sends_put_tensor m.by m.under (every_form-weaker is_normal is_ordered ordered_of m.by c.told.ensures)
