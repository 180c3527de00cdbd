use Rattle.std.proofs.Common.{ap, sym, ◌∙◌}
use Rattle.affine_index.specs.Normal.{is_normal}
use Rattle.affine_index.specs.Put.{given}
use Rattle.binders.proofs.PlainLaws.{sends_put_index}
use Rattle.binders.proofs.NormalLaws.{ordered_of}
use Rattle.binders.proofs.putting_index.PutIndex.keeps_values.Goals as goal

pub returns : goal.returns
returns c =
    let m = c.args.self.now in
    sends_put_index m.by m.under (λ k l. ordered_of (given m.by k) (ap (λ by. is_normal (given by k)) (sym c.as_slice.ensures) ∙ c.all_told.ensures k))
