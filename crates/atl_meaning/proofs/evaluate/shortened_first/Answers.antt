use Rattle.std.proofs.Common.{◌∙◌, ap, drop}
use Rattle.std.proofs.lemmas.Result.{IfOk-weaker}
use Rattle.term_tree.specs.Tensors.{from_rows, rows_of}
use Rattle.atl_meaning.specs.Values.{meant}
use Rattle.atl_meaning.proofs.evaluate.shortened_first.Goals as goal

pub returns : goal.returns
returns c =
    let tensor = c.in_ok-tensor.tensor in
    IfOk-weaker c.without_first.result _ _
    (λ v e. (tensor, c.in_ok-tensor.was {u = tt}, e ∙ ap (λ n. from_rows (drop n (rows_of (meant tensor)))) c.extent.ensures)) c.without_first.ensures
