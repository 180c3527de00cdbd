use Rattle.std.proofs.Common.{◌≡◌, ◌∙◌, ap, true}
use Rattle.std.proofs.lemmas.Result.{IfOk-at_ok, IfOk-weaker}
use Rattle.term_tree.specs.Meaning.{columns, head_of, tail_of}
use Rattle.term_tree.specs.Tensors.{from_rows, rows_of, zeros}
use Rattle.atl_meaning.specs.Denoted.{fits_in}
use Rattle.atl_meaning.specs.Values.{meant}
use Rattle.atl_meaning.proofs.evaluate.transposed.Goals as goal

pub extents-requires-clause-fits : goal.extents-requires-clause-fits
extents-requires-clause-fits c =
    IfOk-at_ok (λ _. fits_in c.args.sizes.now c.args.term.now c.args.bindings.now ≡ true) (c.in_ok-tensor.was {u = tt}) c.requires.fits

pub returns-clause-value : goal.returns-clause-value
returns-clause-value c =
    let tensor = c.in_ok-tensor.tensor in
    let found = c.in_ok-found.ensures.extents in
    let rest = c.tail_of-rest.ensures ∙ ap tail_of (c.as_slice.ensures ∙ found) in
    let count = c.head_of.ensures ∙ ap head_of rest in
    let more = c.tail_of.ensures ∙ ap tail_of rest in
    IfOk-weaker c.transpose.result _ _
    (λ v e. (tensor, c.in_ok-tensor.was {u = tt}, e ∙ (λ i. from_rows (columns (count i) (zeros (more i)) (rows_of (meant tensor)))))) c.transpose.ensures
