use Rattle.std.proofs.Common.{◌≡◌, ◌∙◌, ◌++◌, ap, true}
use Rattle.std.proofs.lemmas.Result.{IfOk-at_ok, IfOk-weaker}
use Rattle.term_tree.specs.Meaning.{tail_of}
use Rattle.term_tree.specs.Tensors.{copies, from_rows, rows_of, zeros}
use Rattle.atl_meaning.specs.Denoted.{fits_in}
use Rattle.atl_meaning.specs.Values.{meant}
use Rattle.atl_meaning.proofs.evaluate.padded_behind.Goals as goal

pub extents-requires-clause-fits : goal.extents-requires-clause-fits
extents-requires-clause-fits c =
    IfOk-at_ok (λ _. fits_in c.args.sizes.now c.args.term.now c.args.bindings.now ≡ true) (c.in_ok-tensor.was {u = tt}) c.requires.fits

pub returns-clause-value : goal.returns-clause-value
returns-clause-value c =
    let tensor = c.in_ok-tensor.tensor in
    let found = c.in_ok-found.ensures.extents in
    let rest = c.tail_of.ensures ∙ ap tail_of (c.as_slice.ensures ∙ found) in
    IfOk-weaker c.zeros_behind.result _ _
    (λ v e. (tensor, c.in_ok-tensor.was {u = tt}, e ∙ (λ i. from_rows (rows_of (meant tensor) ++ copies (c.extent.ensures i) (zeros (rest i))))))
    c.zeros_behind.ensures
