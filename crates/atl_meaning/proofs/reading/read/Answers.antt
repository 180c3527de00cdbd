use Rattle.std.proofs.Common.{◌≡◌, ◌∙◌, ap}
use Rattle.term_tree.specs.Tensors.{rows_of, zeros}
use Rattle.term_tree.specs.Meaning.{row_at, tail_of}
use Rattle.atl_meaning.specs.Denoted.{extents_in, tensor_in}
use Rattle.atl_meaning.specs.Values.{meant}
use Rattle.atl_meaning.proofs.ListLaws.{zeros-row}
use Rattle.atl_meaning.proofs.ScopeLists.{twice-none}
use Rattle.atl_meaning.proofs.reading.read.Goals as goal

pub returns-in-Some-None : goal.returns-in-Some-None
returns-in-Some-None c =
    let s = c.args.sizes.now in
    let r = c.args.vars.now in
    let bs = c.args.bindings.now in
    let e = c.args.term.now in
    let ds = extents_in s e bs in
    ap (λ v. row_at (rows_of v) c.args.number (zeros (tail_of ds)))
    (twice-none c.find.result (tensor_in s e r bs ≡ zeros ds) (λ v. tensor_in s e r bs ≡ meant v.now) c.in-Some-None.field-0 c.in-Some-None.is
    c.in-Some-None.field-0-is c.find.ensures)
    ∙ zeros-row ds c.args.number
