use Rattle.std.proofs.Common.{◌≡◌, ◌∙◌, IfOk, ap, rules, subst, sym}
use mir.Syntax.{w128}
use mir.Val.{SFits}
use Rattle.std.proofs.lemmas.Int.{to_z-of_z}
use Rattle.term_tree.specs.Meaning.{row_at, tail_of}
use Rattle.term_tree.specs.Tensors.{Tensor, rows_of, zeros}
use Rattle.atl_meaning.specs.Denoted.{extents_in}
use Rattle.atl_meaning.specs.Values.{meant}
use Rattle.atl_meaning.proofs.evaluate.row_or_zeros.Goals as goal

pub returns-in-None-clause-value : goal.returns-in-None-clause-value
returns-in-None-clause-value c =
    let z = zeros (tail_of (extents_in c.args.sizes.now c.args.term.now c.args.bindings.now)) in
    let fits : SFits w128 c.args.number = search rules in
    let number = to_z-of_z w128 c.args.number fits in
    subst (λ (x : Tensor). IfOk c.zero_row.result (λ v. meant v ≡ x))
    (sym (ap (λ n. row_at (rows_of (meant c.args.tensor.now)) n z) (sym number) ∙ c.in-None.ensures z)) c.zero_row.ensures.value
