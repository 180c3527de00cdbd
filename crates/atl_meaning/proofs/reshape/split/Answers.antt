use Rattle.std.proofs.Common.{◌∙◌, ◌∷◌, ◌++◌, ◌+◌, ◌-◌, [], ap, append_assoc, arith, drop, get_or, map, sym}
use Rattle.term_tree.specs.Tensors.{from_rows, tabulate, zeros}
use Rattle.term_tree.specs.Meaning.{chunks}
use Rattle.atl_meaning.specs.Values.{meant}
use Rattle.atl_meaning.proofs.ListLaws.{chunks-next, map-drop, map-last}
use Rattle.atl_meaning.proofs.reshape.split.Goals as goal

pub loop-preserved : goal.loop-preserved
loop-preserved c =
    let z = zeros c.args.extents.now in
    let k = c.args.k in
    let left = c.args.count - (c.loop.counter + 1) in
    let all = map meant c.loop.all in
    let rest = map meant c.loop.rest.now in
    let row = from_rows (tabulate k (λ i. get_or rest i z)) in
    ap (λ xs. map meant xs ++ chunks left k z (map meant c.after-rest.result.now)) c.in_ok-push.ensures.ok
    ∙ (λ i. map-last meant c.loop.all c.in_ok-chunk.field-0 i ++ chunks left k z ((ap (map meant) c.after-rest.ensures ∙ map-drop meant k c.loop.rest.now) i))
    ∙ (λ i. (all ++ c.in_ok-chunk.ensures i ∷ []) ++ chunks left k z (drop k rest))
    ∙ append_assoc all (row ∷ []) (chunks left k z (drop k rest))
    ∙ ap (λ rows. all ++ rows) (sym (chunks-next c.args.count c.loop.counter k z rest (omega arith)))
    ∙ c.loop.invariant
