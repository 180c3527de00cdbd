use Rattle.std.proofs.Common.{◌≡◌, ◌∙◌, ap, sym, ◌++◌, append_assoc}
use Rattle.affine_index.proofs.MergeLaws.{merged-end}
use Rattle.std.specs.Prelude.{None}
use Rattle.affine_index.specs.Wide.{first_order}
use Rattle.affine_index.proofs.merge.merge.Goals as goal

pub returns : goal.returns
returns c =
    let a = c.loop-order.a in
    let b = c.loop-order.b in
    let e : first_order a b ≡ None = cc (c.first_order.ensures, c.in_default.is) in
    c.in_ok-append-2.ensures {u = tt} ∙ ap (λ x. x ++ b) (c.in_ok-append.ensures {u = tt}) ∙ append_assoc c.loop-order.items a b
    ∙ ap (λ x. c.loop-order.items ++ x) (sym (merged-end a b e)) ∙ c.loop-order.invariant.rest
