use Rattle.std.proofs.Common.{◌≤◌, ◌⊎◌, inl, inr, length, drop, append_assoc, arith}
use Rattle.std.proofs.lemmas.List.{take_rest}
use Rattle.affine_index.proofs.ProductLaws.{factors-end}
use Rattle.affine_index.proofs.product.merged_factors.Goals as goal
use Rattle.affine_index.proofs.product.merged_factors.Goals.{then-loop-i-test+else-j-b, else-loop-i-test}

pub returns : goal.returns
returns c =
    let a = c.args.a.now in
    let b = c.args.b.now in
    let i = c.loop-i.i in
    let j = c.loop-i.j in
    let ended : (length a ≤ i) ⊎ (length b ≤ j) = elim c.loop-i-test.branch [
      | then-loop-i-test+else-j-b w ↦ inr (omega arith)
      | else-loop-i-test w ↦ inl (omega arith)
    ] in
    let rest = factors-end i j a b ended in
    let left = take_rest a i in
    let right = take_rest b j in
    let grouped = append_assoc c.loop-i.factors (drop i a) (drop j b) in
    let first = c.in_ok-push_copies.ensures {u = tt} in
    let second = c.in_ok-push_copies-2.ensures {u = tt} in
    cc (c.loop-i.invariant.rest)
