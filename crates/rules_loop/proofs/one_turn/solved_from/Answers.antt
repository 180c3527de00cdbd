use Rattle.std.proofs.Common.{◌≡◌, ◌∙◌, Bool, IfOk, subst}
use Rattle.affine_index.specs.Form.{var_form}
use Rattle.affine_index.specs.Put.{shifted}
use Rattle.affine_index.specs.Sum.{difference_of, sum_of}
use Rattle.term_tree.specs.Shape.{same_form}
use Rattle.rules_loop.specs.OneTurn.{solution}
use Rattle.rules_loop.proofs.one_turn.solved_from.Goals as goal

pub returns : goal.returns
returns c =
    let g = c.args.g.now in
    let p : c.in_ok-sum.sum ≡ same_form g (sum_of (var_form 0) (shifted 0 1 c.args.rest)) =
    c.in_ok-sum.ensures {u = tt} ∙ (λ j. same_form g (sum_of (c.in_ok-i.ensures {u = tt} j) (c.in_ok-raised.ensures {u = tt} j))) in
    let q : c.in_ok-difference.difference ≡ same_form g (difference_of (shifted 0 1 c.args.rest) (var_form 0)) =
    c.in_ok-difference.ensures {u = tt} ∙ (λ j. same_form g (difference_of (c.in_ok-raised.ensures {u = tt} j) (c.in_ok-i.ensures {u = tt} j))) in
    subst (λ (x : Bool × Bool). IfOk c.solution.result (λ o. o ≡ solution x.0 x.1 c.args.rest)) (λ j. (p j, q j)) c.solution.ensures
