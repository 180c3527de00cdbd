use Rattle.std.proofs.Common.{◌≡◌, ◌∙◌, ◌+◌, ◌&&◌, Some, [], ap, arith, drop, sym}
use Rattle.std.proofs.lemmas.Bool.{and_parts}
use Rattle.atl_meaning.specs.Exact.{counted, exact, outputs_exact}
use Rattle.atl_meaning.specs.Turns.{spent, turn_fold, turn_folds}
use Rattle.atl_meaning.proofs.ListLaws.{drop-next}
use Rattle.atl_meaning.proofs.TurnLaws.{spent-both}
use Rattle.atl_meaning.proofs.outputs.left_of_limit.Goals as goal

pub loop-output-preserved : goal.loop-output-preserved
loop-output-preserved c =
    let s = c.args.sizes.now in
    let os = c.args.outputs.now in
    let k = c.loop-output.output-index in
    let o = c.output-item.result in
    let left = c.loop-output.left in
    let rest = drop (k + 1) os in
    let e = drop-next os k o (omega arith) c.output-item.is in
    let parts = and_parts (counted s o.term && exact s o.term []) (outputs_exact s rest) (ap (outputs_exact s) (sym e) ∙ c.loop-output.invariant.exact) in
    let some : spent (turn_fold s o.term []) left ≡ Some c.in-Some.rest = ap (λ r. spent (turn_fold s o.term r) left) (sym c.loop-output.invariant.vars)
    ∙ sym c.in_ok-rest.ensures.left ∙ c.in-Some.is in
    record {
      vars = c.in_ok-rest.ensures.vars ∙ c.loop-output.invariant.vars;
      exact = parts.1;
      rest = spent-both (turn_fold s o.term []) (turn_folds s rest) left c.in-Some.rest some
          ∙ ap (λ os. spent (turn_folds s os) left) (sym e) ∙ c.loop-output.invariant.rest;
    }
