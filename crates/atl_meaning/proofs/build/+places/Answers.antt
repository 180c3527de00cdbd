use Rattle.std.proofs.Common.{◌∙◌, ◌∷◌, ◌++◌, [], ap, arith, sym, map}
use Rattle.atl_meaning.specs.Operations.{on_words}
use Rattle.atl_meaning.specs.Values.{meant}
use Rattle.atl_meaning.proofs.ListLaws.{map-last}
use Rattle.atl_meaning.proofs.PlaceLaws.{places-all, places-next}
use Rattle.atl_meaning.proofs.build.+places.Goals as goal

pub rows_by_places-loop-at-preserved : goal.rows_by_places-loop-at-preserved
rows_by_places-loop-at-preserved t c =
    let a = c.args.a.now in
    let b = c.args.b.now in
    let k = c.loop-at.at in
    let x = c.index-a-at.result in
    let y = c.index-b-at.result in
    record {
      within = omega arith;
      rows = ap (map meant) c.in_ok-push.ensures.ok ∙ map-last meant c.loop-at.rows c.in_ok-by_places.field-0
          ∙ (λ i. c.loop-at.invariant.rows i ++ c.in_ok-by_places.ensures i ∷ [])
          ∙ sym (places-next (on_words c.args.operation) a b k x y (omega arith) (omega arith) c.index-a-at.is c.index-b-at.is);
    }

pub rows_by_places-returns : goal.rows_by_places-returns
rows_by_places-returns t c = c.loop-at.invariant.rows ∙ places-all (on_words c.args.operation) c.args.a.now c.args.b.now c.loop-at.at (omega arith)
