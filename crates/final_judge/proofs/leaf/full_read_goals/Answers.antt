use Rattle.std.proofs.Common.{◌+◌, ◌∙◌, ap, drop, subst, sym}
use Rattle.fact_list.proofs.Appending.{drop-item}
use Rattle.term_tree.specs.Shape.{Extents}
use Rattle.shape_rules.specs.Scopes.{given}
use Rattle.final_rules.specs.Goals.{full_read_claims}
use Rattle.final_judge.specs.Ready.{ReadStands}
use Rattle.final_judge.proofs.StandLaws.{deeper-stands, read-moves}
use Rattle.final_judge.proofs.leaf.full_read_goals.Goals as goal

pub one_deeper-requires : goal.one_deeper-requires
one_deeper-requires c =
    let l = c.loop-extent in
    let all = c.args.extents.now in
    let n = c.extent-item.result in
    let first = drop-item all l.extent-index n c.loop-extent-test.true c.extent-item.is in
    read-moves n (drop (l.extent-index + 1) all) l.read l.spot (subst (λ (ns : Extents). ReadStands ns l.read l.spot) first l.invariant.stands)

pub loop-extent-preserved : goal.loop-extent-preserved
loop-extent-preserved c =
    let l = c.loop-extent in
    let all = c.args.extents.now in
    let n = c.extent-item.result in
    let ns = drop (l.extent-index + 1) all in
    let ts = given c.args.shapes.now in
    let first = drop-item all l.extent-index n c.loop-extent-test.true c.extent-item.is in
    let s = subst (λ (ns : Extents). ReadStands ns l.read l.spot) first l.invariant.stands in
    record {
      stands = deeper-stands n ns l.read c.in_ok-read.read l.spot c.in_ok-spot.spot c.in_ok-read.ensures c.in_ok-spot.ensures.spot s;
      rest =
          (λ i. full_read_claims ns (c.in_ok-read.ensures i) (c.in_ok-spot.ensures.spot i) ts)
          ∙ ap (λ (ns : Extents). full_read_claims ns l.read l.spot ts) (sym first)
          ∙ l.invariant.rest;
    }
