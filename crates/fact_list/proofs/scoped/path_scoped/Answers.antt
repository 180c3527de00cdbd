use Rattle.std.proofs.Common.{◌∙◌, ◌+◌, [], ap, sym, drop, arith}
use Rattle.fact_list.proofs.Appending.{drop-item}
use Rattle.fact_list.proofs.ScopedLaws.{binder-few, step-false, step-next}
use Rattle.fact_list.specs.Scoped.{path_scoped}
use Rattle.fact_list.proofs.scoped.path_scoped.Goals as goal

pub returns-then-not-step_scoped : goal.returns-then-not-step_scoped
returns-then-not-step_scoped c =
    let s = c.args.sizes in
    let ps = c.args.path.now in
    let i = c.loop-fact.fact-index in
    let p = c.fact-item.result in
    let d = c.loop-fact.depth in
    sym (ap (path_scoped s d) (drop-item ps i p c.loop-fact-test.true c.fact-item.is)
    ∙ step-false s d p (drop (i + 1) ps) (sym c.step_scoped.ensures ∙ c.if-not-step_scoped.true))
    ∙ c.loop-fact.invariant.rest

pub loop-fact-preserved : goal.loop-fact-preserved
loop-fact-preserved c =
    let s = c.args.sizes in
    let ps = c.args.path.now in
    let i = c.loop-fact.fact-index in
    let p = c.fact-item.result in
    let d = c.loop-fact.depth in
    record {
      few = omega (arith, c.loop-fact.invariant.few, binder-few p c.binder_count-depth.result (c.binder_count-depth.ensures []));
      rest = step-next s d c.binder_count-depth.result p (drop (i + 1) ps) (c.binder_count-depth.ensures [])
          (sym c.step_scoped.ensures ∙ c.if-not-step_scoped.false)
          ∙ sym (ap (path_scoped s d) (drop-item ps i p c.loop-fact-test.true c.fact-item.is)) ∙ c.loop-fact.invariant.rest;
    }

pub overflow_add-depth : goal.overflow_add-depth
overflow_add-depth c = omega (
  arith,
  c.loop-fact.invariant.few,
  binder-few c.fact-item.result c.binder_count-depth.result (c.binder_count-depth.ensures []),
  c.loop-fact-test.true,
  c.loop-fact.auto.fact-index-end,
)
