use Rattle.std.proofs.Common.{◌∙◌}
use Rattle.fact_list.proofs.DeclaredLaws.{cmps-fit, moved-next}
use Rattle.fact_list.proofs.declared.moved_facts.Goals as goal

pub push_moved-requires : goal.push_moved-requires
push_moved-requires c = (cmps-fit c.args.by c.args.cmps.now c.loop-cmp.cmp-index c.cmp-item.result c.loop-cmp-test.true c.cmp-item.is
    c.loop-cmp.invariant.fit).0

pub loop-cmp-preserved : goal.loop-cmp-preserved
loop-cmp-preserved c = record {
  fit = (cmps-fit c.args.by c.args.cmps.now c.loop-cmp.cmp-index c.cmp-item.result c.loop-cmp-test.true c.cmp-item.is c.loop-cmp.invariant.fit).1;
  rest = moved-next c.args.by c.args.cmps.now c.loop-cmp.cmp-index c.cmp-item.result c.loop-cmp.list c.push_moved.new.list c.loop-cmp-test.true c.cmp-item.is
      (c.in_ok-push_moved.ensures {u = tt}) ∙ c.loop-cmp.invariant.rest;
}
