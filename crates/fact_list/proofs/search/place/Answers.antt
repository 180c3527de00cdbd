use Rattle.std.proofs.Common.{◌+◌, ◌-◌, ◌/◌, ◌<◌, ◌∙◌, arith, sym}
use Rattle.fact_list.proofs.OrderedAtoms.{after-more, before-more}
use Rattle.fact_list.proofs.search.place.Goals as goal

pub loop-low-preserved-then-stands_before : goal.loop-low-preserved-then-stands_before
loop-low-preserved-then-stands_before c =
    let within = c.loop-low.invariant.within in
    let less = c.loop-low-test.true in
    let middle = c.loop-low.low + (c.loop-low.high - c.loop-low.low) / 2 in
    let below : middle < c.loop-low.high = omega arith in
    record {
      ordered = omega arith;
      within = within;
      before = before-more c.args.atom.now c.args.list.now middle c.index-list-middle.result (omega arith) c.index-list-middle.is c.requires
          (sym c.stands_before.ensures ∙ c.if-stands_before.true);
      after = c.loop-low.invariant.after;
    }

pub loop-low-preserved : goal.loop-low-preserved
loop-low-preserved c =
    let within = c.loop-low.invariant.within in
    let less = c.loop-low-test.true in
    let middle = c.loop-low.low + (c.loop-low.high - c.loop-low.low) / 2 in
    let below : middle < c.loop-low.high = omega arith in
    record {
      ordered = omega arith;
      within = omega arith;
      before = c.loop-low.invariant.before;
      after = after-more c.args.atom.now c.args.list.now middle c.index-list-middle.result (omega arith) c.index-list-middle.is c.requires
          (sym c.stands_before.ensures ∙ c.if-stands_before.false);
    }
