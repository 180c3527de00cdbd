use Rattle.std.proofs.Common.{◌+◌, ◌-◌, ◌/◌, ◌<◌, ◌≡◌, ℕ, arith, drop, subst, ap, ◌∙◌}
use Rattle.std.specs.Ordering.{is_lt}
use Rattle.affine_index.proofs.Factors.{AtMost}
use Rattle.affine_index.proofs.Induction.{Each}
use Rattle.linear_cert.proofs.RoleLaws.{after-next, before-next, keys-length, last-none}
use Rattle.linear_cert.specs.Roles.{keys, role_atom, role_order, wanted_role}
use Rattle.linear_cert.proofs.roles.place.Goals as goal

pub loop-low-init : goal.loop-low-init
loop-low-init c = record {
  ordered = omega arith;
  within = omega arith;
  before = tt;
  after = last-none c.args.facts.now (AtMost (role_atom (wanted_role c.args.wanted))) c.args.places.now;
}

pub loop-low-preserved-then-is_less : goal.loop-low-preserved-then-is_less
loop-low-preserved-then-is_less c =
    let within = c.loop-low.invariant.within in
    let less = c.loop-low-test.true in
    let r = wanted_role c.args.wanted in
    let middle = c.loop-low.low + (c.loop-low.high - c.loop-low.low) / 2 in
    let below : middle < c.loop-low.high = omega arith in
    record {
      ordered = omega arith;
      within = within;
      before = before-next c.args.facts.now r c.args.places.now middle c.is_less.result c.requires.sorted (omega arith)
          (c.is_less.ensures ∙ ap (λ x. is_lt (role_order x r)) c.role_at.ensures) c.if-is_less.true;
      after = c.loop-low.invariant.after;
    }

pub loop-low-preserved : goal.loop-low-preserved
loop-low-preserved c =
    let within = c.loop-low.invariant.within in
    let less = c.loop-low-test.true in
    let r = wanted_role c.args.wanted in
    let middle = c.loop-low.low + (c.loop-low.high - c.loop-low.low) / 2 in
    let below : middle < c.loop-low.high = omega arith in
    record {
      ordered = omega arith;
      within = omega arith;
      before = c.loop-low.invariant.before;
      after = after-next c.args.facts.now r c.args.places.now middle c.is_less.result c.requires.sorted (omega arith)
          (c.is_less.ensures ∙ ap (λ x. is_lt (role_order x r)) c.role_at.ensures) c.if-is_less.false;
    }

pub returns : goal.returns
returns c =
    let ordered = c.loop-low.invariant.ordered in
    let within = c.loop-low.invariant.within in
    let is : c.loop-low.high ≡ c.loop-low.low = omega (arith, ordered, c.loop-low-test.false) in
    record {
      within = omega (arith, ordered, within, keys-length c.args.facts.now c.args.places.now);
      before = c.loop-low.invariant.before;
      after = subst (λ (n : ℕ). Each (AtMost (role_atom (wanted_role c.args.wanted))) (drop n (keys c.args.facts.now c.args.places.now))) is
          c.loop-low.invariant.after;
    }
