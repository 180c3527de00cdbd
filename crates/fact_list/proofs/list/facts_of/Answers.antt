use Rattle.std.proofs.Common.{◌≡◌, ◌∙◌, ◌+◌, ◌-◌, ◌<◌, ◌≤◌, ◌⊎◌, inl, inr, ◌++◌, ap, sym, arith, length, length-append, drop, get_or, take}
use Rattle.fact_list.proofs.ListLaws.{followed-end, followed-next, followed-start, take-few}
use Rattle.fact_list.specs.Facts.{followed}
use Rattle.fact_list.proofs.list.facts_of.Goals as goal
use Rattle.fact_list.proofs.list.facts_of.Goals.{then-loop-i-test+else-len-lt-MOST, else-loop-i-test}

pub loop-i-init : goal.loop-i-init
loop-i-init c = record {
  within = omega arith;
  most = omega arith;
  rest = followed-start c.args.facts.now c.args.goal.now c.in_ok-atoms.field-0 c.new.result c.in_ok-list.list c.append.new.self (c.in_ok-atoms.ensures {u = tt})
      c.new.ensures (c.in_ok-list.ensures {u = tt})
      (c.in_ok-append.ensures {u = tt});
}

pub loop-i-preserved : goal.loop-i-preserved
loop-i-preserved c =
    let list = c.loop-i.list in
    let i = c.loop-i.i in
    let f = c.args.facts.now in
    let met = c.in_ok-met.met in
    let x = c.index-as_slice-i.result in
    let within : i < length list = omega (arith, c.loop-i-test.true, c.len.ensures) in
    let room : i < 2000 = omega (arith, within, c.if-len-lt-MOST.true, c.len-in-loop-i.ensures) in
    let is : x ≡ get_or list i x = c.index-as_slice-i.is ∙ ap (λ xs. get_or xs i x) c.as_slice.ensures in
    let m = c.in_ok-met.ensures {u = tt} in
    let more = c.in_ok-append-2.ensures {u = tt} in
    record {
      within = omega (arith, within, ap length more, length-append list met.facts);
      most = omega (arith, room);
      rest = (λ k. take (i + 1) (more k) ++ followed (2000 - (i + 1)) f met.atoms (drop (i + 1) (more k)))
          ∙ followed-next f list met.facts i x c.loop-i.atoms met.atoms within room is (ap (λ n. n.atoms) m) (ap (λ n. n.facts) m) ∙ c.loop-i.invariant.rest;
    }

pub returns-clause-is : goal.returns-clause-is
returns-clause-is c =
    let list = c.loop-i.list in
    let i = c.loop-i.i in
    let done : (length list ≤ i) ⊎ (2000 ≤ length list) = elim c.loop-i-test.branch [
      | then-loop-i-test+else-len-lt-MOST w ↦ inr (omega (arith, w.if-len-lt-MOST.false, w.len-in-loop-i.ensures))
      | else-loop-i-test w ↦ inl (omega (arith, w.loop-i-test.false, c.len.ensures))
    ] in
    c.shortened.ensures ∙ sym (followed-end c.args.facts.now list i c.loop-i.atoms c.loop-i.invariant.within c.loop-i.invariant.most done)
    ∙ c.loop-i.invariant.rest

pub returns-clause-few : goal.returns-clause-few
returns-clause-few c = omega (arith, ap length c.shortened.ensures, take-few 2000 c.loop-i.list)
