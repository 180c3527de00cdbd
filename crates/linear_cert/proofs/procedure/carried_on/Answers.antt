use Rattle.std.proofs.Common.{◌≡◌, ◌∙◌, ℕ, suc, ◌+◌, ◌-◌, List, [], Option, Some, None, IfOk, ap, sym, subst, arith, length}
use Rattle.std.specs.Prelude.{IfSome}
use Rattle.fact_list.proofs.Appending.{no-length}
use Rattle.linear_cert.proofs.ProcedureLaws.{carried-done, carried-end, carried-next}
use Rattle.linear_cert.specs.Room.{Room}
use Rattle.linear_cert.specs.declared.attempt.Attempt.{Attempt}
use Rattle.linear_cert.specs.declared.lines.Line.{Line}
use Rattle.linear_cert.proofs.procedure.carried_on.Goals as goal

pub returns-then-len-eq0 : goal.returns-then-len-eq0
returns-then-len-eq0 c =
    let a = c.loop-count.attempt in
    let none = no-length a.left.terms (sym (c.len.ensures ∙ ap length c.terms.ensures) ∙ c.if-len-eq0.true) in
    subst (λ (o : Option (List Line)). IfOk c.finished.result (λ lines. lines ≡ o))
    (sym (carried-done (512 - c.loop-count._count) c.args.facts.now a none) ∙ c.loop-count.invariant.rest) c.finished.ensures

pub returns-in-None : goal.returns-in-None
returns-in-None c =
    let a = c.loop-count.attempt in
    let some : (a.left.terms ≡ []) → ⊥ = λ e. c.if-len-eq0.false (c.len.ensures ∙ ap length (c.terms.ensures ∙ e)) in
    carried-next c.loop-count._count c.args.facts.now a None c.loop-count-test.true some (sym c.in-None.is ∙ c.in_ok-next.ensures.is)
    ∙ c.loop-count.invariant.rest

pub loop-count-preserved : goal.loop-count-preserved
loop-count-preserved c =
    let a = c.loop-count.attempt in
    let i = c.loop-count._count in
    let some : (a.left.terms ≡ []) → ⊥ = λ e. c.if-len-eq0.false (c.len.ensures ∙ ap length (c.terms.ensures ∙ e)) in
    let room = subst (λ (o : Option Attempt). IfSome o (λ b. Room c.args.facts.now (suc i) b)) c.in-Some.is
    (c.in_ok-next.ensures.room i c.requires.normal c.loop-count.invariant.room) in
    let turn : suc i ≡ i + 1 = omega arith in
    record {
      room = subst (λ (n : ℕ). Room c.args.facts.now n c.in-Some.next) turn room;
      rest = carried-next i c.args.facts.now a (Some c.in-Some.next) c.loop-count-test.true some (sym c.in-Some.is ∙ c.in_ok-next.ensures.is)
          ∙ c.loop-count.invariant.rest;
    }

pub returns-then-len-gt0 : goal.returns-then-len-gt0
returns-then-len-gt0 c =
    let a = c.loop-count.attempt in
    let some : (a.left.terms ≡ []) → ⊥ = λ e. let none = c.len-2.ensures ∙ ap length (c.terms-2.ensures ∙ e) in omega (arith, c.if-len-gt0.true, none) in
    sym (carried-end c.loop-count._count c.args.facts.now a (omega (arith, c.loop-count-test.false)) some) ∙ c.loop-count.invariant.rest

pub returns : goal.returns
returns c =
    let a = c.loop-count.attempt in
    let none = no-length a.left.terms (omega (arith, ap length c.terms-2.ensures, c.len-2.ensures, c.if-len-gt0.false)) in
    subst (λ (o : Option (List Line)). IfOk c.finished-2.result (λ lines. lines ≡ o))
    (sym (carried-done (512 - c.loop-count._count) c.args.facts.now a none) ∙ c.loop-count.invariant.rest) c.finished-2.ensures
