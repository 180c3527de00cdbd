use Rattle.binders.specs.Answers.{form_causes}
use Rattle.binders.proofs.AnswerLaws.{eq_none, eq_some, ge_none, ge_some}
use Rattle.binders.proofs.replacement.put_cmp.Goals as goal

pub returns-in-Some : goal.returns-in-Some
returns-in-Some g c =
    let m = g.M.VarMap.meaning c.args.map.now in
    let r = g.M.VarMap.refusals c.args.map.now in
    let d = c.args.depths in
    ge_some m d.index d.tensor c.args.cmp.now c.in-Ge.x c.in_ok-x-in-Ge.field-0 (λ e. form_causes m r e d.index d.tensor c.in-Ge.x)
    (c.in_ok-x-in-Ge.ensures {u = tt})
    c.in-Some.x c.in-Ge.is c.in-Some.is

pub returns-in-None : goal.returns-in-None
returns-in-None g c =
    let m = g.M.VarMap.meaning c.args.map.now in
    let r = g.M.VarMap.refusals c.args.map.now in
    let d = c.args.depths in
    ge_none m d.index d.tensor c.args.cmp.now c.in-Ge.x c.in_ok-x-in-Ge.field-0 (λ e. form_causes m r e d.index d.tensor c.in-Ge.x)
    (c.in_ok-x-in-Ge.ensures {u = tt})
    c.in-Ge.is c.in-None.is

pub returns-in-Some-2 : goal.returns-in-Some-2
returns-in-Some-2 g c =
    let m = g.M.VarMap.meaning c.args.map.now in
    let r = g.M.VarMap.refusals c.args.map.now in
    let d = c.args.depths in
    eq_some m d.index d.tensor c.args.cmp.now c.in-Eq.x c.in_ok-x-in-Eq.field-0 (λ e. form_causes m r e d.index d.tensor c.in-Eq.x)
    (c.in_ok-x-in-Eq.ensures {u = tt})
    c.in-Some-2.x c.in-Eq.is c.in-Some-2.is

pub returns-in-None-2 : goal.returns-in-None-2
returns-in-None-2 g c =
    let m = g.M.VarMap.meaning c.args.map.now in
    let r = g.M.VarMap.refusals c.args.map.now in
    let d = c.args.depths in
    eq_none m d.index d.tensor c.args.cmp.now c.in-Eq.x c.in_ok-x-in-Eq.field-0 (λ e. form_causes m r e d.index d.tensor c.in-Eq.x)
    (c.in_ok-x-in-Eq.ensures {u = tt})
    c.in-Eq.is c.in-None-2.is
