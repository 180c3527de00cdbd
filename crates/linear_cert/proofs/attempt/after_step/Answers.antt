use Rattle.std.proofs.Common.{◌∙◌, ap, sym, arith}
use Rattle.affine_index.specs.Condition.{cmp_form}
use Rattle.affine_index.specs.Wide.{norm}
use Rattle.fact_list.specs.declared.role.Fact.{Fact}
use Rattle.linear_cert.proofs.RoomLaws.{after-is, after-room, fact_form-at, left-small}
use Rattle.linear_cert.specs.DefaultLines.{multipliers_fit}
use Rattle.linear_cert.proofs.attempt.after_step.Goals as goal

pub less-requires-clause-room : goal.less-requires-clause-room
less-requires-clause-room c = omega
    (arith, left-small c.args.attempt.goal_times (norm c.args.attempt.left) c.args.step.by c.requires.room.small c.requires.step.product)

pub returns-clause-is : goal.returns-clause-is
returns-clause-is c =
    let s = c.args.step in
    let times = c.in_ok-times.ensures {u = tt} in
    let form = c.form_of.ensures.form ∙ ap (λ (x : Fact). cmp_form x.cmp) (sym c.index-facts-step.is)
    ∙ sym (fact_form-at c.args.facts.now s.fact c.index-facts-step.result c.requires.step.within c.index-facts-step.is) in
    let fit = sym (c.multipliers_fit.ensures ∙ ap multipliers_fit c.as_slice.ensures) ∙ c.if-not-multipliers_fit.false in
    after-is c.args.facts.now c.args.attempt s c.in_ok-left.left c.form_of.result.now c.in_ok-times.times c.requires.step times (c.in_ok-left.ensures {u = tt})
    form fit

pub returns-clause-room : goal.returns-clause-room
returns-clause-room c =
    let s = c.args.step in
    let times = c.in_ok-times.ensures {u = tt} in
    let form = c.form_of.ensures.form ∙ ap (λ (x : Fact). cmp_form x.cmp) (sym c.index-facts-step.is)
    ∙ sym (fact_form-at c.args.facts.now s.fact c.index-facts-step.result c.requires.step.within c.index-facts-step.is) in
    let fit = sym (c.multipliers_fit.ensures ∙ ap multipliers_fit c.as_slice.ensures) ∙ c.if-not-multipliers_fit.false in
    λ n normal room. after-room c.args.facts.now n c.args.attempt s c.in_ok-left.left c.form_of.result.now c.in_ok-times.times c.requires.step times
    (c.in_ok-left.ensures {u = tt}) form fit normal room

pub next_times-requires-clause-within : goal.next_times-requires-clause-within
next_times-requires-clause-within c = omega (arith, c.requires.step.within, c.requires.room.each)
