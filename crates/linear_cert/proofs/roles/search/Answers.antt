use Rattle.std.proofs.Common.{ap, arith, ◌∙◌}
use Rattle.std.specs.Ordering.{is_eq}
use Rattle.linear_cert.proofs.RoleLaws.{found-at, none-found, none-last}
use Rattle.linear_cert.specs.Roles.{role_order, wanted_role}
use Rattle.linear_cert.proofs.roles.search.Goals as goal

pub returns-then-at-places-clause-none : goal.returns-then-at-places-clause-none
returns-then-at-places-clause-none c =
    none-last c.args.facts.now (wanted_role c.args.wanted) c.args.places.now c.place-at.result c.place-at.ensures (omega (arith, c.if-at-places.true))

pub returns-then-is_same-clause-found : goal.returns-then-is_same-clause-found
returns-then-is_same-clause-found c =
    let r = wanted_role c.args.wanted in
    found-at c.args.facts.now r c.args.places.now c.place-at.result c.is_same.result c.place-at.ensures (omega (arith, c.if-at-places.false))
    (c.is_same.ensures ∙ ap (λ x. is_eq (role_order x r)) c.role_at.ensures) c.if-is_same.true

pub returns-clause-none : goal.returns-clause-none
returns-clause-none c =
    let r = wanted_role c.args.wanted in
    none-found c.args.facts.now r c.args.places.now c.place-at.result c.is_same.result c.requires.sorted c.place-at.ensures
    (omega (arith, c.if-at-places.false))
    (c.is_same.ensures ∙ ap (λ x. is_eq (role_order x r)) c.role_at.ensures) c.if-is_same.false
