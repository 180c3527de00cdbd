use Rattle.std.proofs.Common.{ap, sym, ◌∙◌}
use Rattle.fact_list.specs.declared.role.Fact.{Fact}
use Rattle.linear_cert.proofs.RoleLaws.{mapped-stated, role-is}
use Rattle.linear_cert.specs.Roles.{is_bound}
use Rattle.linear_cert.proofs.roles.with_fact.Goals as goal

pub put-requires-clause-role : goal.put-requires-clause-role
put-requires-clause-role c =
    let x = c.index-facts-at.result in
    let is = c.index-facts-at.is in
    c.in-Some.ensures {u = tt} ∙ ap (λ (f : Fact). f.role) (sym is) ∙ role-is c.args.facts.now c.args.at x c.requires.within is

pub returns-in-None : goal.returns-in-None
returns-in-None c =
    let x = c.index-facts-at.result in
    let is = c.index-facts-at.is in
    mapped-stated c.args.facts.now c.args.places.items c.args.at x c.requires.within is
    (ap is_bound (ap (λ (f : Fact). f.role) is) ∙ c.in-None.ensures {u = tt}) c.requires.mapped
