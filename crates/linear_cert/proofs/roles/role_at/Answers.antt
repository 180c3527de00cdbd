use Rattle.std.proofs.Common.{ap, sym, ◌∙◌}
use Rattle.fact_list.specs.declared.role.Fact.{Fact}
use Rattle.linear_cert.proofs.RoleLaws.{role-is}
use Rattle.linear_cert.specs.Roles.{role_at}
use Rattle.linear_cert.proofs.roles.role_at.Goals as goal

pub returns : goal.returns
returns c =
    let x = c.index-facts-place_at.result in
    let is = c.index-facts-place_at.is in
    ap (λ (f : Fact). f.role) (sym is) ∙ role-is c.args.facts.now c.place_at.result x c.place_at.ensures.below is
    ∙ ap (role_at c.args.facts.now) c.place_at.ensures.is
