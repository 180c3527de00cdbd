use Rattle.std.proofs.Common.{sym, ◌∙◌}
use Rattle.linear_cert.proofs.RoleLaws.{mapped-found}
use Rattle.linear_cert.proofs.roles.find.Goals as goal

pub returns-in-Ok : goal.returns-in-Ok
returns-in-Ok c = sym c.in-Ok.ensures.found ∙ mapped-found c.args.facts.now c.args.places.now c.args.wanted c.requires

pub returns-in-Err : goal.returns-in-Err
returns-in-Err c = sym c.in-Err.ensures.none ∙ mapped-found c.args.facts.now c.args.places.now c.args.wanted c.requires
