use Rattle.linear_cert.proofs.RoleLaws.{within-at}
use Rattle.linear_cert.proofs.roles.place_at.Goals as goal

pub returns-clause-below : goal.returns-clause-below
returns-clause-below c = within-at c.args.count c.args.places.now c.args.n c.requires.within c.requires.some
