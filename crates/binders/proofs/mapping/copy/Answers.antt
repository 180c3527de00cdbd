use Rattle.binders.proofs.NormalLaws.{fits_of, short_of}
use Rattle.binders.proofs.mapping.copy.Goals as goal

pub returns-in-Ok : goal.returns-in-Ok
returns-in-Ok c = (c.in-Ok.ensures {u = tt}, fits_of c.args.form.now c.told.ensures, short_of c.args.form.now c.told.ensures)
