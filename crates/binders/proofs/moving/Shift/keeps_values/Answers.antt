use Rattle.binders.proofs.PlainLaws.{sends_shift}
use Rattle.binders.proofs.moving.Shift.keeps_values.Goals as goal

pub returns : goal.returns
returns c = sends_shift c.args.self.now.index c.args.self.now.tensor
