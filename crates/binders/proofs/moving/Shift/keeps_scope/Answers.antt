use Rattle.binders.proofs.ScopeLaws.{scopes_shift}
use Rattle.binders.proofs.moving.Shift.keeps_scope.Goals as goal

pub returns : goal.returns
returns c = scopes_shift c.args.self.now.index c.args.self.now.tensor
