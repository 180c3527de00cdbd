use Rattle.binders.proofs.ScopeLaws.{scopes_put_tensor}
use Rattle.binders.proofs.putting_tensor.PutTensor.keeps_scope.Goals as goal

pub returns : goal.returns
returns c = scopes_put_tensor c.args.self.now.by c.args.self.now.under
