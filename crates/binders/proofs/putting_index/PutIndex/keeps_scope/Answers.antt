use Rattle.binders.proofs.ScopeLaws.{scopes_put_index}
use Rattle.binders.proofs.putting_index.PutIndex.keeps_scope.Goals as goal

pub returns : goal.returns
returns c = scopes_put_index c.args.self.now.by c.args.self.now.under
