use Rattle.zeroed_forms.proofs.KeptScope.{zeroed_keeps_scope as law}
use Rattle.zeroed_forms.proofs.laws.zeroed_keeps_scope.Goals as goal

pub returns : goal.returns
returns c = law
