use Rattle.zeroed_forms.proofs.KeptValue.{zeroed_keeps_value as law}
use Rattle.zeroed_forms.proofs.laws.zeroed_keeps_value.Goals as goal

pub returns : goal.returns
returns c = law
