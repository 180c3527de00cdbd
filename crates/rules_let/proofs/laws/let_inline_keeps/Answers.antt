use Rattle.rules_let.proofs.InliningLaws.{let_inline_keeps as law}
use Rattle.rules_let.proofs.laws.let_inline_keeps.Goals as goal

pub returns : goal.returns
returns c = law
