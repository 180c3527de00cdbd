use Rattle.rules_loop.proofs.SwapLaws.{swap_gen_keeps as law}
use Rattle.rules_loop.proofs.laws.swap_gen_keeps.Goals as goal

pub returns : goal.returns
returns c = law
