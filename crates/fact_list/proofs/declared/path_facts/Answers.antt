use Rattle.std.proofs.Common.{arith}
use Rattle.fact_list.proofs.DeclaredLaws.{rest-few}
use Rattle.fact_list.proofs.declared.path_facts.Goals as goal

pub overflow_cast-after : goal.overflow_cast-after
overflow_cast-after c = omega (arith, c.loop-fact.invariant.after, c.requires.few, rest-few c.args.path.now c.loop-fact.fact-index)
