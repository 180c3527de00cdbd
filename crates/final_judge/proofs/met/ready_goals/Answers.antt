use Rattle.std.proofs.Common.{subst, sym}
use Rattle.final_rules.specs.Met.{AllCanBeMet}
use Rattle.final_judge.proofs.PathLaws.{module-met}
use Rattle.final_judge.proofs.met.ready_goals.Goals as goal

pub returns-in-Ok-clause-ready : goal.returns-in-Ok-clause-ready
returns-in-Ok-clause-ready c =
    subst AllCanBeMet (sym c.in-Ok.ensures) (module-met c.args.module.now c.requires.sound c.requires.sizes c.requires.nodes)
