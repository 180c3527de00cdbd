use Rattle.std.proofs.Common.{subst, sym, ◌∙◌}
use Rattle.final_judge.proofs.PathLaws.{module-met}
use Rattle.final_rules.specs.Met.{AllCanBeMet}
use Rattle.schedule_run.proofs.VersionLaws.{nodes_each}
use Rattle.facts_run.proofs.goals.put_module_goals.Goals as goal

pub goals-requires-clause-nodes : goal.goals-requires-clause-nodes
goals-requires-clause-nodes c = nodes_each c.args.module.now c.requires.runs

pub put_goals-requires : goal.put_goals-requires
put_goals-requires c =
    subst AllCanBeMet (sym (c.as_slice-in-Ok.ensures ∙ c.in-Ok.ensures))
    (module-met c.args.module.now c.requires.runs.sound c.requires.runs.sizes (nodes_each c.args.module.now c.requires.runs))
