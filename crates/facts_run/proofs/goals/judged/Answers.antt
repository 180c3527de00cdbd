use Rattle.schedule_run.proofs.VersionLaws.{nodes_each, outputs_few}
use Rattle.facts_run.proofs.goals.judged.Goals as goal

pub judge-requires-clause-few : goal.judge-requires-clause-few
judge-requires-clause-few c = outputs_few c.args.module.now c.requires.runs

pub judge-requires-clause-nodes : goal.judge-requires-clause-nodes
judge-requires-clause-nodes c = nodes_each c.args.module.now c.requires.runs
