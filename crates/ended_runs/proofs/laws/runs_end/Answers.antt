use Rattle.ended_runs.proofs.EndLaws.{runs-end}
use Rattle.ended_runs.proofs.laws.runs_end.Goals as goal

pub returns : goal.returns
returns c = runs-end
