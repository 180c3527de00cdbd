use Rattle.term_tree.specs.Shape.{shape_of}
use Rattle.shape_rules.specs.Scopes.{scope}
use Rattle.shape_rules.proofs.ProgressLaws.{ok_is, walked_goals, walked_ok, walked_trouble}
use Rattle.shape_rules.proofs.modules.walk_output.Goals as goal

pub returns-in-Ok-clause-shaped : goal.returns-in-Ok-clause-shaped
returns-in-Ok-clause-shaped c =
    let ts = scope c.args.shapes.now c.args.progress.now.bound in
    ok_is (shape_of c.args.output.now.term ts) c.in-Ok.field-0 (walked_ok c.args.output.now.term ts c.in-Ok.field-0 c.in-Ok.ensures.shape)

pub returns-in-Ok-clause-goals : goal.returns-in-Ok-clause-goals
returns-in-Ok-clause-goals c =
    walked_goals c.args.output.now.term (scope c.args.shapes.now c.args.progress.now.bound) c.args.progress.now.goals c.walk.new.progress.goals
    c.in-Ok.ensures.goals

pub returns-clause-fault : goal.returns-clause-fault
returns-clause-fault c =
    let ts = scope c.args.shapes.now c.args.progress.now.bound in
    c.fault.ensures (shape_of c.args.output.now.term ts) (walked_trouble c.args.output.now.term ts c.in-Err.trouble c.in-Err.ensures.shape)
