use Rattle.std.proofs.Common.{◌≡◌, ◌∙◌, ◌++◌, List, subst}
use Rattle.term_tree.specs.Goals.{term_goals}
use Rattle.term_tree.specs.Modules.{outputs_goals}
use Rattle.term_tree.specs.Shape.{Extents, shape_of}
use Rattle.shape_rules.specs.Faults.{HasOne, IsFault}
use Rattle.shape_rules.specs.Scopes.{scope}
use Rattle.shape_rules.proofs.ModuleLaws.{before_more, get_some, outputs_step, plain_step}
use Rattle.shape_rules.proofs.modules.walk_outputs.Goals as goal

pub returns-in-Err-clause-fault : goal.returns-in-Err-clause-fault
returns-in-Err-clause-fault c =
    let o = c.index-outputs-i.result in (
      c.loop-i.i,
      o,
      get_some c.args.outputs.now c.loop-i.i o c.loop-i-test.true c.index-outputs-i.is,
      c.loop-i.invariant.shaped,
      subst (λ (bound : List Extents). IsFault c.loop-i.i (shape_of o.term (scope c.args.shapes.now bound)) c.in-Err.fault) c.loop-i.invariant.bound
          (c.in-Err.ensures {u = tt}).fault,
    )

pub loop-i-preserved : goal.loop-i-preserved
loop-i-preserved c =
    let o = c.index-outputs-i.result in
    let ts = scope c.args.shapes.now c.args.progress.now.bound in
    let told = c.in-Ok.ensures {u = tt} in
    record {
      bound = told.bound ∙ c.loop-i.invariant.bound;
      plain = plain_step c.args.outputs.now c.loop-i.i o c.loop-i-test.true c.index-outputs-i.is c.loop-i.invariant.plain;
      goals = outputs_step c.args.outputs.now ts c.loop-i.i o c.loop-i.progress.goals c.walk_output.new.progress.goals
          (c.args.progress.now.goals ++ outputs_goals c.args.outputs.now ts)
          c.loop-i-test.true c.index-outputs-i.is
          (subst (λ (bound : List Extents). c.walk_output.new.progress.goals ≡ c.loop-i.progress.goals ++ term_goals o.term (scope c.args.shapes.now bound))
          c.loop-i.invariant.bound told.goals)
          c.loop-i.invariant.goals;
      shaped = before_more (HasOne ts) c.args.outputs.now c.loop-i.i o c.loop-i-test.true c.index-outputs-i.is
          (subst (λ (bound : List Extents). HasOne (scope c.args.shapes.now bound) o) c.loop-i.invariant.bound told.shaped) c.loop-i.invariant.shaped;
    }
