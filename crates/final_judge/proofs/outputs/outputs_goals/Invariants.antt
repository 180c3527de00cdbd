use Rattle.std.proofs.Common.{◌≡◌, ◌++◌, drop}
use Rattle.shape_rules.specs.Scopes.{given}
use Rattle.final_rules.specs.Rules.{goals_with, output_spot, outputs_claims}
use Rattle.final_judge.specs.Ready.{EachStands}
use Rattle.final_judge.proofs.outputs.outputs_goals.Given as goal

abbrev pub invariant-loop-output : goal.invariant-loop-output
invariant-loop-output l = record {
  stands : EachStands l.initial.shapes output_spot (drop l.output-index l.outputs);
  shapes : l.shapes ≡ l.initial.shapes;
  rest : l.goals ++ goals_with l.facts (outputs_claims (drop l.output-index l.outputs) (given l.initial.shapes))
      ≡ goals_with l.facts (outputs_claims l.outputs (given l.initial.shapes));
}
