use Rattle.std.proofs.Common.{◌≡◌, drop}
use Rattle.shape_rules.specs.Scopes.{given}
use Rattle.final_rules.specs.Goals.{full_read_claims}
use Rattle.final_judge.specs.Ready.{ReadStands}
use Rattle.final_judge.proofs.leaf.full_read_goals.Given as goal

abbrev pub invariant-loop-extent : goal.invariant-loop-extent
invariant-loop-extent l = record {
  stands : ReadStands (drop l.extent-index l.extents) l.read l.spot;
  rest : full_read_claims (drop l.extent-index l.extents) l.read l.spot (given l.shapes)
      ≡ full_read_claims l.extents l.initial.read l.initial.spot (given l.shapes);
}
