use Rattle.std.proofs.Common.{◌≡◌, drop}
use Rattle.std.specs.Prelude.{All}
use Rattle.schedule_run.specs.Versions.{IsVersion, behind, versions_from}
use Rattle.schedule_run.proofs.running.all_after.Given as goal

abbrev pub invariant-loop-at : goal.invariant-loop-at
invariant-loop-at l = record {
  rest : behind l.versions (versions_from l.at l.version (drop l.at l.steps)) ≡ versions_from 0 l.fn.module l.steps;
  kept : IsVersion l.fn.module l.version;
  before : All (IsVersion l.fn.module) l.versions;
}
