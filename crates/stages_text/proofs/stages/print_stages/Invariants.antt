use Rattle.std.proofs.Common.{◌≡◌, ◌++◌, drop}
use Rattle.stages_text.specs.Stages.{stages, stages_from}
use Rattle.stages_text.proofs.stages.print_stages.Given as goal

abbrev pub invariant-loop-version : goal.invariant-loop-version
invariant-loop-version l = l.text.items ++ stages_from l.version (drop l.version l.versions) ≡ stages l.versions
