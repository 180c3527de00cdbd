use Rattle.std.proofs.Common.{◌≡◌, ◌++◌, drop}
use Rattle.facts_run.specs.Claims.{claims_from, facts_text}
use Rattle.facts_run.specs.Verdict.{MayTell}
use Rattle.facts_text.specs.Block.{blocks}
use Rattle.schedule_run.specs.Versions.{last_from}
use Rattle.facts_run.proofs.script.put_script.Given as goal

abbrev pub invariant-loop-at : goal.invariant-loop-at
invariant-loop-at l = record {
  tells : MayTell l.version;
  sizes : l.version.sizes ≡ l.fn.module.sizes;
  verdict : last_from l.at l.version (drop l.at l.fn.script.steps) ≡ last_from 0 l.fn.module l.fn.script.steps;
  told : l.text ++ blocks l.fn.module.sizes (claims_from l.at l.version (drop l.at l.fn.script.steps) l.fn.script.finals) ≡ l.initial.text
      ++ facts_text l.fn.module l.fn.script;
}
