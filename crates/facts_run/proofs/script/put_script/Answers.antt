use Rattle.std.proofs.Common.{◌≡◌, ◌<◌, ◌∙◌, List, length, get_or, subst, Ok}
use Rattle.schedule_run.specs.Verdict.{version_after}
use Rattle.schedule_run.specs.Versions.{IsVersion}
use Rattle.schedule_script.specs.declared.tree.Step.{Step}
use Rattle.facts_run.proofs.RunLaws.{told_next, verdict_next, version_sizes, version_tells}
use Rattle.facts_run.proofs.script.put_script.Goals as goal

pub loop-at-preserved : goal.loop-at-preserved
loop-at-preserved c =
    let steps : List Step = c.args.script.now.steps in
    let s = c.index-steps-at.result in
    let v = c.loop-at.version in
    let next = c.in-Ok-Some.next in
    let lt : c.loop-at.at < length steps = subst (λ (ss : List Step). c.loop-at.at < length ss) c.as_slice-steps.ensures c.loop-at-test.true in
    let is : s ≡ get_or steps c.loop-at.at s = subst (λ (ss : List Step). s ≡ get_or ss c.loop-at.at s) c.as_slice-steps.ensures c.index-steps-at.is in
    let after : version_after v s ≡ Ok next = rw c.in-Ok-Some.field-0-is at c.in-Ok-Some.ensures.verdict in
    let version : IsVersion v next = rw c.in-Ok-Some.field-0-is at c.in-Ok-Some.ensures.version in
    record {
      tells = version_tells v next c.loop-at.invariant.tells version;
      sizes = version_sizes v next version ∙ c.loop-at.invariant.sizes;
      verdict = verdict_next steps c.loop-at.at s v next lt is after ∙ c.loop-at.invariant.verdict;
      told = told_next c.args.module.sizes steps c.loop-at.at s v next c.args.script.now.finals c.loop-at.text c.next_version.new.text lt is after
          c.loop-at.invariant.sizes c.in-Ok-Some.ensures.told
          ∙ c.loop-at.invariant.told;
    }
