use Rattle.std.proofs.Common.{◌≡◌, ◌∙◌, Ok, subst, sym, rules}
use Rattle.std.specs.Prelude.{All}
use Rattle.std.proofs.lemmas.List.Elements.{All-push}
use Rattle.schedule_run.specs.Verdict.{version_after}
use Rattle.schedule_run.specs.Versions.{IsVersion}
use Rattle.schedule_run.proofs.RunLaws.{all_next}
use Rattle.schedule_run.proofs.VersionLaws.{next_version}
use Rattle.schedule_run.proofs.running.all_after.Goals as goal

pub loop-at-preserved : goal.loop-at-preserved
loop-at-preserved c =
    let m = c.args.module in
    let steps = c.args.steps.now in
    let v = c.loop-at.version in
    let after : version_after v c.index-steps-at.result ≡ Ok c.in-Ok.next = search rules in
    record {
      rest = all_next steps c.loop-at.at c.index-steps-at.result c.loop-at.versions c.keep.new.versions v c.in-Ok.next c.loop-at-test.true c.index-steps-at.is
          c.in_ok-keep.ensures.kept after
          ∙ c.loop-at.invariant.rest;
      kept = next_version m v c.in-Ok.next c.loop-at.invariant.kept c.in-Ok.ensures.version;
      before = subst (All (IsVersion m)) (sym c.in_ok-keep.ensures.kept)
          (All-push (IsVersion m) c.loop-at.versions v c.loop-at.invariant.before c.loop-at.invariant.kept);
    }

pub returns-clause-versions : goal.returns-clause-versions
returns-clause-versions c =
    let m = c.args.module in
    subst (All (IsVersion m)) (sym c.in_ok-keep-2.ensures.kept)
    (All-push (IsVersion m) c.loop-at.versions c.loop-at.version c.loop-at.invariant.before c.loop-at.invariant.kept)
