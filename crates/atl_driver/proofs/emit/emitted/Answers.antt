use Rattle.std.proofs.Common.{ap}
use Rattle.atl_driver.specs.Asked.{asked_for}
use Rattle.atl_driver.proofs.ScheduleLaws.{refused_facts, refused_loops, refused_versions}
use Rattle.atl_driver.proofs.EmitLaws.{answers_as, emitted_as_asked, refused_as_asked}
use Rattle.atl_driver.proofs.emit.emitted.Goals as goal

pub returns-in-Loops-clause-answers : goal.returns-in-Loops-clause-answers
returns-in-Loops-clause-answers c =
    answers_as _ _ c.args.origin c.args.schedule.now c.staged_text.result (ap asked_for c.in-Loops.is) c.staged_text.ensures.answers

pub returns-in-Loops-clause-emitted : goal.returns-in-Loops-clause-emitted
returns-in-Loops-clause-emitted c =
    emitted_as_asked _ _ c.args.origin c.args.schedule.now c.staged_text.result (ap asked_for c.in-Loops.is) c.staged_text.ensures.loops

pub returns-in-Loops-clause-refused : goal.returns-in-Loops-clause-refused
returns-in-Loops-clause-refused c =
    refused_as_asked _ _ c.args.origin c.args.schedule.now c.staged_text.result (ap asked_for c.in-Loops.is)
    (refused_loops c.args.origin c.args.schedule.now c.staged_text.result c.staged_text.ensures.answers)

pub returns-in-Versions-clause-answers : goal.returns-in-Versions-clause-answers
returns-in-Versions-clause-answers c =
    answers_as _ _ c.args.origin c.args.schedule.now c.versions_text.result (ap asked_for c.in-Versions.is) c.versions_text.ensures.answers

pub returns-in-Versions-clause-emitted : goal.returns-in-Versions-clause-emitted
returns-in-Versions-clause-emitted c =
    emitted_as_asked _ _ c.args.origin c.args.schedule.now c.versions_text.result (ap asked_for c.in-Versions.is) c.versions_text.ensures.versions

pub returns-in-Versions-clause-refused : goal.returns-in-Versions-clause-refused
returns-in-Versions-clause-refused c =
    refused_as_asked _ _ c.args.origin c.args.schedule.now c.versions_text.result (ap asked_for c.in-Versions.is)
    (refused_versions c.args.origin c.args.schedule.now c.versions_text.result c.versions_text.ensures.answers)

pub returns-in-Facts-clause-answers : goal.returns-in-Facts-clause-answers
returns-in-Facts-clause-answers c =
    answers_as _ _ c.args.origin c.args.schedule.now c.told_facts.result (ap asked_for c.in-Facts.is) c.told_facts.ensures.answers

pub returns-in-Facts-clause-emitted : goal.returns-in-Facts-clause-emitted
returns-in-Facts-clause-emitted c =
    emitted_as_asked _ _ c.args.origin c.args.schedule.now c.told_facts.result (ap asked_for c.in-Facts.is) c.told_facts.ensures.told

pub returns-in-Facts-clause-refused : goal.returns-in-Facts-clause-refused
returns-in-Facts-clause-refused c =
    refused_as_asked _ _ c.args.origin c.args.schedule.now c.told_facts.result (ap asked_for c.in-Facts.is)
    (refused_facts c.args.origin c.args.schedule.now c.told_facts.result c.told_facts.ensures.answers)

pub returns-in-Run-clause-answers : goal.returns-in-Run-clause-answers
returns-in-Run-clause-answers c =
    answers_as _ _ c.args.origin c.args.schedule.now c.left_text.result (ap asked_for c.in-Run.is) c.left_text.ensures.answers

pub returns-in-Run-clause-emitted : goal.returns-in-Run-clause-emitted
returns-in-Run-clause-emitted c =
    emitted_as_asked _ _ c.args.origin c.args.schedule.now c.left_text.result (ap asked_for c.in-Run.is) c.left_text.ensures.left

pub returns-in-Run-clause-refused : goal.returns-in-Run-clause-refused
returns-in-Run-clause-refused c =
    refused_as_asked _ _ c.args.origin c.args.schedule.now c.left_text.result (ap asked_for c.in-Run.is)
    c.left_text.ensures.refused
