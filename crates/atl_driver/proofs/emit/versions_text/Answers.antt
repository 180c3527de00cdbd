use Rattle.std.proofs.Common.{Global}
use Rattle.atl_driver.proofs.ScheduleLaws.{unversioned_answers, versions_answers, versions_print, versions_read}
use Rattle.atl_driver.proofs.emit.versions_text.Goals as goal

pub printed-text-requires : goal.printed-text-requires
printed-text-requires c =
    versions_print c.args.origin c.args.schedule.now c.in-Ok.staged.versions c.as_slice-versions.result.now c.as_slice-versions.ensures c.requires.printable
    c.in-Ok.ensures.answers c.in-Ok.ensures.versions c.versions_told.ensures

pub returns-in-Ok-clause-answers : goal.returns-in-Ok-clause-answers
returns-in-Ok-clause-answers c =
    versions_answers c.args.origin c.args.schedule.now c.in-Ok.staged.versions c.as_slice-versions.result.now c.printed-text.result
    c.as_slice-versions.ensures c.in-Ok.ensures.answers c.printed-text.ensures

pub returns-in-Ok-clause-versions : goal.returns-in-Ok-clause-versions
returns-in-Ok-clause-versions c =
    versions_read c.args.origin c.args.schedule.now c.in-Ok.staged.versions c.as_slice-versions.result.now c.printed-text.result
    c.as_slice-versions.ensures c.in-Ok.ensures.answers c.in-Ok.ensures.versions c.printed-text.ensures

pub returns-in-Err-clause-answers : goal.returns-in-Err-clause-answers
returns-in-Err-clause-answers c =
    unversioned_answers Global c.args.origin c.args.schedule.now c.in-Err.fault c.unstaged.result c.in-Err.ensures.answers c.unstaged.ensures
