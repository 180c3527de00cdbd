use Rattle.std.proofs.Common.{Global}
use Rattle.std.specs.Prelude.{option_copied}
use Rattle.atl_driver.specs.Asked.{asked_for}
use Rattle.atl_driver.proofs.ScheduleLaws.{refused_scheduled, refused_unscripted, scheduled_answers, scheduled_under, unscripted_answers}
use Rattle.atl_driver.proofs.module_text.scheduled_text.Goals as goal

pub returns-in-Ok-clause-answers : goal.returns-in-Ok-clause-answers
returns-in-Ok-clause-answers c =
    scheduled_answers (asked_for c.args.emit) c.args.origin (option_copied c.args.script) c.in-Ok.schedule c.emitted-text.result c.in-Ok.ensures.exact
    c.emitted-text.ensures.answers

pub returns-in-Ok-clause-under : goal.returns-in-Ok-clause-under
returns-in-Ok-clause-under c =
    scheduled_under (asked_for c.args.emit) c.args.origin (option_copied c.args.script) c.in-Ok.schedule c.emitted-text.result c.in-Ok.ensures.reads
    c.emitted-text.ensures.emitted

pub returns-in-Ok-clause-refused : goal.returns-in-Ok-clause-refused
returns-in-Ok-clause-refused c =
    refused_scheduled (asked_for c.args.emit) c.args.origin (option_copied c.args.script) c.in-Ok.schedule c.emitted-text.result c.in-Ok.ensures.reads
    c.emitted-text.ensures.refused

pub returns-in-Err-clause-answers : goal.returns-in-Err-clause-answers
returns-in-Err-clause-answers c =
    unscripted_answers Global (asked_for c.args.emit) c.args.origin (option_copied c.args.script) c.in-Err.fault c.unscripted.result c.in-Err.ensures.exact
    c.unscripted.ensures

pub returns-in-Err-clause-refused : goal.returns-in-Err-clause-refused
returns-in-Err-clause-refused c =
    refused_unscripted Global (asked_for c.args.emit) c.args.origin (option_copied c.args.script) c.in-Err.fault c.unscripted.result c.in-Err.ensures.refused
    c.unscripted.ensures
