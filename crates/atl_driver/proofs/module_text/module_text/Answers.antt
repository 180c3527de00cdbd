use Rattle.std.proofs.Common.{Global}
use Rattle.std.specs.Prelude.{option_copied}
use Rattle.atl_driver.specs.Asked.{asked_for}
use Rattle.atl_driver.proofs.CompileLaws.{admitted_answers, admitted_under, refused_admitted, refused_unadmitted, unadmitted_answers}
use Rattle.atl_driver.proofs.module_text.module_text.Goals as goal

pub returns-in-Ok-clause-answers : goal.returns-in-Ok-clause-answers
returns-in-Ok-clause-answers c =
    admitted_answers (asked_for c.args.emit) c.args.origin (option_copied c.args.script) c.scheduled_text.result c.in-Ok.ensures.answers
    c.scheduled_text.ensures.answers

pub returns-in-Ok-clause-under : goal.returns-in-Ok-clause-under
returns-in-Ok-clause-under c =
    admitted_under (asked_for c.args.emit) c.args.origin (option_copied c.args.script) c.scheduled_text.result
    (record { accepted = c.in-Ok.ensures.answers; sound = c.in-Ok.ensures.sound; example = c.in-Ok.ensures.allowed }) c.scheduled_text.ensures.under

pub returns-in-Ok-clause-refused : goal.returns-in-Ok-clause-refused
returns-in-Ok-clause-refused c =
    refused_admitted (asked_for c.args.emit) c.args.origin (option_copied c.args.script) c.scheduled_text.result c.in-Ok.ensures.answers
    c.scheduled_text.ensures.refused

pub returns-in-Err-clause-answers : goal.returns-in-Err-clause-answers
returns-in-Err-clause-answers c =
    unadmitted_answers Global (asked_for c.args.emit) c.args.origin (option_copied c.args.script) c.in-Err.fault c.unadmitted.result
    (c.in-Err.ensures {u = tt}).answers c.unadmitted.ensures

pub returns-in-Err-clause-refused : goal.returns-in-Err-clause-refused
returns-in-Err-clause-refused c =
    refused_unadmitted Global (asked_for c.args.emit) c.args.origin (option_copied c.args.script) c.in-Err.fault c.unadmitted.result
    (c.in-Err.ensures {u = tt}).answers c.unadmitted.ensures
