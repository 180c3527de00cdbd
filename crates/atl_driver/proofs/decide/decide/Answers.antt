use Rattle.std.proofs.Common.{sym}
use Rattle.atl_driver.specs.Form.{form_of, texts}
use Rattle.atl_driver.proofs.DecideLaws.{text_came, fault_came}
use Rattle.atl_driver.proofs.Contents.{first_within, second_within, third_within}
use Rattle.atl_driver.proofs.FormLaws.{form_in_range}
use Rattle.atl_driver.proofs.decide.decide.Goals as goal

pub compile_all-requires-clause-first : goal.compile_all-requires-clause-first
compile_all-requires-clause-first g c = rw c.deref.ensures.value (first_within _ _ _ c.in-Ok.ensures.contents)

pub compile_all-requires-clause-second : goal.compile_all-requires-clause-second
compile_all-requires-clause-second g c = rw c.deref.ensures.value (second_within _ _ _ c.in-Ok.ensures.contents)

pub compile_all-requires-clause-third : goal.compile_all-requires-clause-third
compile_all-requires-clause-third g c = rw c.deref.ensures.value (third_within _ _ _ c.in-Ok.ensures.contents)

pub compile_all-requires-clause-range : goal.compile_all-requires-clause-range
compile_all-requires-clause-range g c =
    form_in_range c.args.words.now (record { verb = c.in-Some.command.verb; files = texts c.in-Some.command.files.now }) (sym c.in-Some.ensures)

pub returns-in-Ok-compile_all-clause-text : goal.returns-in-Ok-compile_all-clause-text
returns-in-Ok-compile_all-clause-text g c =
    let F = g.F.Files in
    text_came F.held F.faults F.taken c.args.files.now c.read_all.new.files (form_of c.args.words.now)
    (record { verb = c.in-Some.command.verb; files = texts c.in-Some.command.files.now }) _
    (sym c.in-Some.ensures) (rw c.deref.ensures.value c.in-Ok.ensures.contents) c.in-Ok-compile_all.text.items c.in-Ok-compile_all.ensures.answers
    c.in-Ok-compile_all.ensures.correct

pub returns-in-Err-Refused-clause-cause : goal.returns-in-Err-Refused-clause-cause
returns-in-Err-Refused-clause-cause g c =
    let F = g.F.Files in
    fault_came F.held F.faults F.taken c.args.files.now c.read_all.new.files (form_of c.args.words.now)
    (record { verb = c.in-Some.command.verb; files = texts c.in-Some.command.files.now }) _
    (sym c.in-Some.ensures) (rw c.deref.ensures.value c.in-Ok.ensures.contents) c.in-Err-Refused.fault
    (rw c.in-Err-Refused.field-0-is at c.in-Err-Refused.ensures.answers) (c.compile_all.ensures.refused c.in-Err-Refused.fault (cc))
