use Rattle.std.proofs.Common.{Global}
use Rattle.atl_driver.proofs.PlainLaws.{answers_accepted, answers_unaccepted, refused_accepted, refused_unaccepted, sound_text, told_accepted}
use Rattle.atl_driver.proofs.plain.plain_bytes.Goals as goal

pub source_plainly-text-requires-clause-sound : goal.source_plainly-text-requires-clause-sound
source_plainly-text-requires-clause-sound c = sound_text c.args.source.now c.args.script.now c.in-Ok.c.items c.in-Ok.ensures.correct

pub returns-in-Ok-clause-answers : goal.returns-in-Ok-clause-answers
returns-in-Ok-clause-answers c =
    answers_accepted c.args.source.now c.args.script.now c.args.given.now c.source_plainly-text.result c.in-Ok.c.items c.in-Ok.ensures.answers
    c.source_plainly-text.ensures.answers

pub returns-in-Ok-clause-correct : goal.returns-in-Ok-clause-correct
returns-in-Ok-clause-correct c =
    told_accepted c.args.source.now c.args.script.now c.args.given.now c.in-Ok.c.items c.source_plainly-text.result c.in-Ok.ensures.correct
    c.source_plainly-text.ensures.denoted

pub returns-in-Ok-clause-refused : goal.returns-in-Ok-clause-refused
returns-in-Ok-clause-refused c =
    refused_accepted c.args.source.now c.args.script.now c.args.given.now c.source_plainly-text.result c.in-Ok.c.items c.in-Ok.ensures.correct
    c.source_plainly-text.ensures.refused

pub returns-in-Err-clause-answers : goal.returns-in-Err-clause-answers
returns-in-Err-clause-answers c =
    answers_unaccepted Global c.args.source.now c.args.script.now c.args.given.now c.in-Err.refusal c.in-Err.ensures.answers

pub returns-in-Err-clause-refused : goal.returns-in-Err-clause-refused
returns-in-Err-clause-refused c =
    refused_unaccepted Global c.args.source.now c.args.script.now c.args.given.now c.in-Err.refusal c.in-Err.ensures.refused
