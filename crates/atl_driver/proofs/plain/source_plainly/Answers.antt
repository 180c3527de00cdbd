use Rattle.std.proofs.Common.{Global, arith, inl}
use Rattle.atl_driver.proofs.CompileLaws.{is_unread}
use Rattle.atl_driver.proofs.PlainLaws.{answers_again, denoted_again, refused_again, unread_again}
use Rattle.atl_driver.proofs.plain.source_plainly.Goals as goal

pub plain_text-text-requires-clause-sound : goal.plain_text-text-requires-clause-sound
plain_text-text-requires-clause-sound c = c.requires.sound c.in-Ok.origin c.in-Ok.ensures.found

pub plain_text-text-requires-clause-sizes : goal.plain_text-text-requires-clause-sizes
plain_text-text-requires-clause-sizes c = omega (arith, c.requires.source, c.in-Ok.ensures.few)

pub plain_text-text-requires-clause-inputs : goal.plain_text-text-requires-clause-inputs
plain_text-text-requires-clause-inputs c = omega (arith, c.requires.source, c.in-Ok.ensures.few)

pub returns-in-Ok-clause-answers : goal.returns-in-Ok-clause-answers
returns-in-Ok-clause-answers c =
    answers_again c.args.source.now c.args.given.now c.in-Ok.origin c.plain_text-text.result c.in-Ok.ensures.exact c.plain_text-text.ensures.answers

pub returns-in-Ok-clause-denoted : goal.returns-in-Ok-clause-denoted
returns-in-Ok-clause-denoted c =
    denoted_again c.args.source.now c.args.given.now c.in-Ok.origin c.plain_text-text.result c.in-Ok.ensures.found c.plain_text-text.ensures.denoted

pub returns-in-Ok-clause-refused : goal.returns-in-Ok-clause-refused
returns-in-Ok-clause-refused c =
    refused_again c.args.source.now c.args.given.now c.in-Ok.origin c.plain_text-text.result c.in-Ok.ensures.found c.plain_text-text.ensures.refused

pub returns-in-Err-clause-answers : goal.returns-in-Err-clause-answers
returns-in-Err-clause-answers c =
    unread_again Global c.args.source.now c.args.given.now c.in-Err.fault c.unread.result c.in-Err.ensures.exact c.unread.ensures

pub returns-in-Err-clause-refused : goal.returns-in-Err-clause-refused
returns-in-Err-clause-refused c = λ fault is.
    inl (is_unread Global c.args.source.now c.in-Err.fault c.unread.result c.in-Err.ensures.refused c.in-Err.ensures.first c.in-Err.ensures.only
    c.unread.ensures fault is)
