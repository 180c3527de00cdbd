use Rattle.std.proofs.Common.{Global, ap}
use Rattle.atl_driver.specs.Compile.{plainly_as}
use Rattle.atl_driver.proofs.PlainLaws.{answers_unplain, refused_unplain}
use Rattle.atl_driver.proofs.plain.plain_text.Goals as goal

pub returns-in-Ok-clause-answers : goal.returns-in-Ok-clause-answers
returns-in-Ok-clause-answers c = ap plainly_as c.in-Ok.ensures.answer

pub returns-in-Err-clause-answers : goal.returns-in-Err-clause-answers
returns-in-Err-clause-answers c =
    answers_unplain Global c.args.origin.now c.args.given.now c.in-Err.fault c.unplain.result c.in-Err.ensures.answer c.unplain.ensures

pub returns-in-Err-clause-refused : goal.returns-in-Err-clause-refused
returns-in-Err-clause-refused c =
    refused_unplain Global c.args.origin.now c.args.given.now c.in-Err.fault c.unplain.result c.in-Err.ensures.refused c.unplain.ensures
