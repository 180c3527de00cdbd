use Rattle.std.proofs.Common.{Global, ap}
use Rattle.atl_driver.specs.Compile.{executed_as}
use Rattle.atl_driver.proofs.ExecLaws.{answers_unexecuted, refused_unexecuted}
use Rattle.atl_driver.proofs.exec.exec_text.Goals as goal

pub returns-in-Ok-clause-answers : goal.returns-in-Ok-clause-answers
returns-in-Ok-clause-answers c = ap executed_as c.in-Ok.ensures.answers

pub returns-in-Err-clause-answers : goal.returns-in-Err-clause-answers
returns-in-Err-clause-answers c =
    answers_unexecuted Global c.args.c.now c.args.given.now c.in-Err.fault c.unexecuted.result c.in-Err.ensures.answers c.unexecuted.ensures

pub returns-in-Err-clause-refused : goal.returns-in-Err-clause-refused
returns-in-Err-clause-refused c =
    refused_unexecuted Global c.args.c.now c.args.given.now c.in-Err.fault c.unexecuted.result c.in-Err.ensures.refused c.unexecuted.ensures
