use Rattle.std.proofs.Common.{Global}
use Rattle.atl_driver.proofs.CompileLaws.{lowered_answers, lowered_loops, unlowerable_answers}
use Rattle.atl_driver.proofs.last_text.last_text.Goals as goal

pub returns-in-Ok-clause-answers : goal.returns-in-Ok-clause-answers
returns-in-Ok-clause-answers c =
    lowered_answers c.in-Ok.last c.args.module.now c.args.finals.now c.args.marks.now c.text_of-text.result c.in-Ok.ensures.held c.in-Ok.ensures.answers
    c.text_of-text.ensures

pub returns-in-Ok-clause-loops : goal.returns-in-Ok-clause-loops
returns-in-Ok-clause-loops c =
    lowered_loops c.in-Ok.last c.args.module.now c.args.finals.now c.args.marks.now c.text_of-text.result c.in-Ok.ensures.held c.text_of-text.ensures

pub returns-in-Err-clause-answers : goal.returns-in-Err-clause-answers
returns-in-Err-clause-answers c =
    unlowerable_answers Global c.args.module.now c.args.finals.now c.args.marks.now c.in-Err.fault c.unlowerable.result c.in-Err.ensures.answers
    c.unlowerable.ensures
