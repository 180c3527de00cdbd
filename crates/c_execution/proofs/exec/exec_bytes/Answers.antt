use Rattle.std.proofs.Common.{◌≡◌, Global, Err}
use Rattle.c_execution.specs.Executed.{exec_answer}
use Rattle.c_execution.specs.declared.fault.ExecFault.TheVariants as e
use Rattle.c_execution.proofs.ExecLaws.{exec-bad, exec-cause, exec-err, exec-ok}
use Rattle.c_execution.proofs.exec.exec_bytes.Goals as goal

pub returns-in-Ok-told-clause-answers : goal.returns-in-Ok-told-clause-answers
returns-in-Ok-told-clause-answers c =
    exec-ok Global c.args.c.now c.args.given.now c.in-Ok.program c.in-Ok-told.text c.text_reader_is_exact.ensures.exact c.in-Ok.ensures.value
    c.in-Ok-told.ensures.answer

pub returns-in-Err-clause-answers : goal.returns-in-Err-clause-answers
returns-in-Err-clause-answers c =
    exec-err Global c.args.c.now c.args.given.now c.in-Ok.program c.in-Err.fault c.text_reader_is_exact.ensures.exact c.in-Ok.ensures.value
    c.in-Err.ensures.answer

pub returns-in-Err-clause-refused : goal.returns-in-Err-clause-refused
returns-in-Err-clause-refused c =
    exec-cause Global c.args.c.now c.args.given.now c.in-Ok.program c.in-Err.fault c.in-Ok.ensures.value c.in-Ok.ensures.alone c.in-Err.ensures.refused

pub returns-in-Err-BadC-clause-answers : goal.returns-in-Err-BadC-clause-answers
returns-in-Err-BadC-clause-answers c =
    let h : exec_answer c.args.c.now c.args.given.now ≡ Err (e.BadC c.in-Err-BadC.at) =
    exec-bad Global c.args.c.now c.args.given.now c.in-Err-BadC.at (rw c.in-Err-BadC.field-0-is at c.in-Err-BadC.ensures.value) in
    cc (h, c.in-Err-BadC.at-is)
