use Rattle.std.proofs.Common.{◌∙◌}
use Rattle.schedule_script.proofs.Bytes.{text_answers, no_text_answer}
use Rattle.schedule_script.proofs.script.read_bytes.Goals as goal

pub returns-in-Ok : goal.returns-in-Ok
returns-in-Ok c = text_answers c.args.text.now c.in-Ok.text.now c.read_text.result c.in-Ok.ensures.cases c.read_text.ensures

pub returns-in-Err : goal.returns-in-Err
returns-in-Err c = λ _. no_text_answer c.args.text.now c.valid_up_to.result c.in-Err.ensures.cases.0 (c.valid_up_to.ensures ∙ c.in-Err.ensures.valid_len)
