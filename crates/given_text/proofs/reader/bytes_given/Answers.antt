use Rattle.std.proofs.Common.{◌∙◌, map}
use Rattle.std.specs.Prelude.{string_bytes}
use Rattle.given_text.proofs.WholeLaws.{text_answers, no_text_answer}
use Rattle.given_text.proofs.reader.bytes_given.Goals as goal

pub returns-in-Ok : goal.returns-in-Ok
returns-in-Ok c = text_answers (map string_bytes c.args.sizes_named.now) (map string_bytes c.args.inputs_named.now) c.args.text.now c.in-Ok.text.now
    c.text_given.result c.in-Ok.ensures.cases c.text_given.ensures

pub returns-in-Err : goal.returns-in-Err
returns-in-Err c = λ _. no_text_answer (map string_bytes c.args.sizes_named.now) (map string_bytes c.args.inputs_named.now) c.args.text.now
    c.valid_up_to.result c.in-Err.ensures.cases.0 (c.valid_up_to.ensures ∙ c.in-Err.ensures.valid_len)
