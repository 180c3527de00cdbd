use Rattle.std.proofs.Common.{◌∙◌, subst}
use Rattle.atl_reader.specs.Source.{Answers, read_text}
use Rattle.atl_reader.proofs.Bytes.{bytes_answer, text_answers}
use Rattle.atl_reader.proofs.source.read_bytes.Goals as goal

pub returns-in-Ok : goal.returns-in-Ok
returns-in-Ok c =
    text_answers c.args.text.now c.in-Ok.text.now c.read_text.result c.in-Ok.ensures.cases
    (subst (λ n. Answers c.read_text.result (read_text n c.in-Ok.text.now)) c.version_of-version.ensures c.read_text.ensures)

pub returns-in-Err : goal.returns-in-Err
returns-in-Err c = λ _. bytes_answer c.args.text.now c.valid_up_to.result c.in-Err.ensures.cases.0 (c.valid_up_to.ensures ∙ c.in-Err.ensures.valid_len)
