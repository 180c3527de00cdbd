use Rattle.std.proofs.Common.{◌≡◌, Err, refl, rules, subst}
use Rattle.reindexer.specs.Limited.{Answers}
use Rattle.region_plan.specs.Needed.{words_form}
use Rattle.term_tree.specs.Shape.{Extents}
use Rattle.final_rules.specs.Printed.{form_small}
use Rattle.final_rules.specs.Printing.{next}
use Rattle.index_limits.proofs.FillLaws.{fill-stop, keep-stop}
use Rattle.index_limits.proofs.walk.fill_length.Goals as goal

pub returns-in_err-words : goal.returns-in_err-words
returns-in_err-words c =
    let ns = c.args.extents in
    let error = c.in_err-words.field-0.0 in
    let is : c.from_residual.result ≡ Err error = search rules in
    let due = next (form_small c.args.maxima.now c.args.vars.now (words_form ns)) c.args.offset.number in
    fill-stop due c.args.offset.form ns c.from_residual.result error is
    (keep-stop due (words_form ns) error (c.in_err-words.ensures (words_form ns)
    (subst (λ (us : Extents). Answers (words_form us) c.words_form-length.result) c.as_slice.ensures c.words_form-length.ensures)))

pub returns : goal.returns
returns c =
    let ns = c.args.extents in
    let k = c.in_ok-words.ensures (words_form ns)
    (subst (λ (us : Extents). Answers (words_form us) c.words_form-length.result) c.as_slice.ensures c.words_form-length.ensures) in
    (k.0, refl, c.in_ok-base.ensures, k.1)
