use Rattle.std.proofs.Common.{sym, ◌∙◌, ◌&&◌}
use Rattle.region_plan.specs.Length.{same_length}
use Rattle.region_plan.proofs.Forms.{plain_topped, same-Topped}
use Rattle.region_plan.proofs.length.+same_length.Goals as goal

pub returns-in-Plain-Topped : goal.returns-in-Plain-Topped
returns-in-Plain-Topped t c = plain_topped c.args.a.now c.args.b.now c.in-Plain-Topped.field-0-0 c.in-Plain-Topped.field-0-1 c.in-Plain-Topped.field-1-1
    c.in-Plain-Topped.field-2-1 c.in-Plain-Topped.is-0 c.in-Plain-Topped.is-1

pub returns-in-Topped-Topped : goal.returns-in-Topped-Topped
returns-in-Topped-Topped t c =
    let q = c.same_length-firsts.ensures ∙ (λ i. same_length (c.get.ensures i) (c.get-in-Topped-Topped.ensures i)) in
    let r = c.same_length-seconds.ensures ∙ (λ i. same_length (c.get-in-Topped-Topped-2.ensures i) (c.get-in-Topped-Topped-3.ensures i)) in
    c.all.ensures ∙ (λ i. c.same_form-forms.ensures i && (q i && r i))
    ∙ sym (same-Topped c.in-Topped-Topped.x c.in-Topped-Topped.a c.in-Topped-Topped.b c.in-Topped-Topped.y c.in-Topped-Topped.c c.in-Topped-Topped.d)
    ∙ sym (λ i. same_length (c.in-Topped-Topped.is-0 i) (c.in-Topped-Topped.is-1 i))
