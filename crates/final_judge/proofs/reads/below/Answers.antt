use Rattle.std.proofs.Common.{◌∙◌, ap, negsuc}
use Rattle.affine_index.specs.Sum.{scaled, sum_of}
use Rattle.affine_index.proofs.ArithmeticLaws.{minus-room}
use Rattle.final_judge.proofs.ClaimLaws.{below-ordered, below-room}
use Rattle.final_judge.proofs.reads.below.Goals as goal

pub scaled-requires : goal.scaled-requires
scaled-requires c = minus-room c.args.index.now c.in_ok-index.index c.in_ok-index.ensures.same c.copied.ensures.normal

pub sum-requires : goal.sum-requires
sum-requires c =
    below-room c.args.extent.now c.args.index.now c.in_ok-last.last c.in_ok-minus.minus c.last_row.ensures.normal c.copied.ensures.normal
    c.in_ok-last.ensures.form
    (c.in_ok-minus.ensures ∙ ap (scaled (negsuc 0)) c.in_ok-index.ensures.same)

pub kept-requires : goal.kept-requires
kept-requires c =
    below-ordered c.args.extent.now c.args.index.now c.in_ok-form.form c.last_row.ensures.normal c.copied.ensures.normal
    (c.in_ok-form.ensures ∙ (λ i. sum_of (c.in_ok-last.ensures.form i) ((c.in_ok-minus.ensures ∙ ap (scaled (negsuc 0)) c.in_ok-index.ensures.same) i)))
