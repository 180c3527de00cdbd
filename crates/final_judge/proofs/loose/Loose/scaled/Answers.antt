use Rattle.std.proofs.Common.{◌∙◌, ap, rules}
use Rattle.std.proofs.lemmas.Int.{to_z-of_z}
use mir.Syntax.{w128}
use mir.Val.{SFits}
use Rattle.affine_index.specs.Sum.{scaled}
use Rattle.final_judge.proofs.LooseLaws.{scaled-in-order}
use Rattle.final_judge.proofs.loose.Loose.scaled.Goals as goal

pub settled-requires : goal.settled-requires
settled-requires c =
    let fits : SFits w128 c.args.by = search rules in
    scaled-in-order c.args.by c.form.result.now c.in_ok-form.form c.in_ok-product.product c.in_ok-form.ensures
    (c.in_ok-product.ensures ∙ ap (λ z. scaled z c.in_ok-form.form) (to_z-of_z w128 c.args.by fits)) c.form.ensures.ordered
