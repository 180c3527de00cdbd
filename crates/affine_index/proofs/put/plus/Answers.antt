use Rattle.std.proofs.Common.{rules, ◌≡◌, ◌∙◌, ap, sym, subst, ◌+◌, ◌*◌, ◌<◌, ◌^◌, arith, IfOk}
use Rattle.std.proofs.lemmas.Int.{to_z-of_z}
use Rattle.std.specs.Prelude.{ℤ}
use Rattle.std.specs.Int.RustNames.{unsigned_abs}
use mir.Syntax.{w64, w128}
use mir.Val.{SFits}
use Rattle.affine_index.specs.Sum.{scaled, sum_of}
use Rattle.affine_index.specs.Wide.{norm}
use Rattle.affine_index.specs.declared.form.Items.{Items}
use Rattle.affine_index.proofs.put.plus.Goals as goal

pub scaled-requires : goal.scaled-requires
scaled-requires c =
    let wide : SFits w128 c.from.result = search rules in
    let word : SFits w64 c.args.coefficient = search rules in
    let z = to_z-of_z w128 c.from.result wide ∙ c.from.ensures ∙ to_z-of_z w64 c.args.coefficient word in
    let fits : ℤ → Type 0 = λ x. unsigned_abs x * norm c.args.form < 2 ^ 127 in
    subst fits (sym z) c.requires.product

pub sum-requires : goal.sum-requires
sum-requires c =
    let wide : SFits w128 c.from.result = search rules in
    let word : SFits w64 c.args.coefficient = search rules in
    let z = to_z-of_z w128 c.from.result wide ∙ c.from.ensures ∙ to_z-of_z w64 c.args.coefficient word in
    let p : c.in_ok-product.product ≡ scaled c.args.coefficient c.args.form = c.in_ok-product.ensures ∙ ap (λ x. scaled x c.args.form) z in
    omega (arith, ap norm p, c.requires.room)

pub returns : goal.returns
returns c =
    let wide : SFits w128 c.from.result = search rules in
    let word : SFits w64 c.args.coefficient = search rules in
    let z = to_z-of_z w128 c.from.result wide ∙ c.from.ensures ∙ to_z-of_z w64 c.args.coefficient word in
    let p : c.in_ok-product.product ≡ scaled c.args.coefficient c.args.form = c.in_ok-product.ensures ∙ ap (λ x. scaled x c.args.form) z in
    subst (λ (q : Items). IfOk c.sum.result (λ s. s ≡ sum_of c.args.total q)) p c.sum.ensures
