use Rattle.std.proofs.Common.{rules, ◌≡◌, ◌∙◌, ap, sym, subst, ◌^◌, ◌*◌, ◌<◌, arith}
use Rattle.std.proofs.lemmas.Int.{to_z-of_z}
use Rattle.std.specs.Int.RustNames.{unsigned_abs}
use Rattle.std.specs.Prelude.{ℤ}
use mir.Syntax.{w128}
use mir.Val.{SFits}
use Rattle.affine_index.proofs.ArithmeticLaws.{ok_same}
use Rattle.affine_index.proofs.NormLaws.{atom_times-norm, scaled-norm}
use Rattle.affine_index.proofs.ProductLaws.{most}
use Rattle.affine_index.specs.Product.{atom_times}
use Rattle.affine_index.specs.Sum.{scaled, sum_of}
use Rattle.affine_index.specs.Wide.{norm}
use Rattle.affine_index.proofs.product.plus_item.Goals as goal

pub scaled-requires : goal.scaled-requires
scaled-requires c =
    let b = c.args.form.now in
    let t = c.args.item.now in
    let wide : SFits w128 c.coefficient.result = search rules in
    let z = to_z-of_z w128 c.coefficient.result wide ∙ c.coefficient.ensures in
    let times : c.in_ok-times.times ≡ atom_times t.atom b = c.in_ok-times.ensures {u = tt} ∙ ap (λ x. atom_times x b) c.atom.ensures in
    let fits : ℤ → Type 0 = λ x. unsigned_abs x * norm c.in_ok-times.times < 2 ^ 127 in
    subst fits (sym z) (omega (
      arith,
      ap (λ i. unsigned_abs t.coefficient * norm i) times,
      most (unsigned_abs t.coefficient) (norm (atom_times t.atom b)) (norm b) (atom_times-norm t.atom b),
      c.requires.room,
    ))

pub sum-requires : goal.sum-requires
sum-requires c =
    let b = c.args.form.now in
    let t = c.args.item.now in
    let wide : SFits w128 c.coefficient.result = search rules in
    let z = to_z-of_z w128 c.coefficient.result wide ∙ c.coefficient.ensures in
    let times : c.in_ok-times.times ≡ atom_times t.atom b = c.in_ok-times.ensures {u = tt} ∙ ap (λ x. atom_times x b) c.atom.ensures in
    let p : c.in_ok-product.product ≡ scaled t.coefficient (atom_times t.atom b) = c.in_ok-product.ensures {u = tt} ∙ (λ k. scaled (z k) (times k)) in
    omega (
      arith,
      ap norm p,
      scaled-norm t.coefficient (atom_times t.atom b),
      most (unsigned_abs t.coefficient) (norm (atom_times t.atom b)) (norm b) (atom_times-norm t.atom b),
      c.requires.room,
    )

pub returns : goal.returns
returns c =
    let b = c.args.form.now in
    let t = c.args.item.now in
    let wide : SFits w128 c.coefficient.result = search rules in
    let z = to_z-of_z w128 c.coefficient.result wide ∙ c.coefficient.ensures in
    let times : c.in_ok-times.times ≡ atom_times t.atom b = c.in_ok-times.ensures {u = tt} ∙ ap (λ x. atom_times x b) c.atom.ensures in
    let p : c.in_ok-product.product ≡ scaled t.coefficient (atom_times t.atom b) = c.in_ok-product.ensures {u = tt} ∙ (λ k. scaled (z k) (times k)) in
    ok_same c.sum.result _ _ (ap (sum_of c.args.total) p) c.sum.ensures
