use Rattle.std.proofs.Common.{rules, ◌≡◌, ◌∙◌, ap, arith}
use Rattle.std.proofs.lemmas.Int.{to_z-of_z}
use mir.Syntax.{w128}
use mir.Val.{SFits}
use Rattle.affine_index.proofs.ArithmeticLaws.{ok_same}
use Rattle.affine_index.proofs.NormLaws.{scaled-norm}
use Rattle.affine_index.specs.Form.{of_atom}
use Rattle.affine_index.specs.Product.{atom_product}
use Rattle.affine_index.specs.Sum.{scaled, sum_of}
use Rattle.affine_index.specs.Wide.{norm}
use Rattle.affine_index.proofs.product.plus_atom.Goals as goal

pub sum-requires : goal.sum-requires
sum-requires c =
    let x = c.args.atom.now in
    let t = c.args.item.now in
    let wide : SFits w128 c.coefficient.result = search rules in
    let z = to_z-of_z w128 c.coefficient.result wide ∙ c.coefficient.ensures in
    let p : c.in_ok-product.product ≡ scaled t.coefficient (of_atom (atom_product x t.atom)) =
    c.in_ok-product.ensures {u = tt} ∙ (λ k. scaled (z k) (of_atom ((c.in_ok-atoms.ensures {u = tt} ∙ ap (atom_product x) c.atom.ensures) k))) in
    omega (arith, ap norm p, scaled-norm t.coefficient (of_atom (atom_product x t.atom)), c.requires)

pub returns : goal.returns
returns c =
    let x = c.args.atom.now in
    let t = c.args.item.now in
    let wide : SFits w128 c.coefficient.result = search rules in
    let z = to_z-of_z w128 c.coefficient.result wide ∙ c.coefficient.ensures in
    let p : c.in_ok-product.product ≡ scaled t.coefficient (of_atom (atom_product x t.atom)) =
    c.in_ok-product.ensures {u = tt} ∙ (λ k. scaled (z k) (of_atom ((c.in_ok-atoms.ensures {u = tt} ∙ ap (atom_product x) c.atom.ensures) k))) in
    ok_same c.sum.result _ _ (ap (sum_of c.args.total) p) c.sum.ensures
