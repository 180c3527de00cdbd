use Rattle.std.proofs.Common.{rules, ◌≡◌, ◌∙◌, ap, ◌+◌, ◌<◌, length, drop, get_or, arith}
use Rattle.std.proofs.lemmas.Int.{to_z-of_z}
use mir.Syntax.{w128}
use mir.Val.{SFits}
use Rattle.affine_index.proofs.NormLaws.{scaled-norm, sum-norm}
use Rattle.affine_index.proofs.ProductLaws.{atom_times-step, norm-step}
use Rattle.affine_index.specs.Form.{of_atom}
use Rattle.affine_index.specs.Product.{atom_product, atom_products}
use Rattle.affine_index.specs.Sum.{add_up, scaled, sum_of}
use Rattle.affine_index.specs.Wide.{norm}
use Rattle.affine_index.proofs.product.atom_times.Goals as goal

pub loop-at-preserved : goal.loop-at-preserved
loop-at-preserved c =
    let x = c.args.atom.now in
    let ts = c.args.form.now.terms in
    let at = c.loop-at.at in
    let t = c.get-item.result.now in
    let lt : at < length ts = omega (arith, c.loop-at-test.true, c.len-at-end.ensures, ap length c.terms.ensures) in
    let e : t ≡ get_or ts at t = c.get-item.ensures ∙ ap (λ us. get_or us at t) c.terms-in-loop-at.ensures in
    let s : c.in_ok-total-2.total ≡ sum_of c.loop-at.total (scaled t.coefficient (of_atom (atom_product x t.atom))) = c.in_ok-total-2.ensures {u = tt} in
    record {
      room = omega (
        arith,
        ap norm s,
        sum-norm c.loop-at.total (scaled t.coefficient (of_atom (atom_product x t.atom))),
        scaled-norm t.coefficient (of_atom (atom_product x t.atom)),
        norm-step ts at t lt e,
        c.loop-at.invariant.room,
      );
      rest = ap (add_up (atom_products x (drop (at + 1) ts))) s ∙ atom_times-step x ts at t c.loop-at.total lt e ∙ c.loop-at.invariant.rest;
    }

pub loop-at-init : goal.loop-at-init
loop-at-init c =
    let x = c.args.atom.now in
    let form = c.args.form.now in
    let wide : SFits w128 c.constant.result = search rules in
    let z = to_z-of_z w128 c.constant.result wide ∙ c.constant.ensures in
    let p : c.in_ok-total.total ≡ scaled form.constant (of_atom x) =
    c.in_ok-total.ensures {u = tt} ∙ (λ k. scaled (z k) (of_atom (c.in_ok-copy_atom.ensures {u = tt} k))) in
    record {
      room = omega (arith, ap norm p, scaled-norm form.constant (of_atom x));
      rest = ap (add_up (atom_products x form.terms)) p;
    }

pub plus_atom-requires : goal.plus_atom-requires
plus_atom-requires c =
    let ts = c.args.form.now.terms in
    let at = c.loop-at.at in
    let t = c.get-item.result.now in
    let lt : at < length ts = omega (arith, c.loop-at-test.true, c.len-at-end.ensures, ap length c.terms.ensures) in
    let e : t ≡ get_or ts at t = c.get-item.ensures ∙ ap (λ us. get_or us at t) c.terms-in-loop-at.ensures in
    omega (arith, norm-step ts at t lt e, c.loop-at.invariant.room, c.requires)
