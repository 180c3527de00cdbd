use Rattle.std.proofs.Common.{rules, ◌≡◌, ◌∙◌, ap, sym, subst, ◌^◌, ◌+◌, ◌*◌, ◌<◌, length, drop, get_or, arith}
use Rattle.std.proofs.lemmas.Int.{to_z-of_z}
use Rattle.std.specs.Int.RustNames.{unsigned_abs}
use Rattle.std.specs.Prelude.{ℤ}
use mir.Syntax.{w128}
use mir.Val.{SFits}
use Rattle.affine_index.proofs.NormLaws.{atom_times-norm, scaled-norm, sum-norm}
use Rattle.affine_index.proofs.ProductLaws.{norm-step, product-step}
use Rattle.affine_index.specs.Product.{atom_times, term_products}
use Rattle.affine_index.specs.Sum.{add_up, scaled, sum_of}
use Rattle.affine_index.specs.Wide.{norm}
use Rattle.affine_index.proofs.ProductLaws.{most}
use Rattle.affine_index.proofs.product.product.Goals as goal

pub loop-at-preserved : goal.loop-at-preserved
loop-at-preserved c =
    let b = c.args.b.now in
    let ts = c.args.a.now.terms in
    let at = c.loop-at.at in
    let t = c.get-item.result.now in
    let lt : at < length ts = omega (arith, c.loop-at-test.true, c.len-at-end.ensures, ap length c.terms.ensures) in
    let e : t ≡ get_or ts at t = c.get-item.ensures ∙ ap (λ us. get_or us at t) c.terms-in-loop-at.ensures in
    let s : c.in_ok-total-2.total ≡ sum_of c.loop-at.total (scaled t.coefficient (atom_times t.atom b)) = c.in_ok-total-2.ensures {u = tt} in
    record {
      room = omega (
        arith,
        ap norm s,
        sum-norm c.loop-at.total (scaled t.coefficient (atom_times t.atom b)),
        scaled-norm t.coefficient (atom_times t.atom b),
        most (unsigned_abs t.coefficient) (norm (atom_times t.atom b)) (norm b) (atom_times-norm t.atom b),
        ap (λ n. n * norm b) (norm-step ts at t lt e),
        c.loop-at.invariant.room,
      );
      rest = ap (add_up (term_products (drop (at + 1) ts) b)) s ∙ product-step ts b at t c.loop-at.total lt e ∙ c.loop-at.invariant.rest;
    }

pub loop-at-init : goal.loop-at-init
loop-at-init c =
    let a = c.args.a.now in
    let b = c.args.b.now in
    let wide : SFits w128 c.constant.result = search rules in
    let z = to_z-of_z w128 c.constant.result wide ∙ c.constant.ensures in
    let p : c.in_ok-total.total ≡ scaled a.constant b = c.in_ok-total.ensures {u = tt} ∙ (λ k. scaled (z k) (c.in_ok-copy_wide.ensures {u = tt} k)) in
    record {
      room = omega (arith, ap norm p, scaled-norm a.constant b);
      rest = ap (add_up (term_products a.terms b)) p;
    }

pub plus_item-requires : goal.plus_item-requires
plus_item-requires c =
    let b = c.args.b.now in
    let ts = c.args.a.now.terms in
    let at = c.loop-at.at in
    let t = c.get-item.result.now in
    let lt : at < length ts = omega (arith, c.loop-at-test.true, c.len-at-end.ensures, ap length c.terms.ensures) in
    let e : t ≡ get_or ts at t = c.get-item.ensures ∙ ap (λ us. get_or us at t) c.terms-in-loop-at.ensures in
    record { room = omega (arith, ap (λ n. n * norm b) (norm-step ts at t lt e), c.loop-at.invariant.room, c.requires.room); second = c.requires.second }

pub scaled-requires : goal.scaled-requires
scaled-requires c =
    let a = c.args.a.now in
    let b = c.args.b.now in
    let wide : SFits w128 c.constant.result = search rules in
    let z = to_z-of_z w128 c.constant.result wide ∙ c.constant.ensures in
    let fits : ℤ → Type 0 = λ x. unsigned_abs x * norm c.in_ok-copy_wide.field-0 < 2 ^ 127 in
    subst fits (sym z) (omega (arith, ap (λ i. unsigned_abs a.constant * norm i) (c.in_ok-copy_wide.ensures {u = tt}), c.requires.room))
