use Rattle.std.proofs.Common.{rules, ◌≡◌, ◌∙◌, ap, sym, ◌+◌, ◌*◌, ◌^◌, drop, length, min, arith}
use Rattle.affine_index.proofs.LimitedLaws.{ready-Mul, ready-items}
use Rattle.affine_index.proofs.MagLaws.{factors-next, stop-times}
use Rattle.affine_index.proofs.ReadyLaws.{atoms-ready-next}
use Rattle.affine_index.specs.Magnitude.{atom_magnitude, factors_magnitude}
use Rattle.affine_index.specs.declared.form.Atom.TheViews.{the_lemmas}
use Rattle.affine_index.proofs.mag.+mag.Goals as goal

pub atom_mag-factors_mag-requires : goal.atom_mag-factors_mag-requires
atom_mag-factors_mag-requires t c = (search (rules, the_lemmas), cc (ready-Mul (length c.args.maxima.now) (length c.args.vars.now) c.in-Mul.factors))

pub items_mag-terms_mag-requires : goal.items_mag-terms_mag-requires
items_mag-terms_mag-requires t c = (search (rules, the_lemmas), cc (ready-items (length c.args.maxima.now) (length c.args.vars.now) c.args.items.now))

pub factors_mag-loop-atom-preserved : goal.factors_mag-loop-atom-preserved
factors_mag-loop-atom-preserved t c =
    let s = c.args.maxima.now in
    let v = c.args.vars.now in
    let fs = c.args.atoms.now in
    let at = c.loop-atom.atom-index in
    let x = c.atom-item.result in
    let p = c.loop-atom.product in
    let r = factors_magnitude s v (drop (at + 1) fs) in
    let e : c.times-product.result ≡ min (p * min (atom_magnitude s v x) (2 ^ 63)) (2 ^ 63) =
    c.times-product.ensures ∙ ap (λ m. min (p * m) (2 ^ 63)) c.atom_mag.ensures in
    record {
      ready = atoms-ready-next (length s) (length v) fs at x c.loop-atom-test.true c.atom-item.is c.loop-atom.invariant.ready;
      stop = omega (arith, e);
      rest = ap (λ m. min (m * r) (2 ^ 63)) e ∙ stop-times p (atom_magnitude s v x) r (2 ^ 63)
          ∙ ap (λ m. min (p * m) (2 ^ 63)) (sym (factors-next s v fs at x c.loop-atom-test.true c.atom-item.is)) ∙ c.loop-atom.invariant.rest;
    }
