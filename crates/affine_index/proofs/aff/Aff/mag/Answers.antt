use Rattle.std.proofs.Common.{◌≡◌, ◌∙◌, ap, sym, subst, true, ◌^◌, length, min}
use Rattle.affine_index.proofs.ReadyLaws.{normal-ready}
use Rattle.affine_index.specs.Limited.{items_scoped}
use Rattle.affine_index.specs.Magnitude.{magnitude}
use Rattle.affine_index.specs.declared.form.Items.{Items}
use Rattle.affine_index.proofs.aff.Aff.mag.Goals as goal

pub items_mag-requires : goal.items_mag-requires
items_mag-requires c =
    let s = length c.args.maxima.now in
    let v = length c.args.vars.now in
    record { ready = normal-ready s v c.self.inside.items c.self.invariant (subst (λ (i : Items). items_scoped s v i ≡ true) (sym c.self.view_is) c.requires) }

pub returns : goal.returns
returns c = c.items_mag.ensures ∙ ap (λ i. min (magnitude c.args.maxima.now c.args.vars.now i) (2 ^ 63)) c.self.view_is
