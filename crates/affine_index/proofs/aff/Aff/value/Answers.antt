use Rattle.std.proofs.Common.{◌≡◌, ◌∙◌, ap, sym, subst, true, length}
use Rattle.affine_index.proofs.ReadyLaws.{normal-ready}
use Rattle.affine_index.proofs.ValueLaws.{value-is}
use Rattle.affine_index.specs.Limited.{items_scoped, limited_value}
use Rattle.affine_index.specs.declared.form.Items.{Items}
use Rattle.affine_index.proofs.aff.Aff.value.Goals as goal

pub items_value-requires : goal.items_value-requires
items_value-requires c =
    let s = length c.args.sizes.now in
    let v = length c.args.vars.now in
    record { ready = normal-ready s v c.self.inside.items c.self.invariant (subst (λ (i : Items). items_scoped s v i ≡ true) (sym c.self.view_is) c.requires) }

pub returns-clause-value : goal.returns-clause-value
returns-clause-value c = value-is c.args.sizes.now c.args.vars.now c.args.self.now c.items_value.result
    (c.items_value.ensures ∙ ap (limited_value c.args.sizes.now c.args.vars.now) c.self.view_is)
