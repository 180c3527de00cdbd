use Rattle.std.proofs.Common.{ap, sym, ◌∙◌}
use Rattle.affine_index.specs.Product.{product_of}
use Rattle.affine_index.specs.Sum.{sum_of}
use Rattle.affine_index.specs.declared.form.Items.{Items}
use Rattle.fact_list.specs.Facts.{where_normal}
use Rattle.term_tree.specs.Shape.{same_form}
use Rattle.rules_shape_tensor.proofs.PlaceForms.{none_other, place_ordered, some_is}
use Rattle.rules_shape_tensor.proofs.places.is_place.Goals as goal

pub within_limits-requires : goal.within_limits-requires
within_limits-requires c =
    place_ordered c.args.a.now c.args.m.now c.told.ensures c.told-2.ensures c.args.b.now c.in_ok-total.total c.told-3.ensures c.requires
    (c.in_ok-total.ensures {u = tt})

pub returns-in-Some : goal.returns-in-Some
returns-in-Some c =
    let total = sum_of (product_of c.args.a.now c.args.m.now) c.args.b.now in
    let form = sym c.in-Some.is ∙ c.in_ok-form.ensures {u = tt} c.in_ok-total.total c.within_limits.ensures
    ∙ ap where_normal (c.in_ok-total.ensures {u = tt}) in
    c.is_same.ensures ∙ ap (λ (x : Items). same_form x c.args.x.now) (some_is total c.in-Some.form form)

pub returns-in-None : goal.returns-in-None
returns-in-None c =
    let total = sum_of (product_of c.args.a.now c.args.m.now) c.args.b.now in
    none_other total c.args.x.now c.told-4.ensures
    (sym c.in-None.is ∙ c.in_ok-form.ensures {u = tt} c.in_ok-total.total c.within_limits.ensures ∙ ap where_normal (c.in_ok-total.ensures {u = tt}))
