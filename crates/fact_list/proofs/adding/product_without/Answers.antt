use Rattle.std.proofs.Common.{◌∙◌, Some, ap}
use Rattle.std.specs.Prelude.{pos}
use Rattle.affine_index.specs.Normal.{is_normal}
use Rattle.affine_index.specs.declared.form.Atom.{Atom}
use Rattle.fact_list.proofs.OthersLaws.{without-alone}
use Rattle.fact_list.specs.Facts.{product_of_others, single}
use Rattle.fact_list.proofs.adding.product_without.Goals as goal

pub single-requires : goal.single-requires
single-requires c =
    let alone = without-alone c.args.factor.now c.args.factors.now c.in_ok-others.others c.requires (c.in_ok-others.ensures {u = tt}) in
    ap (λ (a : Atom). is_normal (single (pos 1) a (pos 0))) c.joined.ensures ∙ alone.normal

pub returns : goal.returns
returns c =
    let e = c.in_ok-others.ensures {u = tt} in
    let alone = without-alone c.args.factor.now c.args.factors.now c.in_ok-others.others c.requires e in
    ap Some (c.in_ok-form.ensures {u = tt} ∙ ap (λ (a : Atom). single (pos 1) a (pos 0)) c.joined.ensures) ∙ alone.is ∙ ap product_of_others e
