use Rattle.std.proofs.Common.{rules, ◌∙◌}
use Rattle.std.proofs.lemmas.Int.{to_z-of_z}
use mir.Syntax.{w64}
use mir.Val.{SFits}
use Rattle.affine_index.specs.Normal.{is_normal}
use Rattle.affine_index.specs.declared.form.Atom.TheVariants.{Div}
use Rattle.fact_list.proofs.CodeLaws.{quotient-times}
use Rattle.fact_list.specs.Facts.{single}
use Rattle.fact_list.proofs.limits.quotient_times.Goals as goal

pub single-requires : goal.single-requires
single-requires c =
    let wide : SFits w64 c.from.result = search rules in
    let wide-2 : SFits w64 c.from-2.result = search rules in
    let x = to_z-of_z w64 c.from.result wide ∙ c.from.ensures in
    let y = to_z-of_z w64 c.from-2.result wide-2 ∙ c.from-2.ensures in
    let a = c.in_ok-inside.ensures {u = tt} ∙ c.in_ok-copy_items.ensures {u = tt} in
    let h = (λ k. is_normal (single (x k) (Div (a k) c.args.divisor) (y k)))
    ∙ quotient-times c.args.dividend.now c.args.divisor c.args.rest c.requires.normal c.requires.below in
    h
