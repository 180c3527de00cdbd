use Rattle.std.proofs.Common.{rules, ◌∙◌, ◌+◌, ap, sym, take}
use Rattle.std.proofs.lemmas.Int.{to_z-of_z}
use mir.Syntax.{w64, w128}
use mir.Val.{SFits}
use Rattle.affine_index.specs.Form.{of_atom}
use Rattle.affine_index.specs.Normal.{none_zero}
use Rattle.affine_index.specs.Sum.{scaled}
use Rattle.fact_list.proofs.AtomLaws.{item-next}
use Rattle.zeroed_forms.proofs.dividends.widened.Goals as goal

pub loop-term-preserved : goal.loop-term-preserved
loop-term-preserved c =
    let e = c.as_slice-term-items.ensures in
    let x = c.term-item.result in
    let wide : SFits w128 c.from.result = search rules in
    let narrow : SFits w64 x.coefficient = search rules in
    let z = to_z-of_z w128 c.from.result wide ∙ c.from.ensures ∙ to_z-of_z w64 x.coefficient narrow in
    item-next c.as_slice-term-items.result.now c.loop-term.term-index x c.loop-term.terms c.into_terms.result c.append.new.self c.in_ok-item.item
    (ap none_zero e ∙ c.requires) c.loop-term-test.true c.term-item.is
    (c.loop-term.invariant ∙ ap (take c.loop-term.term-index) (sym e))
    (c.in_ok-item.ensures {u = tt} ∙ (λ k. scaled (z k) (of_atom (c.in_ok-atom.ensures {u = tt} k)))) c.into_terms.ensures (c.in_ok-append.ensures {u = tt})
    ∙ ap (take (c.loop-term.term-index + 1)) e
