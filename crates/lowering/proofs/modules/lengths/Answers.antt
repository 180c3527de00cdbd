use Rattle.std.proofs.Common.{◌≡◌, List, ◌++◌, ◌∙◌, append_assoc, ap, map, subst, sym}
use Rattle.std.specs.Prelude.{All}
use Rattle.region_plan.specs.Shaped.{IsShaped}
use Rattle.shape_rules.specs.Scopes.{given}
use Rattle.term_tree.specs.declared.term.OutputDecl.{OutputDecl}
use Rattle.final_rules.specs.declared.printing.Scene.{Scene}
use Rattle.final_rules.specs.Places.{extents_under}
use Rattle.final_rules.specs.Rules.{output_extents}
use Rattle.lowering_laws.specs.Lowered.{scratch_lengths, words_tree}
use Rattle.lowering.proofs.modules.lengths.Goals as goal

pub output_lengths-requires-clause-shaped : goal.output_lengths-requires-clause-shaped
output_lengths-requires-clause-shaped c =
    subst (λ (os : List OutputDecl). All (λ o. IsShaped c.args.scene.now.shapes o.term) os) (sym c.as_slice-2.ensures)
    (subst (λ (sc : Scene). All (λ o. IsShaped sc.shapes o.term) c.args.module.now.outputs) (sym c.requires.scene)
    (λ k d l. (c.requires.ready.outputs k d l).shaped))

pub returns : goal.returns
returns c =
    let m = c.args.module.now in
    let ins : c.in_ok-all.all ≡ map (λ d. words_tree d.extents) m.inputs = c.in_ok-all.ensures ∙ ap (map (λ d. words_tree d.extents)) c.as_slice.ensures in
    let outs : c.in_ok-outputs.outputs ≡ map (λ o. words_tree (output_extents m o)) m.outputs =
    c.in_ok-outputs.ensures ∙ (λ i. map (λ o. words_tree (extents_under o.term (given (c.requires.scene i).shapes))) (c.as_slice-2.ensures i)) in
    let scratch = scratch_lengths m c.args.lets in
    c.in_ok-append-2.ensures {u = tt} ∙ (λ i. c.in_ok-append.ensures {u = tt} i ++ c.in_ok-scratch.ensures i)
    ∙ (λ i. (ins i ++ outs i) ++ scratch)
    ∙ append_assoc (map (λ d. words_tree d.extents) m.inputs) (map (λ o. words_tree (output_extents m o)) m.outputs) scratch
