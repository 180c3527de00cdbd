use Rattle.std.proofs.Common.{◌≡◌, List, ◌++◌, ◌∙◌, Bool, IfOk, ap, map, subst, sym}
use Rattle.std.specs.Prelude.{All}
use Rattle.loop_lang.specs.declared.stmt.Prog.{Prog}
use Rattle.loop_lang.specs.declared.stmt.Stmt.TheVariants.{Seq}
use Rattle.term_tree.specs.declared.term.OutputDecl.{OutputDecl}
use Rattle.final_rules.specs.declared.printing.Scene.{Scene}
use Rattle.final_rules.specs.Rules.{any_let, output_extents}
use Rattle.lowering_laws.specs.Lowered.{outputs_loops, scratch_lengths, scratch_many, words_tree}
use Rattle.lowering.specs.Outputs.{OutputReady, outer_scene, outputs_in}
use Rattle.lowering.proofs.OutputLaws.{outputs-are}
use Rattle.lowering.proofs.modules.program.Goals as goal

pub outputs_loops-requires-clause-ready : goal.outputs_loops-requires-clause-ready
outputs_loops-requires-clause-ready c =
    subst (λ (os : List OutputDecl). All (λ o. OutputReady c.in_ok-scene.scene o.term) os) (sym c.as_slice-3.ensures)
    (subst (λ (sc : Scene). All (λ o. OutputReady sc o.term) c.args.module.now.outputs) (sym (c.in_ok-scene.ensures ∙ ap outer_scene c.as_slice-2.ensures))
    c.requires.ready.outputs)

pub returns : goal.returns
returns c =
    let m = c.args.module.now in
    let paths = c.args.paths.now in
    let sizes = c.len-sizes.ensures in
    let inputs = c.len-inputs.ensures in
    let outputs = c.len-outputs.ensures in
    let lets = c.any_let-lets.ensures ∙ ap any_let c.as_slice.ensures in
    let scratch = c.scratch_many.ensures ∙ ap scratch_many lets in
    let lengths = c.in_ok-lengths.ensures ∙ ap (λ (b : Bool). map (λ d. words_tree d.extents) m.inputs ++ (map (λ o. words_tree (output_extents m o)) m.outputs
    ++ scratch_lengths m b)) lets in
    let scene = c.in_ok-scene.ensures ∙ ap outer_scene c.as_slice-2.ensures in
    let body : c.in_ok-body.body ≡ outputs_loops m paths m.outputs 0 =
    c.in_ok-body.ensures ∙ (λ i. outputs_in (scene i) paths (c.as_slice-3.ensures i) 0) ∙ outputs-are m paths m.outputs 0 in
    subst (λ (q : Prog). IfOk c.new.result (λ p. p ≡ q)) (λ i. record {
      sizes = sizes i;
      inputs = inputs i;
      outputs = outputs i;
      scratch = scratch i;
      lengths = lengths i;
      body = Seq (body i);
    }) c.new.ensures
