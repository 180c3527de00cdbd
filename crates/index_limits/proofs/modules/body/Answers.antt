use Rattle.std.proofs.Common.{◌≡◌, ◌+◌, ◌∙◌, Err, List, Ok, ap, drop, rules, subst, sym}
use Rattle.region_plan.specs.Shaped.{EachShaped}
use Rattle.term_tree.specs.declared.term.OutputDecl.{OutputDecl}
use Rattle.final_rules.specs.Printing.{Counts, Sized, and_then, sized}
use Rattle.final_rules.specs.declared.printing.Scene.{Scene}
use Rattle.index_limits.specs.Modules.{output_printed, outputs_printed}
use Rattle.index_limits.specs.Ready.{OutputsReady}
use Rattle.index_limits.proofs.CountLaws.{stop-counts}
use Rattle.index_limits.proofs.OutputLaws.{output-next, outputs-rest}
use Rattle.index_limits.proofs.modules.body.Goals as goal

pub returns-in_err-number : goal.returns-in_err-number
returns-in_err-number c =
    let m = c.args.maxima.now in
    let scene = c.args.scene.now in
    let os = c.args.outputs.now in
    let i = c.loop-output.output-index in
    let o = c.output-item.result in
    let k = c.loop-output.number in
    let error = c.in_err-number.field-0.0 in
    let is : c.from_residual.result ≡ Err error = search rules in
    subst (λ (s : Sized). Counts s c.from_residual.result)
    (output-next m scene os i o k c.output-item.is c.loop-output-test.true ∙ c.loop-output.invariant.rest)
    (stop-counts (sized m (output_printed scene o) k) (sized m (outputs_printed scene (drop (i + 1) os))) c.from_residual.result error is
    (subst (λ (s : Scene). Counts (sized m (output_printed s o) k) (Err error)) c.loop-output.invariant.scene c.in_err-number.ensures.counts))

pub loop-output-preserved : goal.loop-output-preserved
loop-output-preserved c =
    let m = c.args.maxima.now in
    let scene = c.args.scene.now in
    let os = c.args.outputs.now in
    let i = c.loop-output.output-index in
    let o = c.output-item.result in
    let k = c.loop-output.number in
    let j = c.in_ok-number.number in
    let cut = outputs-rest os i o c.output-item.is c.loop-output-test.true in
    let next : sized m (output_printed scene o) k ≡ Ok j = subst (λ (s : Scene). Counts (sized m (output_printed s o) k) (Ok j)) c.loop-output.invariant.scene
    c.in_ok-number.ensures.counts in
    record {
      shaped = (subst (λ (us : List OutputDecl). EachShaped scene.shapes us) cut c.loop-output.invariant.shaped).1;
      ready = (subst (λ (us : List OutputDecl). OutputsReady m scene us) cut c.loop-output.invariant.ready).1;
      scene = c.in_ok-number.ensures.scene ∙ c.loop-output.invariant.scene;
      rest = ap (λ s. and_then s (sized m (outputs_printed scene (drop (i + 1) os)))) (sym next)
          ∙ output-next m scene os i o k c.output-item.is c.loop-output-test.true ∙ c.loop-output.invariant.rest;
    }
