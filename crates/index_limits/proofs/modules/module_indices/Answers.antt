use Rattle.std.proofs.Common.{◌≡◌, ◌∙◌, Err, List, ap, length, map, rules, subst, sym, true}
use Rattle.region_plan.specs.Shaped.{EachShaped}
use Rattle.region_plan.proofs.ModuleLaws.{module_shaped}
use Rattle.shape_rules.specs.Scopes.{all_free, given}
use Rattle.shape_rules.proofs.ModuleLaws.{module_free}
use Rattle.term_tree.specs.declared.term.InputDecl.{InputDecl}
use Rattle.term_tree.specs.declared.term.OutputDecl.{OutputDecl}
use Rattle.final_rules.specs.Printed.{length_printed}
use Rattle.final_rules.specs.Printing.{Counts, sized}
use Rattle.final_rules.specs.Rules.{nowhere_yet}
use Rattle.index_limits.specs.Modules.{lengths_printed, outputs_printed}
use Rattle.index_limits.specs.Ready.{AllInScope, OutputsReady}
use Rattle.index_limits.proofs.OutputLaws.{free-inputs, lengths-stop, module-then, ready-inputs, ready-lengths, ready-need, ready-outputs, scratch-stop}
use Rattle.index_limits.proofs.modules.module_indices.Goals as goal

pub input_lengths-requires-clause-free : goal.input_lengths-requires-clause-free
input_lengths-requires-clause-free c =
    let e = c.in_ok-scene.ensures.shapes ∙ ap (map (λ d. d.extents)) c.as_slice.ensures in
    subst (λ (ds : List InputDecl). all_free (map (λ d. d.extents) ds) ≡ true) (sym c.as_slice-2.ensures)
    (free-inputs c.args.module.now c.args.maxima.now c.in_ok-scene.scene c.requires.sound c.requires.sizes e c.in_ok-scene.ensures.offsets)

pub input_lengths-requires-clause-ready : goal.input_lengths-requires-clause-ready
input_lengths-requires-clause-ready c =
    let e = c.in_ok-scene.ensures.shapes ∙ ap (map (λ d. d.extents)) c.as_slice.ensures in
    subst (λ (ds : List InputDecl). AllInScope (length c.args.maxima.now) (map (λ d. length_printed d.extents nowhere_yet) ds)) (sym c.as_slice-2.ensures)
    (ready-inputs c.args.module.now c.args.maxima.now c.in_ok-scene.scene c.requires.sound c.requires.sizes e c.in_ok-scene.ensures.offsets)

pub output_lengths-requires-clause-shaped : goal.output_lengths-requires-clause-shaped
output_lengths-requires-clause-shaped c =
    let e = c.in_ok-scene.ensures.shapes ∙ ap (map (λ d. d.extents)) c.as_slice.ensures in
    subst (EachShaped c.in_ok-scene.scene.shapes) (sym c.as_slice-outputs.ensures)
    (module_shaped c.args.module.now c.in_ok-scene.scene.shapes c.requires.sound e)

pub output_lengths-requires-clause-free : goal.output_lengths-requires-clause-free
output_lengths-requires-clause-free c =
    module_free c.args.module.now (given c.in_ok-scene.scene.shapes) (c.in_ok-scene.ensures.shapes ∙ ap (map (λ d. d.extents)) c.as_slice.ensures)
    c.requires.sound.scoped

pub output_lengths-requires-clause-ready : goal.output_lengths-requires-clause-ready
output_lengths-requires-clause-ready c =
    let e = c.in_ok-scene.ensures.shapes ∙ ap (map (λ d. d.extents)) c.as_slice.ensures in
    subst (λ (os : List OutputDecl). AllInScope (length c.args.maxima.now) (lengths_printed (given c.in_ok-scene.scene.shapes) os))
    (sym c.as_slice-outputs.ensures)
    (ready-lengths c.args.module.now c.args.maxima.now c.in_ok-scene.scene c.requires.sound c.requires.sizes e c.in_ok-scene.ensures.offsets)

pub returns-in_err-number-2 : goal.returns-in_err-number-2
returns-in_err-number-2 c =
    let m = c.args.maxima.now in
    let e = c.in_ok-scene.ensures.shapes ∙ ap (map (λ d. d.extents)) c.as_slice.ensures in
    let error = c.in_err-number-2.field-0.0 in
    let is : c.from_residual-in_err-number-2.result ≡ Err error = search rules in
    lengths-stop c.args.module.now m c.in_ok-scene.scene c.requires.sound c.requires.sizes e c.in_ok-scene.ensures.offsets c.in_ok-number.number
    c.from_residual-in_err-number-2.result error
    (ap (λ ds. sized m (map (λ d. length_printed d.extents nowhere_yet) ds) 1) (sym c.as_slice-2.ensures) ∙ c.in_ok-number.ensures) is
    (subst (λ (os : List OutputDecl). Counts (sized m (lengths_printed (given c.in_ok-scene.scene.shapes) os) c.in_ok-number.number) (Err error))
    c.as_slice-outputs.ensures c.in_err-number-2.ensures)

pub scratch_length-requires-clause-scoped : goal.scratch_length-requires-clause-scoped
scratch_length-requires-clause-scoped c =
    let e = c.in_ok-scene.ensures.shapes ∙ ap (map (λ d. d.extents)) c.as_slice.ensures in
    ready-need c.args.module.now c.args.maxima.now c.in_ok-scene.scene c.requires.sound c.requires.sizes e c.in_ok-scene.ensures.offsets

pub returns-in_err-number-3 : goal.returns-in_err-number-3
returns-in_err-number-3 c =
    let m = c.args.maxima.now in
    let e = c.in_ok-scene.ensures.shapes ∙ ap (map (λ d. d.extents)) c.as_slice.ensures in
    let error = c.in_err-number-3.field-0.0 in
    let is : c.from_residual-in_err-number-3.result ≡ Err error = search rules in
    scratch-stop c.args.module.now m c.in_ok-scene.scene c.requires.sound c.requires.sizes e c.in_ok-scene.ensures.offsets c.in_ok-number.number
    c.in_ok-number-2.number c.from_residual-in_err-number-3.result error
    (ap (λ ds. sized m (map (λ d. length_printed d.extents nowhere_yet) ds) 1) (sym c.as_slice-2.ensures) ∙ c.in_ok-number.ensures)
    (ap (λ os. sized m (lengths_printed (given c.in_ok-scene.scene.shapes) os) c.in_ok-number.number) (sym c.as_slice-outputs.ensures)
    ∙ c.in_ok-number-2.ensures) is c.in_err-number-3.ensures

pub body-requires-clause-shaped : goal.body-requires-clause-shaped
body-requires-clause-shaped c =
    let e = c.in_ok-scene.ensures.shapes ∙ ap (map (λ d. d.extents)) c.as_slice.ensures in
    subst (EachShaped c.in_ok-scene.scene.shapes) (sym c.as_slice-outputs.ensures)
    (module_shaped c.args.module.now c.in_ok-scene.scene.shapes c.requires.sound e)

pub body-requires-clause-free : goal.body-requires-clause-free
body-requires-clause-free c =
    module_free c.args.module.now (given c.in_ok-scene.scene.shapes) (c.in_ok-scene.ensures.shapes ∙ ap (map (λ d. d.extents)) c.as_slice.ensures)
    c.requires.sound.scoped

pub body-requires-clause-ready : goal.body-requires-clause-ready
body-requires-clause-ready c =
    let e = c.in_ok-scene.ensures.shapes ∙ ap (map (λ d. d.extents)) c.as_slice.ensures in
    subst (λ (os : List OutputDecl). OutputsReady c.args.maxima.now c.in_ok-scene.scene os) (sym c.as_slice-outputs.ensures)
    (ready-outputs c.args.module.now c.args.maxima.now c.in_ok-scene.scene c.requires.sound c.requires.sizes e c.in_ok-scene.ensures.offsets)

pub returns : goal.returns
returns c =
    let m = c.args.maxima.now in
    let e = c.in_ok-scene.ensures.shapes ∙ ap (map (λ d. d.extents)) c.as_slice.ensures in
    module-then c.args.module.now m c.in_ok-scene.scene c.requires.sound c.requires.sizes e c.in_ok-scene.ensures.offsets c.in_ok-number.number
    c.in_ok-number-2.number c.in_ok-number-3.number c.body.result
    (ap (λ ds. sized m (map (λ d. length_printed d.extents nowhere_yet) ds) 1) (sym c.as_slice-2.ensures) ∙ c.in_ok-number.ensures)
    (ap (λ os. sized m (lengths_printed (given c.in_ok-scene.scene.shapes) os) c.in_ok-number.number) (sym c.as_slice-outputs.ensures)
    ∙ c.in_ok-number-2.ensures) c.in_ok-number-3.ensures
    (subst (λ (os : List OutputDecl). Counts (sized m (outputs_printed c.in_ok-scene.scene os) c.in_ok-number-3.number) c.body.result)
    c.as_slice-outputs.ensures c.body.ensures)
