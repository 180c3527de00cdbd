use Rattle.std.proofs.Common.{◌≡◌, Some, subst, rules}
use Rattle.std.specs.Prelude.{All}
use Rattle.path_focus.specs.Focus.{plugged_in}
use Rattle.path_focus.specs.Laws.{HasOrdered, IsKept, IsOrdered, ShapesKept}
use Rattle.schedule_run.proofs.VersionLaws.{inputs_after, kept_there, placed_version, shapes_there}
use Rattle.schedule_run.proofs.stepping.placed.Goals as goal

pub within-requires-clause-scoped : goal.within-requires-clause-scoped
within-requires-clause-scoped c =
    (kept_there c.args.module.now c.args.path.now c.args.term c.in-Ok.version c.requires.may c.requires.place c.in-Ok.ensures.keeps).scoped

pub within-requires-clause-inputs : goal.within-requires-clause-inputs
within-requires-clause-inputs c =
    let m = c.args.module.now in
    let there : plugged_in m c.args.path.now c.args.term ≡ Some c.in-Ok.version = search rules in
    inputs_after m c.args.path.now c.args.term c.in-Ok.version c.requires.may there

pub within-requires-clause-limits : goal.within-requires-clause-limits
within-requires-clause-limits c =
    (shapes_there c.args.module.now c.args.path.now c.args.term c.in-Ok.version c.requires.may c.requires.place c.in-Ok.ensures.shapes).limits

pub returns-in-Ok-within-clause-version : goal.returns-in-Ok-within-clause-version
returns-in-Ok-within-clause-version c =
    let m = c.args.module.now in
    let v = c.in-Ok.version in
    let there : plugged_in m c.args.path.now c.args.term ≡ Some v = search rules in
    let kept : IsKept m v = kept_there m c.args.path.now c.args.term v c.requires.may c.requires.place c.in-Ok.ensures.keeps in
    let same : ShapesKept m v = shapes_there m c.args.path.now c.args.term v c.requires.may c.requires.place c.in-Ok.ensures.shapes in
    let new : IsOrdered v = subst (λ os. All HasOrdered os) c.as_slice.ensures c.told_outputs.ensures in
    placed_version m c.args.path.now c.args.term v c.requires.may there kept same new c.in-Ok-within.ensures.few c.in-Ok-within.ensures.shallow
    c.in-Ok-within.ensures.shapes
