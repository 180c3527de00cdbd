use Rattle.std.proofs.Common.{◌≡◌, ◌∙◌, None, ap, map, sym}
use Rattle.atl_meaning.specs.Exact.{outputs_exact}
use Rattle.atl_meaning.specs.Forms.{shapes_of}
use Rattle.atl_meaning.specs.Surveyed.{outputs_surveyed}
use Rattle.atl_meaning.specs.Values.{meant}
use Rattle.atl_meaning.specs.Words.{first_big_input, first_of}
use Rattle.atl_meaning.proofs.ModuleLaws.{inputs-ready, outputs-fit, outputs-ready}
use Rattle.atl_meaning.proofs.SurveyExact.{ready-of}
use Rattle.atl_meaning.proofs.outputs.answer.Goals as goal

pub first_big-requires : goal.first_big-requires
first_big-requires c =
    let m = c.args.«module».now in
    let s = c.args.sizes.now in
    record {
      inputs = inputs-ready m s c.requires.sound c.requires.allowed;
      outputs = outputs-ready m s c.requires.sound c.requires.allowed;
      shaped = c.requires.sound.shaped;
    }

pub left_of_limit-requires : goal.left_of_limit-requires
left_of_limit-requires c =
    let m = c.args.«module».now in
    let s = c.args.sizes.now in
    let none : first_of (first_big_input m.inputs s) (outputs_surveyed s m.outputs (shapes_of m.inputs)) ≡ None = sym c.in_ok-words.ensures ∙ c.in-None.is in
    ap (outputs_exact s) c.as_slice.ensures
    ∙ (ready-of s m.inputs m.outputs (shapes_of m.inputs) (inputs-ready m s c.requires.sound c.requires.allowed)
    (outputs-ready m s c.requires.sound c.requires.allowed) none).1

pub computed-requires : goal.computed-requires
computed-requires c =
    let m = c.args.«module».now in
    let s = c.args.sizes.now in
    let none : first_of (first_big_input m.inputs s) (outputs_surveyed s m.outputs (shapes_of m.inputs)) ≡ None = sym c.in_ok-words.ensures ∙ c.in-None.is in
    let both = ready-of s m.inputs m.outputs (shapes_of m.inputs) (inputs-ready m s c.requires.sound c.requires.allowed)
    (outputs-ready m s c.requires.sound c.requires.allowed) none in
    record {
      inputs = both.0;
      outputs = both.1;
      fits = outputs-fit m s c.requires.sound c.requires.allowed (map meant c.args.inputs.now) c.requires.inputs none;
    }
