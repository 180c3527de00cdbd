use Rattle.std.proofs.Common.{◌∙◌, ap, map, refl, subst, sym}
use Rattle.final_rules.specs.Rules.{output_spot}
use Rattle.final_judge.specs.Ready.{EachStands}
use Rattle.final_judge.proofs.StandLaws.{module-stands}
use Rattle.final_judge.proofs.outputs.goals.Goals as goal

pub outputs_goals-requires : goal.outputs_goals-requires
outputs_goals-requires c =
    subst (EachStands c.in-Ok.shapes output_spot) (sym c.as_slice-in-Ok.ensures)
    (module-stands c.args.module.now c.in-Ok.shapes output_spot c.requires.sound (c.in-Ok.ensures ∙ ap (map (λ d. d.extents)) c.as_slice.ensures)
    c.requires.nodes refl)
