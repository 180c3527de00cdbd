use Rattle.std.proofs.Common.{◌∙◌, ap, map, subst, sym}
use Rattle.shape_rules.specs.Scopes.{given}
use Rattle.shape_rules.proofs.ModuleLaws.{module_free}
use Rattle.region_plan.specs.Shaped.{EachShaped}
use Rattle.region_plan.proofs.ModuleLaws.{module_shaped}
use Rattle.region_plan.proofs.modules.planned.Goals as goal

pub outputs-requires-clause-shaped : goal.outputs-requires-clause-shaped
outputs-requires-clause-shaped c =
    subst (EachShaped c.in_ok-shapes.shapes) (sym c.as_slice-2.ensures)
    (module_shaped c.args.module.now c.in_ok-shapes.shapes c.requires (c.in_ok-shapes.ensures ∙ ap (map (λ d. d.extents)) c.as_slice.ensures))

pub outputs-requires-clause-free : goal.outputs-requires-clause-free
outputs-requires-clause-free c =
    module_free c.args.module.now (given c.in_ok-shapes.shapes) (c.in_ok-shapes.ensures ∙ ap (map (λ d. d.extents)) c.as_slice.ensures) c.requires.scoped
