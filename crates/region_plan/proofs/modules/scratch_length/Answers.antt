use Rattle.std.proofs.Common.{◌∙◌, ap, map, subst, sym}
use Rattle.shape_rules.specs.Scopes.{given}
use Rattle.shape_rules.proofs.ModuleLaws.{module_free}
use Rattle.region_plan.specs.Shaped.{EachShaped}
use Rattle.region_plan.proofs.ModuleLaws.{module_shaped, needed_from, needed_is}
use Rattle.region_plan.proofs.modules.scratch_length.Goals as goal

pub needs-requires-clause-shaped : goal.needs-requires-clause-shaped
needs-requires-clause-shaped c =
    subst (EachShaped c.in_ok-shapes.shapes) (sym c.as_slice-2.ensures)
    (module_shaped c.args.module.now c.in_ok-shapes.shapes c.requires (c.in_ok-shapes.ensures ∙ ap (map (λ d. d.extents)) c.as_slice.ensures))

pub needs-requires-clause-free : goal.needs-requires-clause-free
needs-requires-clause-free c =
    module_free c.args.module.now (given c.in_ok-shapes.shapes) (c.in_ok-shapes.ensures ∙ ap (map (λ d. d.extents)) c.as_slice.ensures) c.requires.scoped

pub returns-clause-need : goal.returns-clause-need
returns-clause-need c =
    needed_is c.args.module.now c.in_ok-length.length c.requires
    (needed_from c.args.module.now c.as_slice-2.result.now (given c.in_ok-shapes.shapes) c.in_ok-needs.needs c.in_ok-length.length c.as_slice-2.ensures
    (c.in_ok-shapes.ensures ∙ ap (map (λ d. d.extents)) c.as_slice.ensures) c.in_ok-needs.ensures c.in_ok-length.ensures)
