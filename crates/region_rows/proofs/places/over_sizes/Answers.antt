use Rattle.std.proofs.Common.{◌∙◌, sym}
use Rattle.shape_rules.proofs.FreeForms.{scoped_free}
use Rattle.region_rows.proofs.places.over_sizes.Goals as goal

pub returns-then-is_scoped : goal.returns-then-is_scoped
returns-then-is_scoped c = scoped_free 2 c.in_ok-form.form (sym c.is_scoped.ensures ∙ c.if-is_scoped.true)
