use Rattle.std.proofs.Common.{rules, ◌≡◌, subst, IfOk, true, false}
use Rattle.affine_index.specs.Normal.{coefficients_fit as form_fits, is_short}
use Rattle.affine_index.specs.declared.form.Items.{Items}
use Rattle.path_focus.specs.Outcome.{IsDraft}
use Rattle.path_focus.specs.Making.{rest_below}
use Rattle.rule_parts.specs.Conds.{both_at_least}
use Rattle.term_tree.specs.Syntax.{guard, index}
use Rattle.rules_guard.proofs.AccessLaws.{row_long}
use Rattle.rules_guard.proofs.rows.with_bounds.Goals as goal

pub returns-in-Ok : goal.returns-in-Ok
returns-in-Ok c =
    subst (λ (y : Items). IfOk c.guarded_row.result (IsDraft (guard (both_at_least c.args.x.now y) (index c.args.array.now c.args.x.now)))) c.in-Ok.ensures
    c.guarded_row.ensures

pub returns-in-Err-IndexTooLong : goal.returns-in-Err-IndexTooLong
returns-in-Err-IndexTooLong c =
    let rest = rest_below c.args.n.now c.args.x.now in
    let fits : form_fits rest ≡ true = search rules in
    let long : is_short rest ≡ false = search rules in
    row_long c.args.n.now c.args.x.now c.args.array.now c.told.ensures c.told-2.ensures (fits, long)
