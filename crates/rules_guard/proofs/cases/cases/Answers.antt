use Rattle.std.proofs.Common.{rules, ◌≡◌, ◌∙◌, ap, sym, subst, IfOk, true, false}
use Rattle.affine_index.specs.Normal.{coefficients_fit as form_fits, is_short}
use Rattle.affine_index.specs.declared.form.Items.{Items}
use Rattle.path_focus.specs.Making.{rest_below}
use Rattle.path_focus.specs.Outcome.{IsDraft}
use Rattle.rule_parts.specs.Conds.{at_least}
use Rattle.term_tree.specs.Syntax.{add, guard}
use Rattle.rules_guard.proofs.CaseLaws.{cases_long}
use Rattle.rules_guard.proofs.cases.cases.Goals as goal

pub returns-in-Ok : goal.returns-in-Ok
returns-in-Ok c =
    let g = c.args.form.now in
    let e = c.args.body.now in
    subst (λ (y : Items). IfOk c.both.result (IsDraft (add (guard (at_least g) e) (guard (at_least y) e)))) (c.in-Ok.ensures
    ∙ (λ i. rest_below (c.in_ok-zero.ensures {u = tt} i) g)) c.both.ensures

pub returns-in-Err-IndexTooLong : goal.returns-in-Err-IndexTooLong
returns-in-Err-IndexTooLong c =
    let g = c.args.form.now in
    let other = rest_below c.in_ok-zero.zero g in
    let fits : form_fits other ≡ true = search rules in
    let long : is_short other ≡ false = search rules in
    let e = ap (λ (z : Items). rest_below z g) (c.in_ok-zero.ensures {u = tt}) in
    cases_long g c.args.body.now c.told.ensures c.told-2.ensures (sym (ap form_fits e) ∙ fits, sym (ap is_short e) ∙ long)
