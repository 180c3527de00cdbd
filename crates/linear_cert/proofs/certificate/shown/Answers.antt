use Rattle.std.proofs.Common.{◌∙◌, ap, sym, subst}
use Rattle.std.specs.Option.{is_some}
use Rattle.fact_list.specs.Normal.{PathNormal}
use Rattle.linear_cert.proofs.ShownTrue.{shown-at-place, shown-true}
use Rattle.linear_cert.specs.DefaultLines.{default_lines_of}
use Rattle.linear_cert.specs.Shown.{is_shown, lines_show}
use Rattle.linear_cert.proofs.certificate.shown.Goals as goal

pub returns-in-Default-clause-exact : goal.returns-in-Default-clause-exact
returns-in-Default-clause-exact c =
    c.is_some.ensures ∙ ap is_some
    (c.in_ok-found-in-Default.ensures {u = tt} ∙ ap (λ xs. default_lines_of xs c.args.goal.now) (c.as_slice-in-Default.ensures ∙ c.in_ok-list.ensures.is))
    ∙ ap (is_shown c.args.facts.now c.args.goal.now) (sym c.in-Default.is)

pub returns-in-Default-clause-true_goal : goal.returns-in-Default-clause-true_goal
returns-in-Default-clause-true_goal c =
    let exact = c.is_some.ensures
    ∙ ap is_some (c.in_ok-found-in-Default.ensures {u = tt}
    ∙ ap (λ xs. default_lines_of xs c.args.goal.now) (c.as_slice-in-Default.ensures ∙ c.in_ok-list.ensures.is))
    ∙ ap (is_shown c.args.facts.now c.args.goal.now) (sym c.in-Default.is) in
    λ h s r. shown-true c.args.facts.now c.args.goal.now c.args.lines.now c.told.ensures (sym exact ∙ h) s r

pub returns-clause-true_goal : goal.returns-clause-true_goal
returns-clause-true_goal c =
    let exact = c.in_ok-answer-in-Given.ensures {u = tt}
    ∙ (λ k. lines_show ((c.as_slice-in-Given.ensures ∙ c.in_ok-list.ensures.is) k) c.args.goal.now (c.as_slice-in-Given-2.ensures k))
    ∙ ap (is_shown c.args.facts.now c.args.goal.now) (sym c.in-Given.is) in
    λ h s r. shown-true c.args.facts.now c.args.goal.now c.args.lines.now c.told.ensures (sym exact ∙ h) s r

pub returns-in-Default-clause-true_at_place : goal.returns-in-Default-clause-true_at_place
returns-in-Default-clause-true_at_place c =
    let exact = c.is_some.ensures
    ∙ ap is_some (c.in_ok-found-in-Default.ensures {u = tt}
    ∙ ap (λ xs. default_lines_of xs c.args.goal.now) (c.as_slice-in-Default.ensures ∙ c.in_ok-list.ensures.is))
    ∙ ap (is_shown c.args.facts.now c.args.goal.now) (sym c.in-Default.is) in
    λ h s r. shown-at-place c.args.facts.now c.args.goal.now c.args.lines.now c.told.ensures (subst PathNormal c.as_slice.ensures c.told_path.ensures)
    (sym exact ∙ h) s r

pub returns-clause-true_at_place : goal.returns-clause-true_at_place
returns-clause-true_at_place c =
    let exact = c.in_ok-answer-in-Given.ensures {u = tt}
    ∙ (λ k. lines_show ((c.as_slice-in-Given.ensures ∙ c.in_ok-list.ensures.is) k) c.args.goal.now (c.as_slice-in-Given-2.ensures k))
    ∙ ap (is_shown c.args.facts.now c.args.goal.now) (sym c.in-Given.is) in
    λ h s r. shown-at-place c.args.facts.now c.args.goal.now c.args.lines.now c.told.ensures (subst PathNormal c.as_slice.ensures c.told_path.ensures)
    (sym exact ∙ h) s r
