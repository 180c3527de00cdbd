use Rattle.std.proofs.Common.{◌≡◌, Ok, Err, map, subst, sym, rules}
use Rattle.path_focus.specs.Outcome.{conditions_of}
use Rattle.rules_loop.specs.Rules.{IsConditions}
use Rattle.schedule_run.specs.Conditions.{TellsOwed, owed_by}
use Rattle.schedule_run.specs.Names.{meant_by}
use Rattle.schedule_run.proofs.OwedLaws.{owed_refused, owed_there}
use Rattle.schedule_run.proofs.StepLaws.{same_arguments}
use Rattle.script_arguments.specs.Arguments.{arguments_at}
use Rattle.schedule_run.proofs.conditions.owed_at_place.Goals as goal

pub returns-in-Ok : goal.returns-in-Ok
returns-in-Ok c =
    let m = c.args.module.now in
    let s = c.args.step.now in
    let f = c.args.focus.now in
    let last : c.as_slice-2.result.now ≡ c.in_ok-args.args = search rules in
    let same : c.as_slice-2.result.now ≡ arguments_at (map (λ d. d.name) m.sizes) f s.rule s.args
    = same_arguments m.sizes c.as_slice-sizes.result.now f s.rule c.as_str.result.now s.args c.as_slice.result.now c.in_ok-args.args
    c.as_slice-2.result.now c.as_slice-sizes.ensures c.as_str.ensures c.as_slice.ensures c.in_ok-args.ensures last in
    owed_there (meant_by c.args.rule f (arguments_at (map (λ d. d.name) m.sizes) f s.rule s.args)) c.in-Ok.conditions
    (subst (λ as'. IsConditions (conditions_of (meant_by c.args.rule f as')) (Ok c.in-Ok.conditions)) same c.in-Ok.ensures)

pub returns : goal.returns
returns c =
    let m = c.args.module.now in
    let s = c.args.step.now in
    let f = c.args.focus.now in
    let last : c.as_slice-2.result.now ≡ c.in_ok-args.args = search rules in
    let same : c.as_slice-2.result.now ≡ arguments_at (map (λ d. d.name) m.sizes) f s.rule s.args
    = same_arguments m.sizes c.as_slice-sizes.result.now f s.rule c.as_str.result.now s.args c.as_slice.result.now c.in_ok-args.args
    c.as_slice-2.result.now c.as_slice-sizes.ensures c.as_str.ensures c.as_slice.ensures c.in_ok-args.ensures last in
    let q = meant_by c.args.rule f (arguments_at (map (λ d. d.name) m.sizes) f s.rule s.args) in
    subst (TellsOwed (owed_by q)) (sym c.kind_of.ensures)
    (owed_refused q c.in-Err.fault
    (subst (λ as'. IsConditions (conditions_of (meant_by c.args.rule f as')) (Err c.in-Err.fault)) same (c.in-Err.ensures {u = tt})))
