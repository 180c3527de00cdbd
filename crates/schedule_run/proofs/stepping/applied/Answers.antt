use Rattle.std.proofs.Common.{◌≡◌, Ok, Err, map, subst, sym, ap, ◌∙◌, rules}
use Rattle.path_focus.specs.Outcome as rule
use Rattle.path_focus.specs.Outcome.{answer}
use Rattle.schedule_run.specs.Names.{meant_by}
use Rattle.schedule_run.specs.Verdict.{Tells, changed, step_fault}
use Rattle.schedule_run.proofs.StepLaws.{focus_fewer, led, rule_made, rule_refused, same_arguments}
use Rattle.schedule_run.proofs.VersionLaws.{may_place}
use Rattle.script_arguments.specs.Arguments.{arguments_at}
use Rattle.schedule_run.proofs.stepping.applied.Goals as goal

pub placed-requires-clause-place : goal.placed-requires-clause-place
placed-requires-clause-place c =
    let m = c.args.module.now in
    let p = c.args.step.now.path in
    may_place m p c.args.focus.now c.in-Ok.term (led m p c.args.focus.now c.requires.there) c.in-Ok.ensures.keeps.0 c.in-Ok.ensures.keeps.1

pub outside-requires-clause-within : goal.outside-requires-clause-within
outside-requires-clause-within c = focus_fewer c.args.module.now c.args.step.now.path c.args.focus.now c.requires.there

pub returns-in-Ok-clause-answers : goal.returns-in-Ok-clause-answers
returns-in-Ok-clause-answers c =
    let m = c.args.module.now in
    let s = c.args.step.now in
    let f = c.args.focus.now in
    let last : c.as_slice-2.result.now ≡ c.in_ok-args.args = search rules in
    let same : c.as_slice-2.result.now ≡ arguments_at (map (λ d. d.name) m.sizes) f s.rule s.args
    = same_arguments m.sizes c.as_slice-sizes.result.now f s.rule c.as_str.result.now s.args c.as_slice.result.now c.in_ok-args.args
    c.as_slice-2.result.now c.as_slice-sizes.ensures c.as_str.ensures c.as_slice.ensures c.in_ok-args.ensures last in
    let q = meant_by c.args.rule f (arguments_at (map (λ d. d.name) m.sizes) f s.rule s.args) in
    let a : rule.Answers (answer q s.lines) (Ok c.in-Ok.term)
    = subst (λ ls. rule.Answers (answer q ls) (Ok c.in-Ok.term)) c.as_slice-3.ensures
    (subst (λ as'. rule.Answers (answer (meant_by c.args.rule f as') c.as_slice-3.result.now) (Ok c.in-Ok.term)) same c.in-Ok.ensures.table) in
    rule_made m s.path f c.requires.there q s.lines c.in-Ok.term a c.placed.result c.placed.ensures.answers

pub returns-clause-answers : goal.returns-clause-answers
returns-clause-answers c =
    let m = c.args.module.now in
    let s = c.args.step.now in
    let f = c.args.focus.now in
    let last : c.as_slice-2.result.now ≡ c.in_ok-args.args = search rules in
    let same : c.as_slice-2.result.now ≡ arguments_at (map (λ d. d.name) m.sizes) f s.rule s.args
    = same_arguments m.sizes c.as_slice-sizes.result.now f s.rule c.as_str.result.now s.args c.as_slice.result.now c.in_ok-args.args
    c.as_slice-2.result.now c.as_slice-sizes.ensures c.as_str.ensures c.as_slice.ensures c.in_ok-args.ensures last in
    let q = meant_by c.args.rule f (arguments_at (map (λ d. d.name) m.sizes) f s.rule s.args) in
    let a : rule.Answers (answer q s.lines) (Err c.in-Err.fault)
    = subst (λ ls. rule.Answers (answer q ls) (Err c.in-Err.fault)) c.as_slice-3.ensures
    (subst (λ as'. rule.Answers (answer (meant_by c.args.rule f as') c.as_slice-3.result.now) (Err c.in-Err.fault)) same
    (c.in-Err.ensures {u = tt}).table) in
    subst (Tells (changed m s.path s.lines q)) (sym (c.kind_of.ensures ∙ ap (λ n. step_fault n c.in-Err.fault) c.outside.ensures))
    (rule_refused m s.path f c.requires.there q s.lines c.in-Err.fault a)
