use Rattle.std.proofs.Common.{ap, sym, subst, ◌∙◌, [], IfOk}
use Rattle.path_focus.specs.Outcome.{IsOutcome, Makes, Meant, without_arguments}
use Rattle.term_tree.specs.Syntax.{add, guard, sub}
use Rattle.term_tree.specs.declared.term.Term.{Term}
use Rattle.term_tree.proofs.Forms.{Add-is, Sub-is}
use Rattle.rule_parts.proofs.DraftLaws.{unlike}
use Rattle.rule_parts.proofs.Parts.{not_either}
use Rattle.rules_guard.specs.Table as table
use Rattle.rules_guard.proofs.words.guard_add.Goals as goal

pub returns-in-Add : goal.returns-in-Add
returns-in-Add c =
    let body = c.in-Add.is ∙ Add-is _ _ ∙ (λ i. add (sym c.get-in-Add.ensures i) (sym c.get-in-Add-2.ensures i)) in
    let term = sym c.get.ensures ∙ c.in-Some.ensures ∙ (λ i. guard c.in-Some.cond.now (body i)) in
    subst (λ (m : Meant). IfOk c.guarded_sum.result (IsOutcome m))
    (sym (ap (λ (t : Term). table.guard_add (record c.args.focus.now { term = t }) c.args.args.now) term)) c.guarded_sum.ensures

pub returns-in-Sub : goal.returns-in-Sub
returns-in-Sub c =
    let body = c.in-Sub.is ∙ Sub-is _ _ ∙ (λ i. sub (sym c.get-in-Sub.ensures i) (sym c.get-in-Sub-2.ensures i)) in
    let term = sym c.get.ensures ∙ c.in-Some.ensures ∙ (λ i. guard c.in-Some.cond.now (body i)) in
    subst (λ (m : Meant). IfOk c.guarded_difference.result (IsOutcome m))
    (sym (ap (λ (t : Term). table.guard_add (record c.args.focus.now { term = t }) c.args.args.now) term)) c.guarded_difference.ensures

pub returns-in_default-body : goal.returns-in_default-body
returns-in_default-body c =
    let term = sym c.get.ensures ∙ c.in-Some.ensures in
    let g = c.in-Some.cond.now in
    unlike (table.guard_add c.args.focus.now c.args.args.now)
    (ap (λ (t : Term). table.guard_add (record c.args.focus.now { term = t }) c.args.args.now) term
    ∙ not_either c.in-Some.body.now c.in_default-body.not-Add c.in_default-body.not-Sub
    (λ a b. without_arguments c.args.args.now (Makes (add (guard g a) (guard g b)) []))
    (λ a b. without_arguments c.args.args.now (Makes (sub (guard g a) (guard g b)) [])))
