use Rattle.std.proofs.Common.{ap, sym, subst, ◌∙◌, IfOk}
use Rattle.path_focus.specs.Outcome.{IsOutcome, Meant}
use Rattle.rule_parts.proofs.DraftLaws.{unlike}
use Rattle.rules_narrow.specs.Quotients.{div_zero, guard_zeroed, index_zeroed}
use Rattle.rules_narrow.proofs.CallLaws.{no_node}
use Rattle.term_tree.specs.Syntax.{guard, index}
use Rattle.term_tree.specs.declared.term.Term.{Term}
use Rattle.term_tree.proofs.Forms.{Guard-is, Index-is}
use Rattle.rules_narrow.proofs.quotients.div_zero.Goals as goal

pub returns-in-Index : goal.returns-in-Index
returns-in-Index c =
    let term = sym c.get.ensures ∙ c.in-Index.is ∙ Index-is _ _ ∙ (λ i. index (sym c.get-in-Index.ensures i) c.in-Index.x) in
    subst (λ (m : Meant). IfOk c.zero_in_index.result (IsOutcome m))
    (sym (ap (λ (t : Term). div_zero (record c.args.focus.now { term = t }) c.args.args.now) term)) c.zero_in_index.ensures

pub returns-in-Guard : goal.returns-in-Guard
returns-in-Guard c =
    let term = sym c.get.ensures ∙ c.in-Guard.is ∙ Guard-is _ _ ∙ (λ i. guard c.in-Guard.cond (sym c.get-in-Guard.ensures i)) in
    subst (λ (m : Meant). IfOk c.zero_in_guard.result (IsOutcome m))
    (sym (ap (λ (t : Term). div_zero (record c.args.focus.now { term = t }) c.args.args.now) term)) c.zero_in_guard.ensures

pub returns-in_default : goal.returns-in_default
returns-in_default c =
    let f = c.args.focus.now in
    unlike (div_zero f c.args.args.now)
    (ap (λ (t : Term). div_zero (record f { term = t }) c.args.args.now) (sym c.get.ensures)
    ∙ no_node c.get.result.now c.in_default.not-Index c.in_default.not-Guard (index_zeroed f.facts c.args.args.now) (guard_zeroed f.facts c.args.args.now))
