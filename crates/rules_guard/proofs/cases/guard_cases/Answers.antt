use Rattle.std.proofs.Common.{rules, ◌≡◌, length, sym, subst, true, false, Some}
use Rattle.affine_index.specs.Limited.{items_scoped}
use Rattle.fact_list.specs.Facts.{binders}
use Rattle.path_focus.specs.Outcome.{IsDraft, IsOutcome, Meant}
use Rattle.rule_parts.proofs.DraftLaws.{unfit}
use Rattle.rule_parts.specs.Conds.{at_least, below_zero}
use Rattle.term_tree.specs.Syntax.{add, guard}
use Rattle.term_tree.specs.declared.term.Term.{Term}
use Rattle.rules_guard.specs.Arguments.{bound_of}
use Rattle.rules_guard.specs.Table as table
use Rattle.rules_guard.proofs.CaseLaws.{in_both_cases, out_of_scope}
use Rattle.rules_guard.proofs.cases.guard_cases.Goals as goal

pub returns-then-not-is_scoped : goal.returns-then-not-is_scoped
returns-then-not-is_scoped c =
    let g = c.in-Some.form.now in
    let f = c.args.focus.now in
    let some : bound_of c.args.args.now ≡ Some g = search rules in
    let out : items_scoped (length f.facts.sizes) (binders f.facts.path) g ≡ false = search rules in
    unfit (table.guard_cases f c.args.args.now) (out_of_scope f c.args.args.now g some out)

pub returns : goal.returns
returns c =
    let g = c.in-Some.form.now in
    let f = c.args.focus.now in
    let some : bound_of c.args.args.now ≡ Some g = search rules in
    let within : items_scoped (length f.facts.sizes) (binders f.facts.path) g ≡ true = search rules in
    let e = c.get.ensures in
    subst (λ (m : Meant). IsOutcome m c.drafted.result) (sym (in_both_cases f c.args.args.now g some within))
    (c.drafted.ensures (add (guard (at_least g) f.term) (guard (below_zero g) f.term))
    (subst (λ (b : Term). IsDraft (add (guard (at_least g) b) (guard (below_zero g) b)) c.in_ok-draft.draft) e (c.in_ok-draft.ensures {u = tt})))
