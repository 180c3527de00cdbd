use Rattle.std.proofs.Common.{rules, ◌≡◌, [], ap, sym, subst, true, ◌∙◌}
use Rattle.path_focus.specs.Outcome.{IsOutcome, Makes, Meant}
use Rattle.rules_let.specs.Operators.{is_operator, operator_around}
use Rattle.rules_let.proofs.OperatorFrames.{child_opened, op_made, opened_known, operator_may_move}
use Rattle.rules_let.specs.Table as table
use Rattle.term_tree.specs.Syntax.{let_in}
use Rattle.term_tree.specs.declared.term.Term.{Term, out-Term}
use Rattle.rules_let.proofs.operators.let_op.Goals as goal

pub around-requires : goal.around-requires
around-requires c = operator_may_move c.args.focus.now c.requires c.get-term.result.now (sym c.get-term.ensures)

pub returns : goal.returns
returns c =
    let e = c.get-term.result.now in
    let f = record c.args.focus.now { term = e } in
    let j = c.in-Some.step in
    let a = c.in-Some-let_child.definition.now in
    let b = c.in-Some-let_child.body.now in
    let answered : c.is_operator.result ≡ true = search rules in
    let op : is_operator e ≡ true = sym c.is_operator.ensures ∙ answered in
    let o = child_opened _ c.in-Some-child.inside.now c.in-Some-child.ensures in
    let known = opened_known e j b o.0 op o.1 in
    let made = op_made f c.args.args.now op j (sym c.number_of.ensures ∙ c.in-Some.is) o.0 o.1 a b (o.2 ∙ c.in-Some-let_child.ensures) in
    let node = c.in_ok-operator.ensures {u = tt} ∙ ap (operator_around (out-Term e) j) (c.in_ok-body.ensures {u = tt}) ∙ known.1 in
    let built = c.in_ok-term.ensures {u = tt} ∙ (λ i. let_in a (node i)) in
    subst (λ (m : Meant). IsOutcome m c.made.result)
    (sym (ap (λ (t : Term). table.let_op (record c.args.focus.now { term = t }) c.args.args.now) (sym c.get-term.ensures) ∙ made))
    (subst (λ (t : Term). IsOutcome (Makes t []) c.made.result) built c.made.ensures)
