use Rattle.std.proofs.Common.{rules, ◌≤◌, ap, length, sym, subst, ◌∙◌}
use Rattle.affine_index.specs.Sum.{difference_of}
use Rattle.path_focus.specs.Outcome.{IsOutcome, Meant}
use Rattle.rule_parts.proofs.PatternLaws.{no_arguments}
use Rattle.term_tree.specs.Syntax.{index}
use Rattle.term_tree.specs.declared.term.Term.{Term}
use Rattle.rules_shape.specs.Indices as table
use Rattle.rules_shape.proofs.rows.padl_index.Goals as goal

pub returns : goal.returns
returns c =
    let x = c.in-Some.x.now in
    let term = sym c.get.ensures ∙ c.in-Some.ensures ∙ (λ i. index (c.in-Some-as_pad_l.ensures i) x) in
    let none : length c.args.args.now ≤ 0 = search rules in
    subst (λ (m : Meant). IsOutcome m c.drafted.result)
    (sym (ap (λ (t : Term). table.padl_index (record c.args.focus.now { term = t }) c.args.args.now) term ∙ no_arguments c.args.args.now _ none))
    (c.drafted.ensures (index c.in-Some-as_pad_l.e.now (difference_of x c.in-Some-as_pad_l.a.now)) (c.in_ok-draft.ensures {u = tt}))
