use Rattle.std.proofs.Common.{rules, ap, sym, subst, ◌∙◌, ◌≤◌, length}
use Rattle.affine_index.specs.Sum.{sum_of}
use Rattle.rule_parts.specs.Conds.{at_least}
use Rattle.rules_shape_gen.specs.Rows.{back, row_of}
use Rattle.term_tree.specs.Syntax.{gen, guard, pad_l}
use Rattle.term_tree.specs.declared.term.Term.{Term}
use Rattle.path_focus.specs.Outcome.{IsOutcome, Meant}
use Rattle.rule_parts.proofs.PatternLaws.{no_arguments}
use Rattle.rules_shape_gen.specs.Table as table
use Rattle.rules_shape_gen.proofs.ReachLaws.{pad_reach}
use Rattle.rules_shape_gen.proofs.widths.pad_gen_l.Goals as goal

pub rows_behind-requires-clause-deep : goal.rows_behind-requires-clause-deep
rows_behind-requires-clause-deep c =
    (pad_reach c.args.focus.now c.requires c.in-Some.a.now c.in-Some-as_gen.n.now c.in-Some-as_gen.body.now
    (sym c.get.ensures ∙ c.in-Some.ensures ∙ (λ i. pad_l c.in-Some.a.now (c.in-Some-as_gen.ensures i)))).0

pub rows_behind-requires-clause-within : goal.rows_behind-requires-clause-within
rows_behind-requires-clause-within c =
    (pad_reach c.args.focus.now c.requires c.in-Some.a.now c.in-Some-as_gen.n.now c.in-Some-as_gen.body.now
    (sym c.get.ensures ∙ c.in-Some.ensures ∙ (λ i. pad_l c.in-Some.a.now (c.in-Some-as_gen.ensures i)))).1

pub returns : goal.returns
returns c =
    let a = c.in-Some.a.now in
    let n = c.in-Some-as_gen.n.now in
    let b = c.in-Some-as_gen.body.now in
    let term = sym c.get.ensures ∙ c.in-Some.ensures ∙ (λ i. pad_l c.in-Some.a.now (c.in-Some-as_gen.ensures i)) in
    let none : length c.args.args.now ≤ 0 = search rules in
    subst (λ (m : Meant). IsOutcome m c.drafted.result)
    (sym (ap (λ (t : Term). table.pad_gen_l (record c.args.focus.now { term = t }) c.args.args.now) term ∙ no_arguments c.args.args.now _ none))
    (c.drafted.ensures (gen (sum_of n a) (guard (at_least (back a)) (row_of n b (back a)))) (c.in_ok-draft.ensures {u = tt}))
