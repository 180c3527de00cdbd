use Rattle.std.proofs.Common.{rules, ap, sym, subst, ◌∙◌, ◌≤◌, length}
use Rattle.affine_index.specs.Form.{var_form}
use Rattle.affine_index.specs.Sum.{sum_of}
use Rattle.path_focus.specs.Making.{rest_below}
use Rattle.path_focus.specs.Outcome.{IsOutcome, Meant}
use Rattle.rule_parts.specs.Conds.{at_least}
use Rattle.rule_parts.proofs.PatternLaws.{no_arguments}
use Rattle.rules_shape_gen.specs.Rows.{back, row_of}
use Rattle.rules_shape_gen.specs.Table as table
use Rattle.rules_shape_gen.proofs.ReachLaws.{concat_reach}
use Rattle.term_tree.specs.Syntax.{add, concat, gen, guard}
use Rattle.term_tree.specs.declared.term.Term.{Term}
use Rattle.rules_shape_gen.proofs.concats.concat_gen.Goals as goal

pub both_rows-requires-clause-deep : goal.both_rows-requires-clause-deep
both_rows-requires-clause-deep c =
    (concat_reach c.args.focus.now c.requires c.in-Some-as_gen.n.now c.in-Some-as_gen.a.now c.in-Some-as_gen-2.m.now c.in-Some-as_gen-2.b.now
    (sym c.get.ensures ∙ c.in-Some.ensures ∙ (λ i. concat (c.in-Some-as_gen.ensures i) (c.in-Some-as_gen-2.ensures i)))).0

pub both_rows-requires-clause-within : goal.both_rows-requires-clause-within
both_rows-requires-clause-within c =
    (concat_reach c.args.focus.now c.requires c.in-Some-as_gen.n.now c.in-Some-as_gen.a.now c.in-Some-as_gen-2.m.now c.in-Some-as_gen-2.b.now
    (sym c.get.ensures ∙ c.in-Some.ensures ∙ (λ i. concat (c.in-Some-as_gen.ensures i) (c.in-Some-as_gen-2.ensures i)))).1

pub returns : goal.returns
returns c =
    let n = c.in-Some-as_gen.n.now in
    let a = c.in-Some-as_gen.a.now in
    let m = c.in-Some-as_gen-2.m.now in
    let b = c.in-Some-as_gen-2.b.now in
    let term = sym c.get.ensures ∙ c.in-Some.ensures ∙ (λ i. concat (c.in-Some-as_gen.ensures i) (c.in-Some-as_gen-2.ensures i)) in
    let none : length c.args.args.now ≤ 0 = search rules in
    subst (λ (m : Meant). IsOutcome m c.drafted.result)
    (sym (ap (λ (t : Term). table.concat_gen (record c.args.focus.now { term = t }) c.args.args.now) term ∙ no_arguments c.args.args.now _ none))
    (c.drafted.ensures
    (gen (sum_of n m) (add (guard (at_least (rest_below n (var_form 0))) a) (guard (at_least (back n)) (row_of m b (back n)))))
    (c.in_ok-draft.ensures {u = tt}))
