use Rattle.std.proofs.Common.{rules, ap, sym, subst, ◌∙◌, ◌≤◌, length}
use Rattle.affine_index.specs.Sum.{difference_of}
use Rattle.rules_loop.specs.Cuts.{further}
use Rattle.rules_shape_gen.specs.Rows.{row_of}
use Rattle.term_tree.specs.Syntax.{gen, trunc_l}
use Rattle.term_tree.specs.declared.term.Term.{Term}
use Rattle.path_focus.specs.Outcome.{IsOutcome, Meant}
use Rattle.rule_parts.proofs.PatternLaws.{no_arguments}
use Rattle.rules_shape_gen.specs.Table as table
use Rattle.rules_shape_gen.proofs.ReachLaws.{trunc_reach}
use Rattle.rules_shape_gen.proofs.widths.trunc_gen_l.Goals as goal

pub later_rows-requires-clause-deep : goal.later_rows-requires-clause-deep
later_rows-requires-clause-deep c =
    (trunc_reach c.args.focus.now c.requires c.in-Some.a.now c.in-Some-as_gen.n.now c.in-Some-as_gen.body.now
    (sym c.get.ensures ∙ c.in-Some.ensures ∙ (λ i. trunc_l c.in-Some.a.now (c.in-Some-as_gen.ensures i)))).0

pub later_rows-requires-clause-within : goal.later_rows-requires-clause-within
later_rows-requires-clause-within c =
    (trunc_reach c.args.focus.now c.requires c.in-Some.a.now c.in-Some-as_gen.n.now c.in-Some-as_gen.body.now
    (sym c.get.ensures ∙ c.in-Some.ensures ∙ (λ i. trunc_l c.in-Some.a.now (c.in-Some-as_gen.ensures i)))).1

pub returns : goal.returns
returns c =
    let a = c.in-Some.a.now in
    let n = c.in-Some-as_gen.n.now in
    let b = c.in-Some-as_gen.body.now in
    let term = sym c.get.ensures ∙ c.in-Some.ensures ∙ (λ i. trunc_l c.in-Some.a.now (c.in-Some-as_gen.ensures i)) in
    let none : length c.args.args.now ≤ 0 = search rules in
    subst (λ (m : Meant). IsOutcome m c.drafted.result)
    (sym (ap (λ (t : Term). table.trunc_gen_l (record c.args.focus.now { term = t }) c.args.args.now) term ∙ no_arguments c.args.args.now _ none))
    (c.drafted.ensures (gen (difference_of n a) (row_of n b (further a))) (c.in_ok-draft.ensures {u = tt}))
