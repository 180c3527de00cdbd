use Rattle.std.proofs.Common.{rules, ap, sym, subst, ◌∙◌, ◌≤◌, length}
use Rattle.affine_index.specs.Sum.{difference_of}
use Rattle.term_tree.specs.Syntax.{gen, trunc_r}
use Rattle.term_tree.specs.declared.term.Term.{Term}
use Rattle.path_focus.specs.Outcome.{IsOutcome, Meant}
use Rattle.rule_parts.proofs.PatternLaws.{no_arguments}
use Rattle.rules_shape_gen.specs.Table as table
use Rattle.rules_shape_gen.proofs.widths.trunc_gen_r.Goals as goal

pub returns : goal.returns
returns c =
    let a = c.in-Some.a.now in
    let n = c.in-Some-as_gen.n.now in
    let b = c.in-Some-as_gen.body.now in
    let term = sym c.get.ensures ∙ c.in-Some.ensures ∙ (λ i. trunc_r c.in-Some.a.now (c.in-Some-as_gen.ensures i)) in
    let none : length c.args.args.now ≤ 0 = search rules in
    subst (λ (m : Meant). IsOutcome m c.drafted.result)
    (sym (ap (λ (t : Term). table.trunc_gen_r (record c.args.focus.now { term = t }) c.args.args.now) term ∙ no_arguments c.args.args.now _ none))
    (c.drafted.ensures (gen (difference_of n a) b) (c.in_ok-draft.ensures {u = tt}))
