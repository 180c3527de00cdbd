use Rattle.std.proofs.Common.{rules, ◌≤◌, ap, length, sym, subst, ◌∙◌}
use Rattle.affine_index.specs.Form.{var_form}
use Rattle.affine_index.specs.Put.{shifted}
use Rattle.path_focus.specs.Making.{in_tile, raised}
use Rattle.path_focus.specs.Outcome.{IsOutcome, Meant}
use Rattle.rule_parts.proofs.PatternLaws.{no_arguments}
use Rattle.term_tree.specs.Syntax.{gen, index}
use Rattle.term_tree.specs.declared.term.Term.{Term}
use Rattle.affine_index.specs.Form.{literal_form}
use Rattle.std.specs.Prelude.{pos}
use Rattle.rules_shape_tensor.specs.Rows as table
use Rattle.rules_shape_tensor.proofs.ReachLaws.{chunk_reach, index_fits}
use Rattle.rules_shape_tensor.proofs.columns.split_index.Goals as goal

pub turned_place-requires-clause-deep : goal.turned_place-requires-clause-deep
turned_place-requires-clause-deep c =
    (chunk_reach c.args.focus.now c.requires c.in-Some-as_split.k c.in-Some-as_split.e.now c.in-Some.x.now
    (sym c.get.ensures ∙ c.in-Some.ensures ∙ (λ i. index (c.in-Some-as_split.ensures i) c.in-Some.x.now))).0

pub turned_place-requires-clause-within : goal.turned_place-requires-clause-within
turned_place-requires-clause-within c =
    (chunk_reach c.args.focus.now c.requires c.in-Some-as_split.k c.in-Some-as_split.e.now c.in-Some.x.now
    (sym c.get.ensures ∙ c.in-Some.ensures ∙ (λ i. index (c.in-Some-as_split.ensures i) c.in-Some.x.now))).1

pub turned_place-requires-clause-fits : goal.turned_place-requires-clause-fits
turned_place-requires-clause-fits c =
    index_fits c.args.focus.now c.requires c.in-Some.array.now c.in-Some.x.now (sym c.get.ensures ∙ c.in-Some.ensures)

pub returns : goal.returns
returns c =
    let x = c.in-Some.x.now in
    let k = c.in-Some-as_split.k in
    let term = sym c.get.ensures ∙ c.in-Some.ensures ∙ (λ i. index (c.in-Some-as_split.ensures i) x) in
    let none : length c.args.args.now ≤ 0 = search rules in
    let row = index (raised c.in-Some-as_split.e.now) (in_tile k (shifted 0 1 x) (var_form 0)) in
    subst (λ (m : Meant). IsOutcome m c.drafted.result)
    (sym (ap (λ (t : Term). table.split_index (record c.args.focus.now { term = t }) c.args.args.now) term ∙ no_arguments c.args.args.now _ none))
    (c.drafted.ensures (gen (literal_form (pos k)) row) (c.in_ok-draft.ensures {u = tt} row (c.in_ok-row.ensures {u = tt})))
