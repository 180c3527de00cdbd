use Rattle.std.proofs.Common.{ap, sym, subst, ◌∙◌, [], IfOk}
use Rattle.path_focus.specs.Outcome.{IsOutcome, Makes, Meant, without_arguments}
use Rattle.term_tree.specs.Syntax.{add, index, sub}
use Rattle.term_tree.specs.declared.term.Term.{Term}
use Rattle.term_tree.proofs.Forms.{Add-is, Sub-is}
use Rattle.rules_loop.specs.Table as table
use Rattle.rule_parts.proofs.DraftLaws.{unlike}
use Rattle.rule_parts.proofs.Parts.{not_either}
use Rattle.rules_loop.proofs.sums.add_index.Goals as goal

pub returns-in-Add : goal.returns-in-Add
returns-in-Add c =
    let array = c.in-Add.is ∙ Add-is _ _ ∙ (λ i. add (sym c.get-in-Add.ensures i) (sym c.get-in-Add-2.ensures i)) in
    let term = sym c.get.ensures ∙ c.in-Some.ensures ∙ (λ i. index (array i) c.in-Some.x.now) in
    subst (λ (m : Meant). IfOk c.add_row.result (IsOutcome m))
    (sym (ap (λ (t : Term). table.add_index (record c.args.focus.now { term = t }) c.args.args.now) term)) c.add_row.ensures

pub returns-in-Sub : goal.returns-in-Sub
returns-in-Sub c =
    let array = c.in-Sub.is ∙ Sub-is _ _ ∙ (λ i. sub (sym c.get-in-Sub.ensures i) (sym c.get-in-Sub-2.ensures i)) in
    let term = sym c.get.ensures ∙ c.in-Some.ensures ∙ (λ i. index (array i) c.in-Some.x.now) in
    subst (λ (m : Meant). IfOk c.sub_row.result (IsOutcome m))
    (sym (ap (λ (t : Term). table.add_index (record c.args.focus.now { term = t }) c.args.args.now) term)) c.sub_row.ensures

pub returns-in_default-array : goal.returns-in_default-array
returns-in_default-array c =
    let term = sym c.get.ensures ∙ c.in-Some.ensures in
    let x = c.in-Some.x.now in
    unlike (table.add_index c.args.focus.now c.args.args.now)
    (ap (λ (t : Term). table.add_index (record c.args.focus.now { term = t }) c.args.args.now) term
    ∙ not_either c.in-Some.array.now c.in_default-array.not-Add c.in_default-array.not-Sub
    (λ a b. without_arguments c.args.args.now (Makes (add (index a x) (index b x)) []))
    (λ a b. without_arguments c.args.args.now (Makes (sub (index a x) (index b x)) [])))
