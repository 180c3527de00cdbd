use Rattle.std.proofs.Common.{◌≡◌, ◌∙◌, ◌≤◌, ap, rules, subst, sym}
use Rattle.term_tree.specs.Counts.{node_count}
use Rattle.term_tree.specs.Scope.{term_scoped}
use Rattle.term_tree.specs.declared.term.Term.{Term}
use Rattle.focus_rows.proofs.RowLaws.{copied, copied_in, copied_small}
use Rattle.focus_rows.proofs.tests.copied.Goals as goal

pub returns-clause-scoped : goal.returns-clause-scoped
returns-clause-scoped c =
    let e : c.in_ok-term.term ≡ copied = first_of (search rules, cc) in
    ap (λ (e : Term). term_scoped 1 e 0 1) e ∙ copied_in

pub returns-clause-small : goal.returns-clause-small
returns-clause-small c =
    let e : c.in_ok-term.term ≡ copied = first_of (search rules, cc) in
    subst (λ (e : Term). node_count e ≤ 20000) (sym e) copied_small
