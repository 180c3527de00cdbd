use Rattle.std.proofs.Common.{subst, ◌∙◌}
use Rattle.path_focus.specs.Outcome.{IsDraft}
use Rattle.path_focus.specs.declared.outcome.Draft.{Draft}
use Rattle.term_tree.specs.Syntax.{guard}
use Rattle.term_tree.specs.declared.term.Term.{Lit}
use Rattle.rules_guard.proofs.OutwardLaws.{rows_large, rows_long}
use Rattle.rules_guard.proofs.outward.around.Goals as goal

pub returns-in-Whole : goal.returns-in-Whole
returns-in-Whole c = λ d h. c.under.ensures d (c.get.ensures ∙ (subst (λ (z : Draft). IsDraft (guard d (Lit 0)) z) c.in-Whole.is h).0)

pub returns-in-TooLarge : goal.returns-in-TooLarge
returns-in-TooLarge c = λ d h.
    rows_large d c.args.n.now c.args.body.now c.told.ensures c.told-2.ensures (subst (λ (z : Draft). IsDraft (guard d (Lit 0)) z) c.in-TooLarge.is h)

pub returns-in-TooLong : goal.returns-in-TooLong
returns-in-TooLong c = λ d h.
    rows_long d c.args.n.now c.args.body.now c.told.ensures c.told-2.ensures (subst (λ (z : Draft). IsDraft (guard d (Lit 0)) z) c.in-TooLong.is h)
