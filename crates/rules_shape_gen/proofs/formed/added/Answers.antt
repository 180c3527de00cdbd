use Rattle.std.proofs.Common.{subst, IfOk}
use Rattle.path_focus.specs.Outcome.{IsDraft}
use Rattle.path_focus.specs.declared.outcome.Draft.{Draft}
use Rattle.term_tree.specs.Syntax.{add}
use Rattle.term_tree.specs.declared.term.Term.{Term}
use Rattle.rules_shape_gen.proofs.FormedLaws.{first_large}
use Rattle.rules_shape_gen.proofs.formed.added.Goals as goal

pub returns-in-Whole : goal.returns-in-Whole
returns-in-Whole c = λ d e f h.
    let q = subst (λ (x : Draft). IsDraft d x) c.in-Whole.is f in
    subst (λ (x : Term). IfOk c.whole_plus.result (IsDraft (add x e))) q.0 (c.whole_plus.ensures e h)

pub returns-in-TooLarge : goal.returns-in-TooLarge
returns-in-TooLarge c = λ d e f h. first_large d e (subst (λ (x : Draft). IsDraft d x) c.in-TooLarge.is f)

pub returns-in-TooLong : goal.returns-in-TooLong
returns-in-TooLong c = λ d e f h. c.long_plus.ensures d e (subst (λ (x : Draft). IsDraft d x) c.in-TooLong.is f) h

pub returns-in-TooMany : goal.returns-in-TooMany
returns-in-TooMany c = λ d e f h. c.many_plus.ensures d e (subst (λ (x : Draft). IsDraft d x) c.in-TooMany.is f) h
