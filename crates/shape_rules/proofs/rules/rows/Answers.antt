use Rattle.std.proofs.Common.{rules, refl}
use Rattle.term_tree.specs.Shape.{with_child}
use Rattle.shape_rules.specs.Faults.{IsTrouble}
use Rattle.shape_rules.specs.Rules.{rows_shape}
use Rattle.shape_rules.proofs.AnswerLaws.{copied_form, ruled}
use Rattle.shape_rules.proofs.rules.rows.Goals as goal

pub returns-in_err-rest-clause-shape : goal.returns-in_err-rest-clause-shape
returns-in_err-rest-clause-shape c shape h =
    let f : IsTrouble (with_child 0 shape (rows_shape c.args.n.now)) c.in_err-rest.field-0.0 = c.in_err-rest.ensures.err shape (rows_shape c.args.n.now) h in
    search rules

pub returns-clause-shape : goal.returns-clause-shape
returns-clause-shape c shape h =
    ruled shape (rows_shape c.args.n.now) c.args.child c.in_ok-rest.rest c.in_ok-rest.rest c.with_first.result (c.in_ok-rest.ensures {u = tt}).ok refl h
    (c.with_first.ensures c.args.n.now (copied_form c.copy.result c.args.n.now c.copy.ensures))
