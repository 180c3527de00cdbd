use Rattle.std.proofs.Common.{rules}
use Rattle.term_tree.specs.Shape.{with_child}
use Rattle.shape_rules.specs.Faults.{IsTrouble}
use Rattle.shape_rules.specs.Rules.{fewer_shape}
use Rattle.affine_index.specs.Sum.{difference_of}
use Rattle.shape_rules.proofs.AnswerLaws.{ruled}
use Rattle.shape_rules.proofs.rules.fewer.Goals as goal

pub returns-in_err-rest-clause-shape : goal.returns-in_err-rest-clause-shape
returns-in_err-rest-clause-shape c shape h =
    let f : IsTrouble (with_child 0 shape (fewer_shape c.args.amount.now)) c.in_err-rest.field-0.0 =
    c.in_err-rest.ensures.err shape (fewer_shape c.args.amount.now) h in search rules

pub returns-in-Some-clause-shape : goal.returns-in-Some-clause-shape
returns-in-Some-clause-shape c shape h =
    ruled shape (fewer_shape c.args.amount.now) c.args.child c.in_ok-rest.rest _ c.with_first.result (c.in_ok-rest.ensures {u = tt}).ok c.in-Some.ensures h
    (c.with_first.ensures (difference_of c.in-Some.n c.args.amount.now) c.sub.ensures.form)
