use Rattle.std.proofs.Common.{rules, ◌∙◌, ◌∷◌, ap}
use Rattle.term_tree.specs.Shape.{with_child}
use Rattle.shape_rules.specs.Faults.{IsTrouble}
use Rattle.shape_rules.specs.Rules.{flat_shape}
use Rattle.affine_index.specs.Product.{product_of}
use Rattle.shape_rules.proofs.AnswerLaws.{flat_form, ruled}
use Rattle.shape_rules.proofs.rules.flat.Goals as goal

pub returns-in_err-rest-clause-shape : goal.returns-in_err-rest-clause-shape
returns-in_err-rest-clause-shape c shape h =
    let f : IsTrouble (with_child 0 shape flat_shape) c.in_err-rest.field-0.0 = c.in_err-rest.ensures.err shape flat_shape h in search rules

pub returns-clause-shape : goal.returns-clause-shape
returns-clause-shape c shape h =
    ruled shape flat_shape c.args.child c.in_ok-rest.rest _ c.with_first.result (c.in_ok-rest.ensures {u = tt}).ok
    (c.in-Some.ensures ∙ ap (λ ns. c.in-Some.n ∷ ns) c.in-Some-take_first.ensures) h
    (c.with_first.ensures (product_of c.in-Some.n c.in-Some-take_first.m)
    (flat_form c.args.child c.in_ok-rest.rest c.in-Some.n c.in-Some-take_first.m _ c.mul.result (c.in_ok-rest.ensures {u = tt}).ok c.in-Some.ensures c.requires
    c.mul.ensures.form))
