use Rattle.std.proofs.Common.{rules, ◌∙◌, ◌∷◌, ap, subst}
use Rattle.term_tree.specs.Shape.{Extents, limited, tiles, with_child}
use Rattle.shape_rules.specs.Faults.{IsTrouble, IsAnswer}
use Rattle.shape_rules.specs.Rules.{tiled_shape}
use Rattle.shape_rules.proofs.AnswerLaws.{ruled}
use Rattle.shape_rules.proofs.rules.tiled.Goals as goal

pub returns-in_err-rest-clause-shape : goal.returns-in_err-rest-clause-shape
returns-in_err-rest-clause-shape c shape h =
    let f : IsTrouble (with_child 0 shape (tiled_shape c.args.k)) c.in_err-rest.field-0.0 = c.in_err-rest.ensures.err shape (tiled_shape c.args.k) h in
    search rules

pub returns-clause-shape : goal.returns-clause-shape
returns-clause-shape c shape h =
    ruled shape (tiled_shape c.args.k) c.args.child c.in_ok-rest.rest _ c.with_first.result (c.in_ok-rest.ensures {u = tt}).ok c.in-Some.ensures h
    (subst (λ (ns : Extents). IsAnswer (limited (tiles c.args.k c.in-Some.n ∷ ns)) c.with_first.result)
    (c.in_ok-chunk.ensures {u = tt} ∙ ap (λ n. n ∷ c.take_first.new.items) (c.in_ok-literal.ensures {u = tt}))
    (c.with_first.ensures (tiles c.args.k c.in-Some.n) c.tiles.ensures))
