use Rattle.std.proofs.Common.{rules, ◌≡◌, ◌∙◌, ◌∷◌, ◌++◌, [], List, Ok, Err, OnOk, Result, ap, subst, sym, true}
use Rattle.std.proofs.lemmas.Bool.{and_parts}
use Rattle.term_tree.specs.declared.term.Term.TheViews.{the_lemmas}
use Rattle.term_tree.specs.Goals.{extents_or_none}
use Rattle.term_tree.specs.Shape.{Extents, Shaped, of_concat, of_equal, of_words, with_child}
use Rattle.shape_rules.specs.Faults.{AreAnswered, IsAnswer, IsTrouble}
use Rattle.shape_rules.specs.Plain.{is_plain}
use Rattle.shape_rules.specs.Rules.{columns_shape, fewer_shape, flat_shape, more_shape, row_shape, rows_shape, same_shape, tiled_shape}
use Rattle.shape_rules.specs.Scopes.{scope}
use Rattle.shape_rules.specs.Walked.{one, two, walked}
use Rattle.shape_rules.specs.declared.fault.Operands.{Operands}
use Rattle.shape_rules.specs.declared.fault.Trouble.{Trouble}
use Rattle.shape_rules.proofs.PlainForms.{plain-Flatten, plain-Let}
use Rattle.shape_rules.proofs.ProgressLaws.{cut_goals_are, let_owed, one_goal, second_err, walked_free}
use Rattle.shape_rules.proofs.WalkedForms.{added, bound_in, joined_rows, let_goals, multiplied, padded, told_goals, told_shape, two_goals, walked-Flatten}
use Rattle.shape_rules.proofs.WalkedForms.{walked-Gen, walked-Guard, walked-Index, walked-Split, walked-Sum, walked-Transpose}
use Rattle.shape_rules.proofs.walk.+walk.Goals as goal

pub cut-returns-in_err-extents-clause-shape : goal.cut-returns-in_err-extents-clause-shape
cut-returns-in_err-extents-clause-shape t c =
    let f : IsTrouble (with_child 0 (walked c.args.term.now (scope c.args.shapes.now c.args.progress.now.bound)).shape (fewer_shape c.args.amount.now))
    c.in_err-extents.field-0.0 =
    c.in_err-extents.ensures.shape (walked c.args.term.now (scope c.args.shapes.now c.args.progress.now.bound)).shape c.walk-rows.ensures.shape in
    search rules

pub cut-returns-clause-goals : goal.cut-returns-clause-goals
cut-returns-clause-goals t c =
    cut_goals_are (walked c.args.term.now (scope c.args.shapes.now c.args.progress.now.bound)).shape c.walk-rows.result c.args.amount.now
    c.in_ok-extents.extents
    c.args.progress.now.goals c.add_goal.new.goals c.add_goal-2.new.goals c.walk-rows.new.progress.goals c.set_goal.new.goals
    (walked c.args.term.now (scope c.args.shapes.now c.args.progress.now.bound)).goals c.len-at.result
    c.walk-rows.ensures.shape (c.in_ok-extents.ensures {u = tt}).was
    ((c.in_ok-extents.ensures {u = tt}).shape (walked c.args.term.now (scope c.args.shapes.now c.args.progress.now.bound)).shape c.walk-rows.ensures.shape)
    c.walk-rows.ensures.goals (c.in_ok-add_goal.ensures {u = tt}) (c.in_ok-add_goal-2.ensures {u = tt}) c.len-at.ensures
    (λ n rest e. c.in_ok-set_goal.ensures {u = tt} n rest (c.as_slice.ensures ∙ e))

pub walk-flat-requires : goal.walk-flat-requires
walk-flat-requires t c =
    let p : is_plain c.get-in-Flatten.result.now ≡ true = ap is_plain c.get-in-Flatten.ensures ∙ sym (plain-Flatten c.in-Flatten.e)
    ∙ ap is_plain (sym c.in-Flatten.is) ∙ c.requires.plain in
    walked_free c.get-in-Flatten.result.now (scope c.args.shapes.now c.args.progress.now.bound) c.walk-in-Flatten.result p c.requires.free
    c.walk-in-Flatten.ensures.shape

pub walk-returns-in-Index-clause-shape : goal.walk-returns-in-Index-clause-shape
walk-returns-in-Index-clause-shape t c =
    told_shape (walked c.args.term.now (scope c.args.shapes.now c.args.progress.now.bound))
    (one (walked c.get.result.now (scope c.args.shapes.now c.args.progress.now.bound)) row_shape []) c.row.result
    (ap (λ e. walked e (scope c.args.shapes.now c.args.progress.now.bound)) c.in-Index.is
    ∙ walked-Index c.in-Index.e c.in-Index.field-1 (scope c.args.shapes.now c.args.progress.now.bound)
    ∙ ap (λ e. one (walked e (scope c.args.shapes.now c.args.progress.now.bound)) row_shape []) (sym c.get.ensures))
    (c.row.ensures.shape (walked c.get.result.now (scope c.args.shapes.now c.args.progress.now.bound)).shape c.walk.ensures.shape)

pub walk-returns-in-Guard-clause-shape : goal.walk-returns-in-Guard-clause-shape
walk-returns-in-Guard-clause-shape t c =
    told_shape (walked c.args.term.now (scope c.args.shapes.now c.args.progress.now.bound))
    (one (walked c.get-in-Guard.result.now (scope c.args.shapes.now c.args.progress.now.bound)) same_shape []) c.same.result
    (ap (λ e. walked e (scope c.args.shapes.now c.args.progress.now.bound)) c.in-Guard.is
    ∙ walked-Guard c.in-Guard.field-0 c.in-Guard.e (scope c.args.shapes.now c.args.progress.now.bound)
    ∙ ap (λ e. one (walked e (scope c.args.shapes.now c.args.progress.now.bound)) same_shape []) (sym c.get-in-Guard.ensures))
    (c.same.ensures.shape (walked c.get-in-Guard.result.now (scope c.args.shapes.now c.args.progress.now.bound)).shape c.walk-in-Guard.ensures.shape)

pub walk-returns-in-Flatten-clause-shape : goal.walk-returns-in-Flatten-clause-shape
walk-returns-in-Flatten-clause-shape t c =
    told_shape (walked c.args.term.now (scope c.args.shapes.now c.args.progress.now.bound))
    (one (walked c.get-in-Flatten.result.now (scope c.args.shapes.now c.args.progress.now.bound)) flat_shape []) c.flat.result
    (ap (λ e. walked e (scope c.args.shapes.now c.args.progress.now.bound)) c.in-Flatten.is
    ∙ walked-Flatten c.in-Flatten.e (scope c.args.shapes.now c.args.progress.now.bound)
    ∙ ap (λ e. one (walked e (scope c.args.shapes.now c.args.progress.now.bound)) flat_shape []) (sym c.get-in-Flatten.ensures))
    (c.flat.ensures.shape (walked c.get-in-Flatten.result.now (scope c.args.shapes.now c.args.progress.now.bound)).shape c.walk-in-Flatten.ensures.shape)

pub walk-returns-in-Split-clause-shape : goal.walk-returns-in-Split-clause-shape
walk-returns-in-Split-clause-shape t c =
    told_shape (walked c.args.term.now (scope c.args.shapes.now c.args.progress.now.bound))
    (one (walked c.get-in-Split.result.now (scope c.args.shapes.now c.args.progress.now.bound)) (tiled_shape c.in-Split.k) []) c.tiled.result
    (ap (λ e. walked e (scope c.args.shapes.now c.args.progress.now.bound)) c.in-Split.is
    ∙ walked-Split c.in-Split.k c.in-Split.e (scope c.args.shapes.now c.args.progress.now.bound)
    ∙ ap (λ e. one (walked e (scope c.args.shapes.now c.args.progress.now.bound)) (tiled_shape c.in-Split.k) []) (sym c.get-in-Split.ensures))
    (c.tiled.ensures.shape (walked c.get-in-Split.result.now (scope c.args.shapes.now c.args.progress.now.bound)).shape c.walk-in-Split.ensures.shape)

pub walk-returns-in-Transpose-clause-shape : goal.walk-returns-in-Transpose-clause-shape
walk-returns-in-Transpose-clause-shape t c =
    told_shape (walked c.args.term.now (scope c.args.shapes.now c.args.progress.now.bound))
    (one (walked c.get-in-Transpose.result.now (scope c.args.shapes.now c.args.progress.now.bound)) columns_shape []) c.columns.result
    (ap (λ e. walked e (scope c.args.shapes.now c.args.progress.now.bound)) c.in-Transpose.is
    ∙ walked-Transpose c.in-Transpose.e (scope c.args.shapes.now c.args.progress.now.bound)
    ∙ ap (λ e. one (walked e (scope c.args.shapes.now c.args.progress.now.bound)) columns_shape []) (sym c.get-in-Transpose.ensures))
    (c.columns.ensures.shape (walked c.get-in-Transpose.result.now (scope c.args.shapes.now c.args.progress.now.bound)).shape
    c.walk-in-Transpose.ensures.shape)

pub walk-returns-in_ok-add_goal-in-Gen-clause-shape : goal.walk-returns-in_ok-add_goal-in-Gen-clause-shape
walk-returns-in_ok-add_goal-in-Gen-clause-shape t c =
    told_shape (walked c.args.term.now (scope c.args.shapes.now c.args.progress.now.bound))
    (one (walked c.get-in-Gen.result.now (scope c.args.shapes.now c.args.progress.now.bound)) (rows_shape c.in-Gen.n) (c.in-Gen.n ∷ [])) c.rows.result
    (ap (λ e. walked e (scope c.args.shapes.now c.args.progress.now.bound)) c.in-Gen.is
    ∙ walked-Gen c.in-Gen.n c.in-Gen.e (scope c.args.shapes.now c.args.progress.now.bound)
    ∙ ap (λ e. one (walked e (scope c.args.shapes.now c.args.progress.now.bound)) (rows_shape c.in-Gen.n) (c.in-Gen.n ∷ [])) (sym c.get-in-Gen.ensures))
    (c.rows.ensures.shape (walked c.get-in-Gen.result.now (scope c.args.shapes.now c.args.progress.now.bound)).shape c.walk-in-Gen.ensures.shape)

pub walk-returns-in_ok-add_goal-in-Gen-clause-goals : goal.walk-returns-in_ok-add_goal-in-Gen-clause-goals
walk-returns-in_ok-add_goal-in-Gen-clause-goals t c =
    told_goals (walked c.args.term.now (scope c.args.shapes.now c.args.progress.now.bound))
    (one (walked c.get-in-Gen.result.now (scope c.args.shapes.now c.args.progress.now.bound)) (rows_shape c.in-Gen.n) (c.in-Gen.n ∷ [])) c.rows.result
    c.args.progress.now.goals c.walk-in-Gen.new.progress.goals
    (ap (λ e. walked e (scope c.args.shapes.now c.args.progress.now.bound)) c.in-Gen.is
    ∙ walked-Gen c.in-Gen.n c.in-Gen.e (scope c.args.shapes.now c.args.progress.now.bound)
    ∙ ap (λ e. one (walked e (scope c.args.shapes.now c.args.progress.now.bound)) (rows_shape c.in-Gen.n) (c.in-Gen.n ∷ [])) (sym c.get-in-Gen.ensures))
    (one_goal c.rows.result c.walk-in-Gen.result c.args.progress.now.goals _ c.walk-in-Gen.new.progress.goals
    (walked c.get-in-Gen.result.now (scope c.args.shapes.now c.args.progress.now.bound)).goals c.in-Gen.n c.rows.ensures.was c.walk-in-Gen.ensures.goals
    (c.in_ok-add_goal-in-Gen.ensures {u = tt}))

pub walk-returns-in_ok-add_goal-in-Sum-clause-shape : goal.walk-returns-in_ok-add_goal-in-Sum-clause-shape
walk-returns-in_ok-add_goal-in-Sum-clause-shape t c =
    told_shape (walked c.args.term.now (scope c.args.shapes.now c.args.progress.now.bound))
    (one (walked c.get-in-Sum.result.now (scope c.args.shapes.now c.args.progress.now.bound)) same_shape (c.in-Sum.n ∷ [])) c.same-in-Sum.result
    (ap (λ e. walked e (scope c.args.shapes.now c.args.progress.now.bound)) c.in-Sum.is
    ∙ walked-Sum c.in-Sum.n c.in-Sum.e (scope c.args.shapes.now c.args.progress.now.bound)
    ∙ ap (λ e. one (walked e (scope c.args.shapes.now c.args.progress.now.bound)) same_shape (c.in-Sum.n ∷ [])) (sym c.get-in-Sum.ensures))
    (c.same-in-Sum.ensures.shape (walked c.get-in-Sum.result.now (scope c.args.shapes.now c.args.progress.now.bound)).shape c.walk-in-Sum.ensures.shape)

pub walk-returns-in_ok-add_goal-in-Sum-clause-goals : goal.walk-returns-in_ok-add_goal-in-Sum-clause-goals
walk-returns-in_ok-add_goal-in-Sum-clause-goals t c =
    told_goals (walked c.args.term.now (scope c.args.shapes.now c.args.progress.now.bound))
    (one (walked c.get-in-Sum.result.now (scope c.args.shapes.now c.args.progress.now.bound)) same_shape (c.in-Sum.n ∷ [])) c.same-in-Sum.result
    c.args.progress.now.goals c.walk-in-Sum.new.progress.goals
    (ap (λ e. walked e (scope c.args.shapes.now c.args.progress.now.bound)) c.in-Sum.is
    ∙ walked-Sum c.in-Sum.n c.in-Sum.e (scope c.args.shapes.now c.args.progress.now.bound)
    ∙ ap (λ e. one (walked e (scope c.args.shapes.now c.args.progress.now.bound)) same_shape (c.in-Sum.n ∷ [])) (sym c.get-in-Sum.ensures))
    (one_goal c.same-in-Sum.result c.walk-in-Sum.result c.args.progress.now.goals _ c.walk-in-Sum.new.progress.goals
    (walked c.get-in-Sum.result.now (scope c.args.shapes.now c.args.progress.now.bound)).goals c.in-Sum.n c.same-in-Sum.ensures.was
    c.walk-in-Sum.ensures.goals (c.in_ok-add_goal-in-Sum.ensures {u = tt}))

pub walk-returns-in_ok-add_goal-in-PadL-clause-shape : goal.walk-returns-in_ok-add_goal-in-PadL-clause-shape
walk-returns-in_ok-add_goal-in-PadL-clause-shape t c =
    told_shape (walked c.args.term.now (scope c.args.shapes.now c.args.progress.now.bound))
    (one (walked c.get-in-PadL.result.now (scope c.args.shapes.now c.args.progress.now.bound)) (more_shape c.in-PadL.n) (c.in-PadL.n ∷ [])) c.more.result
    (padded c.args.term.now c.in-PadL.n c.in-PadL.e c.get-in-PadL.result.now (scope c.args.shapes.now c.args.progress.now.bound) c.in-PadL.is
    c.get-in-PadL.ensures) (c.more.ensures.shape (walked c.get-in-PadL.result.now (scope c.args.shapes.now c.args.progress.now.bound)).shape
    c.walk-in-PadL.ensures.shape)

pub walk-returns-in_ok-add_goal-in-PadL-clause-goals : goal.walk-returns-in_ok-add_goal-in-PadL-clause-goals
walk-returns-in_ok-add_goal-in-PadL-clause-goals t c =
    told_goals (walked c.args.term.now (scope c.args.shapes.now c.args.progress.now.bound))
    (one (walked c.get-in-PadL.result.now (scope c.args.shapes.now c.args.progress.now.bound)) (more_shape c.in-PadL.n) (c.in-PadL.n ∷ [])) c.more.result
    c.args.progress.now.goals c.walk-in-PadL.new.progress.goals
    (padded c.args.term.now c.in-PadL.n c.in-PadL.e c.get-in-PadL.result.now (scope c.args.shapes.now c.args.progress.now.bound) c.in-PadL.is
    c.get-in-PadL.ensures)
    (one_goal c.more.result c.walk-in-PadL.result c.args.progress.now.goals _ c.walk-in-PadL.new.progress.goals
    (walked c.get-in-PadL.result.now (scope c.args.shapes.now c.args.progress.now.bound)).goals c.in-PadL.n c.more.ensures.was c.walk-in-PadL.ensures.goals
    (c.in_ok-add_goal-in-PadL.ensures {u = tt}))

pub let_in-returns-in_err-extents-clause-shape : goal.let_in-returns-in_err-extents-clause-shape
let_in-returns-in_err-extents-clause-shape t c a h =
    let rule : Extents → Shaped =
    λ ns. with_child 1 (walked c.args.body.now (extents_or_none a ∷ (scope c.args.shapes.now c.args.progress.now.bound))).shape (λ ms. Ok ms) in
    let f : IsTrouble (with_child 0 a rule) c.in_err-extents.field-0.0 = c.in_err-extents.ensures.err a rule h in
    search rules

pub operands-returns-in_err-first-clause-shape : goal.operands-returns-in_err-first-clause-shape
operands-returns-in_err-first-clause-shape t c a h =
    let e : c.from_residual.result ≡ Err c.in_err-first.field-0.0 = search rules in
    subst (λ (r : Result Operands Trouble). AreAnswered a (walked c.args.term.now (scope c.args.shapes.now c.args.progress.now.bound)).shape r) (sym e)
    (λ rule. c.in_err-first.ensures.err a (λ ns. with_child 1 (walked c.args.term.now (scope c.args.shapes.now c.args.progress.now.bound)).shape (rule ns))
    h)

pub operands-returns-in_err-second-clause-shape : goal.operands-returns-in_err-second-clause-shape
operands-returns-in_err-second-clause-shape t c a h =
    let e : c.from_residual-in_err-second.result ≡ Err c.in_err-second.field-0.0 = search rules in
    subst (λ (r : Result Operands Trouble). AreAnswered a (walked c.args.term.now (scope c.args.shapes.now c.args.progress.now.bound)).shape r) (sym e)
    (second_err a (walked c.args.term.now (scope c.args.shapes.now c.args.progress.now.bound)).shape c.args.first c.in_ok-first.first c.in_err-second.field-0.0
    (c.in_ok-first.ensures {u = tt}).ok h
    (λ rule. c.in_err-second.ensures.err (walked c.args.term.now (scope c.args.shapes.now c.args.progress.now.bound)).shape rule c.walk-second.ensures.shape))

pub walk-let_in-requires : goal.walk-let_in-requires
walk-let_in-requires t c =
    let p = and_parts (is_plain c.in-Let.a) (is_plain c.in-Let.b) (sym (plain-Let c.in-Let.a c.in-Let.b) ∙ ap is_plain (sym c.in-Let.is) ∙ c.requires.plain) in (
      search (rules, the_lemmas),
      (
        ap is_plain c.get-in-Let-2.ensures ∙ p.1,
        (
          let_owed c.args.shapes.now c.args.progress.now.bound c.walk-definition.new.progress.bound c.walk-definition.ensures.bound c.requires.free,
          walked_free c.get-in-Let.result.now (scope c.args.shapes.now c.args.progress.now.bound) c.walk-definition.result
              (ap is_plain c.get-in-Let.ensures ∙ p.0) c.requires.free c.walk-definition.ensures.shape,
        ),
      ),
    )

pub walk-returns-in-Let-clause-shape : goal.walk-returns-in-Let-clause-shape
walk-returns-in-Let-clause-shape t c =
    told_shape (walked c.args.term.now (scope c.args.shapes.now c.args.progress.now.bound))
    (two (walked c.get-in-Let.result.now (scope c.args.shapes.now c.args.progress.now.bound))
    (walked c.get-in-Let-2.result.now
    (extents_or_none (walked c.get-in-Let.result.now (scope c.args.shapes.now c.args.progress.now.bound)).shape
    ∷ (scope c.args.shapes.now c.args.progress.now.bound))) (λ ns ms. Ok ms)) c.let_in.result
    (bound_in c.args.term.now c.in-Let.a c.in-Let.b c.get-in-Let.result.now c.get-in-Let-2.result.now (scope c.args.shapes.now c.args.progress.now.bound)
    c.in-Let.is c.get-in-Let.ensures c.get-in-Let-2.ensures)
    (subst (λ (bound : List Extents). IsAnswer
    (with_child 0 (walked c.get-in-Let.result.now (scope c.args.shapes.now c.args.progress.now.bound)).shape
    (λ ns. with_child 1 (walked c.get-in-Let-2.result.now
    (extents_or_none (walked c.get-in-Let.result.now (scope c.args.shapes.now c.args.progress.now.bound)).shape ∷ scope c.args.shapes.now bound)).shape
    (λ ms. Ok ms))) c.let_in.result)
    c.walk-definition.ensures.bound
    (c.let_in.ensures.shape (walked c.get-in-Let.result.now (scope c.args.shapes.now c.args.progress.now.bound)).shape c.walk-definition.ensures.shape))

pub walk-returns-in-Let-clause-goals : goal.walk-returns-in-Let-clause-goals
walk-returns-in-Let-clause-goals t c =
    told_goals (walked c.args.term.now (scope c.args.shapes.now c.args.progress.now.bound))
    (two (walked c.get-in-Let.result.now (scope c.args.shapes.now c.args.progress.now.bound))
    (walked c.get-in-Let-2.result.now
    (extents_or_none (walked c.get-in-Let.result.now (scope c.args.shapes.now c.args.progress.now.bound)).shape
    ∷ (scope c.args.shapes.now c.args.progress.now.bound))) (λ ns ms. Ok ms)) c.let_in.result c.args.progress.now.goals c.let_in.new.progress.goals
    (bound_in c.args.term.now c.in-Let.a c.in-Let.b c.get-in-Let.result.now c.get-in-Let-2.result.now (scope c.args.shapes.now c.args.progress.now.bound)
    c.in-Let.is c.get-in-Let.ensures c.get-in-Let-2.ensures)
    (let_goals c.let_in.result c.walk-definition.result c.args.progress.now.goals c.walk-definition.new.progress.goals c.let_in.new.progress.goals
    (walked c.get-in-Let.result.now (scope c.args.shapes.now c.args.progress.now.bound)).goals
    (walked c.get-in-Let-2.result.now
    (extents_or_none (walked c.get-in-Let.result.now (scope c.args.shapes.now c.args.progress.now.bound)).shape
    ∷ (scope c.args.shapes.now c.args.progress.now.bound))).goals
    c.let_in.ensures.was c.walk-definition.ensures.goals
    (subst (λ (bound : List Extents). OnOk c.let_in.result
    (c.let_in.new.progress.goals ≡ c.walk-definition.new.progress.goals
    ++ (walked c.get-in-Let-2.result.now
    (extents_or_none (walked c.get-in-Let.result.now (scope c.args.shapes.now c.args.progress.now.bound)).shape ∷ scope c.args.shapes.now bound)).goals))
    c.walk-definition.ensures.bound
    (c.let_in.ensures.goals (walked c.get-in-Let.result.now (scope c.args.shapes.now c.args.progress.now.bound)).shape c.walk-definition.ensures.shape)))

pub walk-returns-in-Mul-clause-shape : goal.walk-returns-in-Mul-clause-shape
walk-returns-in-Mul-clause-shape t c =
    told_shape (walked c.args.term.now (scope c.args.shapes.now c.args.progress.now.bound))
    (two (walked c.get-in-Mul.result.now (scope c.args.shapes.now c.args.progress.now.bound))
    (walked c.get-in-Mul-2.result.now (scope c.args.shapes.now c.args.progress.now.bound)) of_words) c.words.result
    (multiplied c.args.term.now c.in-Mul.a c.in-Mul.b c.get-in-Mul.result.now c.get-in-Mul-2.result.now (scope c.args.shapes.now c.args.progress.now.bound)
    c.in-Mul.is c.get-in-Mul.ensures c.get-in-Mul-2.ensures)
    (c.words.ensures.shape (walked c.get-in-Mul.result.now (scope c.args.shapes.now c.args.progress.now.bound)).shape
    (walked c.get-in-Mul-2.result.now (scope c.args.shapes.now c.args.progress.now.bound)).shape
    (subst (λ (bound : List Extents). AreAnswered (walked c.get-in-Mul.result.now (scope c.args.shapes.now c.args.progress.now.bound)).shape
    (walked c.get-in-Mul-2.result.now (scope c.args.shapes.now bound)).shape c.operands.result)
    c.walk-first.ensures.bound (c.operands.ensures.shape (walked c.get-in-Mul.result.now (scope c.args.shapes.now c.args.progress.now.bound)).shape
    c.walk-first.ensures.shape)))

pub walk-returns-in-Mul-clause-goals : goal.walk-returns-in-Mul-clause-goals
walk-returns-in-Mul-clause-goals t c =
    told_goals (walked c.args.term.now (scope c.args.shapes.now c.args.progress.now.bound))
    (two (walked c.get-in-Mul.result.now (scope c.args.shapes.now c.args.progress.now.bound))
    (walked c.get-in-Mul-2.result.now (scope c.args.shapes.now c.args.progress.now.bound)) of_words) c.words.result c.args.progress.now.goals
    c.operands.new.progress.goals
    (multiplied c.args.term.now c.in-Mul.a c.in-Mul.b c.get-in-Mul.result.now c.get-in-Mul-2.result.now (scope c.args.shapes.now c.args.progress.now.bound)
    c.in-Mul.is c.get-in-Mul.ensures c.get-in-Mul-2.ensures)
    (two_goals c.words.result c.operands.result c.walk-first.result c.args.progress.now.goals c.walk-first.new.progress.goals c.operands.new.progress.goals
    (walked c.get-in-Mul.result.now (scope c.args.shapes.now c.args.progress.now.bound)).goals
    (walked c.get-in-Mul-2.result.now (scope c.args.shapes.now c.args.progress.now.bound)).goals
    c.words.ensures.was c.operands.ensures.was c.walk-first.ensures.goals
    (subst (λ (bound : List Extents). OnOk c.operands.result
    (c.operands.new.progress.goals ≡ c.walk-first.new.progress.goals ++ (walked c.get-in-Mul-2.result.now (scope c.args.shapes.now bound)).goals))
    c.walk-first.ensures.bound c.operands.ensures.goals))

pub walk-returns-in-Concat-clause-shape : goal.walk-returns-in-Concat-clause-shape
walk-returns-in-Concat-clause-shape t c =
    told_shape (walked c.args.term.now (scope c.args.shapes.now c.args.progress.now.bound))
    (two (walked c.get-in-Concat.result.now (scope c.args.shapes.now c.args.progress.now.bound))
    (walked c.get-in-Concat-2.result.now (scope c.args.shapes.now c.args.progress.now.bound)) of_concat) c.followed.result
    (joined_rows c.args.term.now c.in-Concat.a c.in-Concat.b c.get-in-Concat.result.now c.get-in-Concat-2.result.now
    (scope c.args.shapes.now c.args.progress.now.bound) c.in-Concat.is c.get-in-Concat.ensures c.get-in-Concat-2.ensures)
    (c.followed.ensures.shape (walked c.get-in-Concat.result.now (scope c.args.shapes.now c.args.progress.now.bound)).shape
    (walked c.get-in-Concat-2.result.now (scope c.args.shapes.now c.args.progress.now.bound)).shape
    (subst (λ (bound : List Extents). AreAnswered (walked c.get-in-Concat.result.now (scope c.args.shapes.now c.args.progress.now.bound)).shape
    (walked c.get-in-Concat-2.result.now (scope c.args.shapes.now bound)).shape c.operands-in-Concat.result)
    c.walk-first-in-Concat.ensures.bound
    (c.operands-in-Concat.ensures.shape (walked c.get-in-Concat.result.now (scope c.args.shapes.now c.args.progress.now.bound)).shape
    c.walk-first-in-Concat.ensures.shape)))

pub walk-returns-in-Concat-clause-goals : goal.walk-returns-in-Concat-clause-goals
walk-returns-in-Concat-clause-goals t c =
    told_goals (walked c.args.term.now (scope c.args.shapes.now c.args.progress.now.bound))
    (two (walked c.get-in-Concat.result.now (scope c.args.shapes.now c.args.progress.now.bound))
    (walked c.get-in-Concat-2.result.now (scope c.args.shapes.now c.args.progress.now.bound)) of_concat) c.followed.result c.args.progress.now.goals
    c.operands-in-Concat.new.progress.goals
    (joined_rows c.args.term.now c.in-Concat.a c.in-Concat.b c.get-in-Concat.result.now c.get-in-Concat-2.result.now
    (scope c.args.shapes.now c.args.progress.now.bound) c.in-Concat.is c.get-in-Concat.ensures c.get-in-Concat-2.ensures)
    (two_goals c.followed.result c.operands-in-Concat.result c.walk-first-in-Concat.result c.args.progress.now.goals c.walk-first-in-Concat.new.progress.goals
    c.operands-in-Concat.new.progress.goals (walked c.get-in-Concat.result.now (scope c.args.shapes.now c.args.progress.now.bound)).goals
    (walked c.get-in-Concat-2.result.now (scope c.args.shapes.now c.args.progress.now.bound)).goals
    c.followed.ensures.was c.operands-in-Concat.ensures.was c.walk-first-in-Concat.ensures.goals
    (subst (λ (bound : List Extents). OnOk c.operands-in-Concat.result
    (c.operands-in-Concat.new.progress.goals ≡ c.walk-first-in-Concat.new.progress.goals
    ++ (walked c.get-in-Concat-2.result.now (scope c.args.shapes.now bound)).goals))
    c.walk-first-in-Concat.ensures.bound c.operands-in-Concat.ensures.goals))

pub walk-returns-in-Add-clause-shape : goal.walk-returns-in-Add-clause-shape
walk-returns-in-Add-clause-shape t c =
    told_shape (walked c.args.term.now (scope c.args.shapes.now c.args.progress.now.bound))
    (two (walked c.get-in-Add.result.now (scope c.args.shapes.now c.args.progress.now.bound))
    (walked c.get-in-Add-2.result.now (scope c.args.shapes.now c.args.progress.now.bound)) of_equal) c.equal.result
    (added c.args.term.now c.in-Add.a c.in-Add.b c.get-in-Add.result.now c.get-in-Add-2.result.now (scope c.args.shapes.now c.args.progress.now.bound)
    c.in-Add.is c.get-in-Add.ensures c.get-in-Add-2.ensures)
    (c.equal.ensures.shape (walked c.get-in-Add.result.now (scope c.args.shapes.now c.args.progress.now.bound)).shape
    (walked c.get-in-Add-2.result.now (scope c.args.shapes.now c.args.progress.now.bound)).shape
    (subst (λ (bound : List Extents). AreAnswered (walked c.get-in-Add.result.now (scope c.args.shapes.now c.args.progress.now.bound)).shape
    (walked c.get-in-Add-2.result.now (scope c.args.shapes.now bound)).shape c.operands-in-Add.result)
    c.walk-first-in-Add.ensures.bound
    (c.operands-in-Add.ensures.shape (walked c.get-in-Add.result.now (scope c.args.shapes.now c.args.progress.now.bound)).shape
    c.walk-first-in-Add.ensures.shape)))

pub walk-returns-in-Add-clause-goals : goal.walk-returns-in-Add-clause-goals
walk-returns-in-Add-clause-goals t c =
    told_goals (walked c.args.term.now (scope c.args.shapes.now c.args.progress.now.bound))
    (two (walked c.get-in-Add.result.now (scope c.args.shapes.now c.args.progress.now.bound))
    (walked c.get-in-Add-2.result.now (scope c.args.shapes.now c.args.progress.now.bound)) of_equal) c.equal.result c.args.progress.now.goals
    c.operands-in-Add.new.progress.goals
    (added c.args.term.now c.in-Add.a c.in-Add.b c.get-in-Add.result.now c.get-in-Add-2.result.now (scope c.args.shapes.now c.args.progress.now.bound)
    c.in-Add.is c.get-in-Add.ensures c.get-in-Add-2.ensures)
    (two_goals c.equal.result c.operands-in-Add.result c.walk-first-in-Add.result c.args.progress.now.goals c.walk-first-in-Add.new.progress.goals
    c.operands-in-Add.new.progress.goals (walked c.get-in-Add.result.now (scope c.args.shapes.now c.args.progress.now.bound)).goals
    (walked c.get-in-Add-2.result.now (scope c.args.shapes.now c.args.progress.now.bound)).goals
    c.equal.ensures.was c.operands-in-Add.ensures.was c.walk-first-in-Add.ensures.goals
    (subst (λ (bound : List Extents). OnOk c.operands-in-Add.result
    (c.operands-in-Add.new.progress.goals ≡ c.walk-first-in-Add.new.progress.goals
    ++ (walked c.get-in-Add-2.result.now (scope c.args.shapes.now bound)).goals))
    c.walk-first-in-Add.ensures.bound c.operands-in-Add.ensures.goals))
