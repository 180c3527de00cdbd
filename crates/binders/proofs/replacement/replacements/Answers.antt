use Rattle.std.proofs.Common.{◌≡◌, ◌+◌, ◌++◌, ◌∷◌, [], ◌<◌, length, arith, sym, ◌∙◌, ap, length-append}
use Rattle.binders.specs.Bound.{form_bound}
use Rattle.binders.proofs.AnswerLaws.{given_more, refusal_of, within_reach}
use Rattle.binders.proofs.BoundLaws.{uses-below}
use Rattle.binders.proofs.replacement.replacements.Goals as goal
use Rattle.binders.proofs.replacement.replacements.Goals.{then-form_uses+in-Ok+in_ok-push-in-Ok, else-form_uses+in-Ok-literal+in_ok-push}

pub index-requires : goal.index-requires
index-requires g c = record {
  within = within_reach (g.M.VarMap.reach c.args.map.now) c.args.depths.index c.args.depths.tensor c.args.form.now c.loop-var.var c.requires.within
      (sym c.form_uses.ensures ∙ c.if-form_uses.true);
}

pub returns-in-Err : goal.returns-in-Err
returns-in-Err g c =
    refusal_of (g.M.VarMap.meaning c.args.map.now) (g.M.VarMap.refusals c.args.map.now) c.args.depths.index c.args.depths.tensor c.loop-var.var c.args.form.now
    c.in-Err.refusal c.in-Err.ensures (sym c.form_uses.ensures ∙ c.if-form_uses.true)

pub loop-var-preserved : goal.loop-var-preserved
loop-var-preserved g c =
    elim c.if-form_uses.branch [
      | then-form_uses+in-Ok+in_ok-push-in-Ok w ↦
          let e : c.if-form_uses.by ≡ c.loop-var.by ++ (w.in-Ok.replacement ∷ []) = w.by-is ∙ w.in_ok-push-in-Ok.ensures.ok in
          record {
            many = ap length e ∙ length-append c.loop-var.by (w.in-Ok.replacement ∷ []) ∙ ap (λ n. n + 1) c.loop-var.invariant.many;
            given = given_more c.loop-var.by c.if-form_uses.by w.in-Ok.replacement c.loop-var.var
                ((g.M.VarMap.meaning c.args.map.now).for_index c.args.depths.index c.args.depths.tensor) c.args.form.now c.loop-var.invariant.many e
                c.loop-var.invariant.given (λ u. w.in-Ok.ensures.0);
          }
      | else-form_uses+in-Ok-literal+in_ok-push w ↦
          let e : c.if-form_uses.by ≡ c.loop-var.by ++ (w.in-Ok-literal.none ∷ []) = w.by-is ∙ w.in_ok-push.ensures.ok in
          record {
            many = ap length e ∙ length-append c.loop-var.by (w.in-Ok-literal.none ∷ []) ∙ ap (λ n. n + 1) c.loop-var.invariant.many;
            given = given_more c.loop-var.by c.if-form_uses.by w.in-Ok-literal.none c.loop-var.var
                ((g.M.VarMap.meaning c.args.map.now).for_index c.args.depths.index c.args.depths.tensor) c.args.form.now c.loop-var.invariant.many e
                c.loop-var.invariant.given
                (λ u. absurd (let no = sym c.form_uses.ensures ∙ w.if-form_uses.false in cc));
          }
    ]

pub returns : goal.returns
returns g c = λ v u. c.loop-var.invariant.given v
    (let below : v < form_bound c.args.form.now = uses-below v c.args.form.now u in let e = c.form_bound-var-end.ensures.value in
    omega (arith, below, e, c.loop-var-test.false)) u
