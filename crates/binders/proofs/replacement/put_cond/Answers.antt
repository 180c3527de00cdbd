use Rattle.std.proofs.Common.{◌≡◌, ◌+◌, ◌∷◌, ◌&&◌, map, drop, ap, sym, ◌∙◌, subst, Ok, Some, None}
use Rattle.std.proofs.lemmas.Bool.{or_parts, or_right}
use Rattle.std.proofs.lemmas.List.{drop_more}
use Rattle.affine_index.specs.Condition.{cmp_form}
use Rattle.affine_index.specs.Normal.{coefficients_fit, is_short}
use Rattle.term_tree.specs.Limits.{each_cmp}
use Rattle.binders.specs.Answers.{IsCmp, form_beyond, form_causes}
use Rattle.binders.specs.Maps.{put_cmp, put_cond_at}
use Rattle.binders.specs.Uses.{any_cmp}
use Rattle.binders.proofs.CondLaws.{cond_of, done_all, done_fit, done_short, more_fit, more_mapped, more_short, too_long}
use Rattle.binders.proofs.replacement.put_cond.Goals as goal
use Rattle.binders.proofs.replacement.put_cond.Goals.{in-Some+in_ok-push-in-Some, in-None}

pub loop-cmp-preserved : goal.loop-cmp-preserved
loop-cmp-preserved g c =
    let m = g.M.VarMap.meaning c.args.map.now in
    let r = g.M.VarMap.refusals c.args.map.now in
    let i = c.args.depths.index in
    let j = c.args.depths.tensor in
    let f = put_cmp (m.for_index i j) in
    let items = c.as_slice-cmp-items.result.now in
    let rest = drop (c.loop-cmp.cmp-index + 1) items in
    let back = drop c.loop-cmp.cmp-index items in
    let x = c.cmp-item.result in
    let inv = c.loop-cmp.invariant in
    let e : back ≡ x ∷ rest = drop_more items c.loop-cmp.cmp-index x c.loop-cmp-test.true ∙ ap (λ z. z ∷ rest) (sym c.cmp-item.is) in
    let within = (or_parts (form_beyond (g.M.VarMap.reach c.args.map.now) i j (cmp_form x)) _
    (ap (any_cmp (form_beyond (g.M.VarMap.reach c.args.map.now) i j)) (sym e) ∙ inv.within)).1 in
    elim c.match-branch-2.branch [
      | in-Some+in_ok-push-in-Some w ↦
          let h : IsCmp (f x) (λ k. form_causes m r k i j (cmp_form x)) (Ok (Some w.in-Some.cmp)) =
          subst (λ o. IsCmp (f x) (λ k. form_causes m r k i j (cmp_form x)) (Ok o)) w.in-Some.is c.in_ok-cmp.ensures in
          record {
            within = within;
            causes = λ k h. inv.causes k (ap (any_cmp (form_causes m r k i j)) e ∙ or_right _ _ h);
            fits = more_fit f items rest back x e coefficients_fit h.1 inv.fits;
            short = ap (λ b. b && each_cmp is_short (map f rest)) w.short-is ∙ more_short f items rest back x e is_short c.loop-cmp.short h.2 inv.short;
            all = λ s. more_mapped f items rest back x e c.loop-cmp.all c.match-branch-2.all w.in-Some.cmp (w.all-is ∙ w.in_ok-push-in-Some.ensures.ok) h.0
                (inv.all (sym w.short-is ∙ s));
          }
      | in-None w ↦
          let h : IsCmp (f x) (λ k. form_causes m r k i j (cmp_form x)) (Ok None) =
          subst (λ o. IsCmp (f x) (λ k. form_causes m r k i j (cmp_form x)) (Ok o)) w.in-None.is c.in_ok-cmp.ensures in
          record {
            within = within;
            causes = λ k h. inv.causes k (ap (any_cmp (form_causes m r k i j)) e ∙ or_right _ _ h);
            fits = more_fit f items rest back x e coefficients_fit h.0 inv.fits;
            short = ap (λ b. b && each_cmp is_short (map f rest)) w.short-is ∙ too_long f items rest back x e is_short c.loop-cmp.short h.1 inv.short;
            all = λ s. absurd (let bad = sym w.short-is ∙ s in cc);
          }
    ]

pub returns-then-short : goal.returns-then-short
unfolding put_cond_at
returns-then-short g c =
    let f = put_cmp ((g.M.VarMap.meaning c.args.map.now).for_index c.args.depths.index c.args.depths.tensor) in
    let items = c.as_slice-cmp-items.result.now in
    let e = c.as_slice-cmp-items.ensures in
    let n = c.loop-cmp.cmp-index in
    let inv = c.loop-cmp.invariant in
    let all = done_all f items n c.loop-cmp-test.false c.loop-cmp.all (inv.all c.if-short.true) ∙ ap (map f) e in (
      cond_of c.loop-cmp.all (map f c.args.cond.now.all) all,
      ap (λ cs. each_cmp coefficients_fit (map f cs)) (sym e) ∙ done_fit f items n c.loop-cmp-test.false coefficients_fit inv.fits,
      ap (λ cs. each_cmp is_short (map f cs)) (sym e) ∙ done_short f items n c.loop-cmp-test.false is_short c.loop-cmp.short inv.short ∙ c.if-short.true,
    )

pub returns-else-short : goal.returns-else-short
unfolding put_cond_at
returns-else-short g c =
    let f = put_cmp ((g.M.VarMap.meaning c.args.map.now).for_index c.args.depths.index c.args.depths.tensor) in
    let items = c.as_slice-cmp-items.result.now in
    let e = c.as_slice-cmp-items.ensures in
    let n = c.loop-cmp.cmp-index in
    let inv = c.loop-cmp.invariant in (
      ap (λ cs. each_cmp coefficients_fit (map f cs)) (sym e) ∙ done_fit f items n c.loop-cmp-test.false coefficients_fit inv.fits,
      ap (λ cs. each_cmp is_short (map f cs)) (sym e) ∙ done_short f items n c.loop-cmp-test.false is_short c.loop-cmp.short inv.short ∙ c.if-short.false,
    )
