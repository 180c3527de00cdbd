use Rattle.std.proofs.Common.{subst, sym, [], ◌∷◌}
use Rattle.affine_index.specs.Sum.{difference_of}
use Rattle.affine_index.specs.declared.form.Items.{Items}
use Rattle.binders.specs.Answers.{IsWithinReach}
use Rattle.binders.specs.PlainMaps.{put_index_reach}
use Rattle.rules_loop.specs.Cuts.{further}
use Rattle.rules_shape_gen.specs.Formed.{IsFormed}
use Rattle.rules_shape_gen.specs.Rows.{row_of}
use Rattle.rules_shape_gen.specs.declared.formed.FormDraft.{FormDraft}
use Rattle.rules_shape_gen.proofs.widths.later_rows.Goals as goal

pub row_of-requires-clause-within : goal.row_of-requires-clause-within
row_of-requires-clause-within c = λ x e.
    subst (λ (y : Items). IsWithinReach (put_index_reach (y ∷ []) 1) c.args.body.now)
    (sym (subst (λ (d : FormDraft). IsFormed (further c.args.a.now) d) e (c.in_ok-at.ensures {u = tt}))) c.requires.within

pub returns : goal.returns
returns c =
    let n = c.args.n.now in
    let a = c.args.a.now in
    c.gen_with.ensures (difference_of n a) (row_of n c.args.body.now (further a)) (c.in_ok-width.ensures {u = tt})
    (c.in_ok-row.ensures {u = tt} (further a) (c.in_ok-at.ensures {u = tt}))
