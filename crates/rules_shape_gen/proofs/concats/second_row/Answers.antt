use Rattle.std.proofs.Common.{subst, sym, [], ◌∷◌}
use Rattle.affine_index.specs.declared.form.Items.{Items}
use Rattle.binders.specs.Answers.{IsWithinReach}
use Rattle.binders.specs.PlainMaps.{put_index_reach}
use Rattle.rules_shape_gen.specs.Formed.{IsFormed}
use Rattle.rules_shape_gen.specs.Rows.{back, row_of}
use Rattle.rules_shape_gen.specs.declared.formed.FormDraft.{FormDraft}
use Rattle.rules_shape_gen.proofs.concats.second_row.Goals as goal

pub row_of-requires-clause-within : goal.row_of-requires-clause-within
row_of-requires-clause-within c = λ x e.
    subst (λ (y : Items). IsWithinReach (put_index_reach (y ∷ []) 1) c.args.b.now)
    (sym (subst (λ (d : FormDraft). IsFormed (back c.args.n.now) d) e (c.in_ok-at.ensures {u = tt}))) c.requires.within

pub returns : goal.returns
returns c =
    let n = c.args.n.now in
    c.guard_with.ensures (back n) (row_of c.args.m.now c.args.b.now (back n)) (c.in_ok-from.ensures {u = tt})
    (c.in_ok-row.ensures {u = tt} (back n) (c.in_ok-at.ensures {u = tt}))
