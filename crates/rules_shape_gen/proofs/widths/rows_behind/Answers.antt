use Rattle.std.proofs.Common.{subst, sym, [], ◌∷◌}
use Rattle.affine_index.specs.Sum.{sum_of}
use Rattle.affine_index.specs.declared.form.Items.{Items}
use Rattle.binders.specs.Answers.{IsWithinReach}
use Rattle.binders.specs.PlainMaps.{put_index_reach}
use Rattle.rule_parts.specs.Conds.{at_least}
use Rattle.rules_shape_gen.specs.Formed.{IsFormed}
use Rattle.rules_shape_gen.specs.Rows.{back, row_of}
use Rattle.rules_shape_gen.specs.declared.formed.FormDraft.{FormDraft}
use Rattle.term_tree.specs.Syntax.{guard}
use Rattle.rules_shape_gen.proofs.widths.rows_behind.Goals as goal

pub row_of-requires-clause-within : goal.row_of-requires-clause-within
row_of-requires-clause-within c = λ x e.
    subst (λ (y : Items). IsWithinReach (put_index_reach (y ∷ []) 1) c.args.body.now)
    (sym (subst (λ (d : FormDraft). IsFormed (back c.args.a.now) d) e (c.in_ok-at.ensures {u = tt}))) c.requires.within

pub returns : goal.returns
returns c =
    let n = c.args.n.now in
    let a = c.args.a.now in
    let row = row_of n c.args.body.now (back a) in
    c.gen_with.ensures (sum_of n a) (guard (at_least (back a)) row) (c.in_ok-width.ensures {u = tt})
    (c.in_ok-guarded.ensures {u = tt} (back a) row (c.in_ok-from.ensures {u = tt})
    (c.in_ok-row.ensures {u = tt} (back a) (c.in_ok-at.ensures {u = tt})))
