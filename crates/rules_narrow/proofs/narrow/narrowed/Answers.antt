use Rattle.std.proofs.Common.{[], ◌∷◌, ap, sym, subst, ◌∙◌}
use Rattle.affine_index.specs.declared.form.Items.{Items}
use Rattle.binders.specs.Answers.{IsWithinReach}
use Rattle.binders.specs.PlainMaps.{put_index_reach}
use Rattle.fact_list.specs.Facts.{where_normal}
use Rattle.rules_narrow.specs.Narrow.{further, start}
use Rattle.rules_narrow.proofs.CallLaws.{where_some}
use Rattle.rules_narrow.proofs.narrow.narrowed.Goals as goal

pub turned-requires-clause-within : goal.turned-requires-clause-within
turned-requires-clause-within c =
    let e = sym c.in-Some.is ∙ c.in_ok-turn.ensures {u = tt} ∙ ap (λ (x : Items). where_normal (further x)) (c.in_ok-start.ensures {u = tt}) in
    subst (λ (x : Items). IsWithinReach (put_index_reach (x ∷ []) 1) c.args.row.now) (sym (where_some (further (start c.args.a.now)) c.in-Some.turn e))
    c.requires.within
