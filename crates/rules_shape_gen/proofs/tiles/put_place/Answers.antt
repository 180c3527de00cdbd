use Rattle.std.proofs.Common.{subst, sym, List, IfOk}
use Rattle.affine_index.specs.declared.form.Items.{Items}
use Rattle.binders.specs.Answers.{IsWithinReach}
use Rattle.binders.specs.Maps.{mapped}
use Rattle.binders.specs.PlainMaps.{put_index_map, put_index_reach}
use Rattle.path_focus.specs.Outcome.{IsDraft}
use Rattle.rules_shape_gen.proofs.tiles.put_place.Goals as goal

pub with_indices-requires-clause-within : goal.with_indices-requires-clause-within
with_indices-requires-clause-within c =
    subst (λ (by : List Items). IsWithinReach (put_index_reach by 2) c.args.body.now) (sym (c.in_ok-by.ensures {u = tt})) c.requires.within

pub returns : goal.returns
returns c =
    subst (λ (by : List Items). IfOk c.with_indices.result (IsDraft (mapped (put_index_map by 2) 0 0 c.args.body.now))) (c.in_ok-by.ensures {u = tt})
    c.with_indices.ensures
