use Rattle.std.proofs.Common.{subst, sym, IfOk, [], ◌∷◌}
use Rattle.affine_index.specs.declared.form.Items.{Items}
use Rattle.binders.specs.Answers.{IsWithinReach}
use Rattle.binders.specs.PlainMaps.{put_index_reach}
use Rattle.path_focus.specs.Making.{with_index}
use Rattle.path_focus.specs.Outcome.{IsDraft}
use Rattle.path_focus.proofs.making.lowered.Goals as goal

pub with_index-requires-clause-within : goal.with_index-requires-clause-within
with_index-requires-clause-within c =
    subst (λ (x : Items). IsWithinReach (put_index_reach (x ∷ []) 0) c.args.body.now) (sym (c.in_ok-zero.ensures {u = tt})) c.requires.within

pub returns : goal.returns
returns c =
    subst (λ (x : Items). IfOk c.with_index.result (IsDraft (with_index x c.args.body.now))) (c.in_ok-zero.ensures {u = tt}) c.with_index.ensures
