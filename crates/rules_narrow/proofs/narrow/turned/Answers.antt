use Rattle.std.proofs.Common.{subst, sym, List, IfOk}
use Rattle.affine_index.specs.declared.form.Items.{Items}
use Rattle.binders.specs.Answers.{IsWithinReach}
use Rattle.binders.specs.Maps.{mapped}
use Rattle.binders.specs.PlainMaps.{put_index_map, put_index_reach}
use Rattle.path_focus.specs.Outcome.{IsDraft}
use Rattle.term_tree.specs.Syntax.{sum}
use Rattle.rules_narrow.proofs.narrow.turned.Goals as goal

pub with_indices-requires-clause-within : goal.with_indices-requires-clause-within
with_indices-requires-clause-within c =
    subst (λ (by : List Items). IsWithinReach (put_index_reach by 1) c.args.row.now) (sym (c.in_ok-by.ensures {u = tt})) c.requires.within

pub returns : goal.returns
returns c =
    subst (λ (by : List Items). IfOk c.sum_of.result (IsDraft (sum c.args.m.now (mapped (put_index_map by 1) 0 0 c.args.row.now))))
    (c.in_ok-by.ensures {u = tt})
    (c.sum_of.ensures (mapped (put_index_map c.in_ok-by.by 1) 0 0 c.args.row.now) (c.in_ok-moved.ensures {u = tt}))
