use Rattle.std.proofs.Common.{◌≡◌, ◌∙◌, List, length, subst, sym, true}
use Rattle.reindexer.specs.Limited.{Answers}
use Rattle.reindexer.specs.Places.{limited_place}
use Rattle.reindexer.specs.Ready.{frames_ready}
use Rattle.reindexer.specs.declared.frame.Frame.{Frame}
use Rattle.final_rules.specs.Printed.{behind}
use Rattle.index_limits.specs.Places.{stored_at}
use Rattle.index_limits.proofs.CountLaws.{due-scoped}
use Rattle.index_limits.proofs.ScopeLaws.{frames-ready}
use Rattle.index_limits.proofs.stores.store_index.Goals as goal

pub stored-place-requires-clause-frames : goal.stored-place-requires-clause-frames
stored-place-requires-clause-frames c =
    subst (λ (fs : List Frame). frames_ready fs ≡ true) (sym (c.as_slice.ensures ∙ c.in_ok-frames.ensures)) (frames-ready c.args.spot.now
    c.requires.ready.around)

pub stored-place-requires-clause-extents : goal.stored-place-requires-clause-extents
stored-place-requires-clause-extents c = c.requires.ready.extents

pub measured-requires-clause-due : goal.measured-requires-clause-due
measured-requires-clause-due c = (
  stored_at c.args.target.now c.args.spot.now,
  subst (λ (fs : List Frame). Answers (behind c.args.target.now.offset (limited_place fs c.args.target.now.extents)) c.stored-place.result)
      (c.as_slice.ensures ∙ c.in_ok-frames.ensures) c.stored-place.ensures,
)

pub measured-requires-clause-scoped : goal.measured-requires-clause-scoped
measured-requires-clause-scoped c =
    due-scoped (length c.args.maxima.now) (length c.args.vars.now) (stored_at c.args.target.now c.args.spot.now) c.stored-place.result c.requires.ready.within
    (subst (λ (fs : List Frame). Answers (behind c.args.target.now.offset (limited_place fs c.args.target.now.extents)) c.stored-place.result)
    (c.as_slice.ensures ∙ c.in_ok-frames.ensures) c.stored-place.ensures)

pub returns : goal.returns
returns c =
    c.measured.ensures (stored_at c.args.target.now c.args.spot.now)
    (subst (λ (fs : List Frame). Answers (behind c.args.target.now.offset (limited_place fs c.args.target.now.extents)) c.stored-place.result)
    (c.as_slice.ensures ∙ c.in_ok-frames.ensures) c.stored-place.ensures)
