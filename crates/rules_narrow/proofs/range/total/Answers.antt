use Rattle.path_focus.proofs.MakingLaws.{taken-room}
use Rattle.rules_narrow.proofs.range.total.Goals as goal

pub sum-requires : goal.sum-requires
sum-requires c =
    taken-room c.args.a.now c.args.b.now c.in_ok-first.first c.in_ok-second.second c.in_ok-first.ensures.same c.in_ok-second.ensures.same
    c.copied.ensures.normal c.copied-2.ensures.normal
