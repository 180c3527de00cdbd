use Rattle.final_judge.proofs.ClaimLaws.{last-room}
use Rattle.final_judge.proofs.reads.last_row.Goals as goal

pub sum-requires : goal.sum-requires
sum-requires c = last-room c.args.extent.now c.in_ok-extent.extent c.in_ok-number.number c.in_ok-extent.ensures.same c.in_ok-number.ensures c.told.ensures
