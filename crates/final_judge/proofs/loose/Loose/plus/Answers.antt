use Rattle.final_judge.proofs.LooseLaws.{sum-in-order}
use Rattle.final_judge.proofs.loose.Loose.plus.Goals as goal

pub settled-requires : goal.settled-requires
settled-requires c =
    sum-in-order c.form.result.now c.form-2.result.now c.in_ok-a.a c.in_ok-b.b c.in_ok-total.total c.in_ok-a.ensures c.in_ok-b.ensures c.in_ok-total.ensures
    c.form.ensures.ordered c.form-2.ensures.ordered
