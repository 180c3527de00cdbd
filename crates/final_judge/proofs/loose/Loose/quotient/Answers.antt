use Rattle.final_judge.proofs.LooseLaws.{quotient-in-order}
use Rattle.final_judge.proofs.loose.Loose.quotient.Goals as goal

pub settled-requires : goal.settled-requires
settled-requires c =
    quotient-in-order c.form.result.now c.in_ok-form.form c.in_ok-floor.floor c.args.by c.in_ok-form.ensures c.in_ok-floor.ensures c.requires.positive
    c.requires.limit c.form.ensures.ordered
