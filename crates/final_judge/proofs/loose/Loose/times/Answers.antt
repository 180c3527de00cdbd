use Rattle.affine_index.proofs.ArithmeticLaws.{second-room}
use Rattle.final_judge.proofs.LooseLaws.{times-in-order, times-room}
use Rattle.final_judge.proofs.loose.Loose.times.Goals as goal

pub product-requires-clause-room : goal.product-requires-clause-room
product-requires-clause-room c = times-room c.form.result.now c.args.by.now c.in_ok-by.by c.in_ok-by.ensures.same c.form.ensures.small c.copied.ensures.normal

pub product-requires-clause-second : goal.product-requires-clause-second
product-requires-clause-second c = second-room c.args.by.now c.in_ok-by.by c.in_ok-by.ensures.same c.copied.ensures.normal

pub settled-requires : goal.settled-requires
settled-requires c =
    times-in-order c.form.result.now c.args.by.now c.in_ok-by.by c.in_ok-product.product c.in_ok-by.ensures.same c.in_ok-product.ensures c.form.ensures.ordered
    c.copied.ensures.normal c.requires
