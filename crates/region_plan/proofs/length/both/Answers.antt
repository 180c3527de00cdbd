use Rattle.region_plan.proofs.Forms.{made}
use Rattle.region_plan.proofs.length.both.Goals as goal

pub returns : goal.returns
returns c = made c.in_ok-form.form c.args.a c.args.b c.in_ok-first.first c.in_ok-second.second c.in_ok-form.ensures c.in_ok-first.ensures c.in_ok-second.ensures
