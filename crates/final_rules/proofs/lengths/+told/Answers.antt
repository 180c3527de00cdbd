use Rattle.final_rules.proofs.LengthForms.{normal-is}
use Rattle.final_rules.proofs.lengths.+told.Goals as goal

pub returns-in-Topped : goal.returns-in-Topped
returns-in-Topped t c =
    normal-is c.args.form.now c.in-Topped.items c.in-Topped.a c.in-Topped.b c.get.result.now c.get-in-Topped.result.now c.get.ensures c.get-in-Topped.ensures
    c.in-Topped.is
    c.told-in-Topped.ensures c.told-in-Topped-2.ensures c.told-in-Topped-3.ensures
