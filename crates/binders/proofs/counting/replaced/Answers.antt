use Rattle.binders.proofs.AnswerLaws.{tensor_cause}
use Rattle.binders.proofs.counting.replaced.Goals as goal

pub returns-in-Err : goal.returns-in-Err
returns-in-Err g c =
    tensor_cause (g.M.VarMap.meaning c.args.map.now) (g.M.VarMap.refusals c.args.map.now) c.args.depths.index c.args.depths.tensor c.args.var
    c.in-Err.refusal c.in-Err.ensures
