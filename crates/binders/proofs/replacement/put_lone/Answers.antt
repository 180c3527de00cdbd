use Rattle.std.proofs.Common.{ap, sym, ◌∙◌}
use Rattle.affine_index.specs.Normal.{coefficients_fit, is_short}
use Rattle.binders.proofs.AnswerLaws.{index_cause}
use Rattle.binders.proofs.NormalLaws.{fits_of, short_of}
use Rattle.binders.proofs.replacement.put_lone.Goals as goal

pub returns-in-Ok : goal.returns-in-Ok
returns-in-Ok g c =
    let e = c.in-Ok.ensures.0 in
    (e, ap coefficients_fit (sym e) ∙ fits_of c.in-Ok.form c.told.ensures, ap is_short (sym e) ∙ short_of c.in-Ok.form c.told.ensures)

pub returns-in-Err : goal.returns-in-Err
returns-in-Err g c =
    index_cause (g.M.VarMap.meaning c.args.map.now) (g.M.VarMap.refusals c.args.map.now) c.args.depths.index c.args.depths.tensor c.args.var
    c.in-Err.refusal c.in-Err.ensures
