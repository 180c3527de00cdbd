use Rattle.std.proofs.Common.{sym, ◌∙◌, ap}
use Rattle.affine_index.specs.Normal.{coefficients_fit, is_normal, is_short}
use Rattle.term_tree.specs.Limits.{every_form}
use Rattle.term_tree.proofs.FormLaws.{every_form-weaker}
use Rattle.binders.proofs.AnswerLaws.{tensor_cause}
use Rattle.binders.proofs.NormalLaws.{fits_of, short_of}
use Rattle.binders.proofs.mapping.tensor.Goals as goal

pub returns-in-Ok : goal.returns-in-Ok
returns-in-Ok g c =
    let e = c.in-Ok.ensures.0 in (
      e,
      ap (every_form coefficients_fit) (sym e) ∙ every_form-weaker is_normal coefficients_fit fits_of c.in-Ok.term c.told.ensures,
      ap (every_form is_short) (sym e) ∙ every_form-weaker is_normal is_short short_of c.in-Ok.term c.told.ensures,
    )

pub returns-in-Err : goal.returns-in-Err
returns-in-Err g c =
    tensor_cause (g.M.VarMap.meaning c.args.map.now) (g.M.VarMap.refusals c.args.map.now) c.args.depths.index c.args.depths.tensor c.args.var
    c.in-Err.refusal c.in-Err.ensures
