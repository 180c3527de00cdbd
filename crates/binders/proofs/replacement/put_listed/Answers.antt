use Rattle.std.proofs.Common.{◌∙◌, ap, subst, Err}
use Rattle.affine_index.specs.Put.{given, put_all}
use Rattle.binders.specs.Answers.{AreReplacements}
use Rattle.binders.specs.Uses.{uses}
use Rattle.binders.proofs.Agreement.{put-agrees}
use Rattle.binders.proofs.AnswerLaws.{put_is, refused_is}
use Rattle.binders.proofs.replacement.put_listed.Goals as goal

pub returns-in-Ok : goal.returns-in-Ok
returns-in-Ok g c =
    put_is (g.M.VarMap.meaning c.args.map.now) (g.M.VarMap.refusals c.args.map.now) c.args.depths.index c.args.depths.tensor c.args.form.now
    (put_all (given c.as_slice.result.now) c.args.form.now) c.put_given.result
    (ap (λ by. put_all (given by) c.args.form.now) c.as_slice.ensures
    ∙ put-agrees (given c.in-Ok.by) ((g.M.VarMap.meaning c.args.map.now).for_index c.args.depths.index c.args.depths.tensor) c.args.form.now
    (λ v u. c.in-Ok.ensures v (ap (uses v) c.items.ensures.form ∙ u)))
    c.put_given.ensures

pub returns-in-Err : goal.returns-in-Err
returns-in-Err g c =
    refused_is (g.M.VarMap.meaning c.args.map.now) (g.M.VarMap.refusals c.args.map.now) c.args.depths.index c.args.depths.tensor c.args.form.now
    c.in-Err.refusal
    (subst (λ x. AreReplacements (g.M.VarMap.meaning c.args.map.now) (g.M.VarMap.refusals c.args.map.now) c.args.depths.index c.args.depths.tensor x
    (Err c.in-Err.refusal))
    c.items.ensures.form c.in-Err.ensures)
