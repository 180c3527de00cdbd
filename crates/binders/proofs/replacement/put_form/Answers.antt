use Rattle.std.proofs.Common.{sym, ◌∙◌}
use Rattle.binders.proofs.LoneLaws.{lone_is, lone_reach}
use Rattle.binders.proofs.replacement.put_form.Goals as goal

pub put_lone-requires : goal.put_lone-requires
put_lone-requires g c = record {
  within = lone_reach (g.M.VarMap.reach c.args.map.now) c.args.depths.index c.args.depths.tensor c.args.form.now c.in-Some.var
      (sym c.items.ensures.form ∙ c.in-Some.ensures {u = tt}) c.requires.within;
}

pub returns-in-Some : goal.returns-in-Some
returns-in-Some g c =
    lone_is (g.M.VarMap.meaning c.args.map.now) (g.M.VarMap.refusals c.args.map.now) c.args.depths.index c.args.depths.tensor c.args.form.now c.in-Some.var
    (sym c.items.ensures.form ∙ c.in-Some.ensures {u = tt}) c.put_lone.result c.put_lone.ensures
