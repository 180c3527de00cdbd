use Rattle.std.proofs.Common.{◌∙◌, arith}
use Rattle.std.specs.Prelude.{not}
use Rattle.term_tree.proofs.NodeFold.{node_depth-fold}
use Rattle.binders.specs.Answers.{form_beyond}
use Rattle.binders.proofs.CountingLaws.{hollow-refused, hollow-too_long, hollow-too_many}
use Rattle.binders.proofs.PlaceFold.{place_fold-is}
use Rattle.binders.proofs.mapped.over.Goals as goal

pub part-requires : goal.part-requires
part-requires g c =
    let d = g.M.VarMap.reach c.args.map.now in
    let e = node_depth-fold c.args.term.now in
    record {
      index = omega (arith, e, c.requires.deep);
      tensor = omega (arith, e, c.requires.deep);
      within = place_fold-is (form_beyond d) (λ i j q. not (d.has_tensor i j q)) c.args.term.now 0 0 ∙ c.requires.within;
    }

pub returns-in-Ok-Some : goal.returns-in-Ok-Some
returns-in-Ok-Some g c =
    let w = c.in-Ok-Some in
    hollow-too_many (g.M.VarMap.meaning c.args.map.now) (g.M.VarMap.refusals c.args.map.now) c.args.term.now c.args.nodes w.field-0 w.spare
    w.field-0-is (w.ensures {u = tt}) c.requires.count c.requires.many

pub returns-in-Ok-None : goal.returns-in-Ok-None
returns-in-Ok-None g c =
    let w = c.in-Ok-None in
    hollow-too_long (g.M.VarMap.meaning c.args.map.now) (g.M.VarMap.refusals c.args.map.now) c.args.term.now c.args.nodes w.field-0 w.field-0-is
    (w.ensures {u = tt})

pub returns-in-Err : goal.returns-in-Err
returns-in-Err g c =
    hollow-refused (g.M.VarMap.meaning c.args.map.now) (g.M.VarMap.refusals c.args.map.now) c.args.term.now c.args.nodes c.in-Err.refusal
    (c.in-Err.ensures {u = tt})
