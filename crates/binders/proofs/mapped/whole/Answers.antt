use Rattle.std.proofs.Common.{◌∙◌, ◌-◌, ◌^◌, ap, arith, min}
use Rattle.std.specs.Prelude.{not}
use Rattle.term_tree.proofs.NodeFold.{node_depth-fold}
use Rattle.binders.specs.Answers.{form_beyond}
use Rattle.binders.proofs.CountingLaws.{mapped_nodes-is}
use Rattle.binders.proofs.PlaceFold.{place_fold-is}
use Rattle.binders.proofs.RefusalLaws.{refusal_is}
use Rattle.binders.proofs.mapped.whole.Goals as goal

pub count-requires : goal.count-requires
count-requires g c =
    let d = g.M.VarMap.reach c.args.map.now in
    let e = node_depth-fold c.args.term.now in
    record {
      index = omega (arith, e, c.requires.deep);
      tensor = omega (arith, e, c.requires.deep);
      within = place_fold-is (form_beyond d) (λ i j q. not (d.has_tensor i j q)) c.args.term.now 0 0 ∙ c.requires.within;
    }

pub over-requires-clause-count : goal.over-requires-clause-count
over-requires-clause-count g c =
    c.in-Ok.ensures {u = tt} ∙ ap (λ n. min n (2 ^ 64 - 1)) (mapped_nodes-is (g.M.VarMap.meaning c.args.map.now) c.args.term.now 0 0)

pub made-requires-clause-count : goal.made-requires-clause-count
made-requires-clause-count g c =
    c.in-Ok.ensures {u = tt} ∙ ap (λ n. min n (2 ^ 64 - 1)) (mapped_nodes-is (g.M.VarMap.meaning c.args.map.now) c.args.term.now 0 0)

pub returns-in-Err : goal.returns-in-Err
returns-in-Err g c =
    refusal_is (g.M.VarMap.meaning c.args.map.now) (g.M.VarMap.refusals c.args.map.now) c.args.term.now c.in-Err.refusal c.in-Err.ensures
