use Rattle.affine_index.specs.Normal.{is_normal, is_ordered}
use Rattle.term_tree.proofs.FormLaws.{every_form-weaker}
use Rattle.binders.specs.Answers.{refused}
use Rattle.binders.specs.Maps.{mapped}
use Rattle.binders.proofs.NormalLaws.{ordered_of}
use Rattle.binders.proofs.RefusalLaws.{keeps_of, limits_alone}
use Rattle.binders.proofs.ScopeLaws.{scope_of}
use Rattle.binders.proofs.mapped.map_term.Goals as goal

pub returns-clause-limits : goal.returns-clause-limits
returns-clause-limits g c = λ never.
    limits_alone (mapped (g.M.VarMap.meaning c.args.map.now) 0 0 c.args.term.now) c.args.term.now (g.M.VarMap.refusals c.args.map.now)
    c.whole.result never c.whole.ensures

pub returns-clause-keeps : goal.returns-clause-keeps
returns-clause-keeps g c =
    keeps_of (g.M.VarMap.meaning c.args.map.now) c.args.term.now (refused (g.M.VarMap.refusals c.args.map.now) c.args.term.now) c.whole.result
    (every_form-weaker is_normal is_ordered ordered_of c.args.term.now c.told.ensures) c.whole.ensures

pub returns-clause-scope : goal.returns-clause-scope
returns-clause-scope g c =
    scope_of (g.M.VarMap.meaning c.args.map.now) c.args.term.now (refused (g.M.VarMap.refusals c.args.map.now) c.args.term.now) c.whole.result c.whole.ensures
