use Rattle.std.proofs.Common.{◌≡◌, ◌∙◌, ap, length, rules, true}
use Rattle.std.proofs.lemmas.Result.{IfOk-at_ok}
use Rattle.term_tree.specs.Modules.{extents_scoped}
use Rattle.atl_meaning.proofs.ExtentScopes.{transposed-scoped}
use Rattle.atl_meaning.proofs.survey.transposed_node.Goals as goal

pub at_node-requires-clause-scoped : goal.at_node-requires-clause-scoped
at_node-requires-clause-scoped c = ap (extents_scoped (length c.args.sizes.now)) (c.in_ok-extents.ensures {u = tt})
    ∙ transposed-scoped (length c.args.sizes.now) c.in_ok-child.child.extents
    (IfOk-at_ok (λ f. extents_scoped (length c.args.sizes.now) f.extents ≡ true) (c.in_ok-child.was {u = tt}) c.requires.scoped)

pub returns-clause-found : goal.returns-clause-found
returns-clause-found c = (c.in_ok-child.child, c.in_ok-child.was {u = tt}, search rules)
