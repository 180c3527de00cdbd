use Rattle.std.proofs.Common.{◌≡◌, ◌∙◌, ap, length, rules, true}
use Rattle.std.proofs.lemmas.Result.{IfOk-at_ok}
use Rattle.term_tree.specs.Modules.{extents_scoped}
use Rattle.atl_meaning.specs.Forms.{each_within, flattened_forms}
use Rattle.atl_meaning.proofs.ExtentScopes.{flattened-scoped}
use Rattle.shape_rules.proofs.ModuleLaws.{free_extents}
use Rattle.atl_meaning.proofs.survey.flattened_node.Goals as goal

pub flattened-requires-clause-within : goal.flattened-requires-clause-within
flattened-requires-clause-within c = IfOk-at_ok (λ f. each_within (flattened_forms f.extents) ≡ true) (c.in_ok-child.was {u = tt}) c.requires.within

pub flattened-requires-clause-free : goal.flattened-requires-clause-free
flattened-requires-clause-free c =
    free_extents (length c.args.sizes.now) c.in_ok-child.child.extents
    (IfOk-at_ok (λ f. extents_scoped (length c.args.sizes.now) f.extents ≡ true) (c.in_ok-child.was {u = tt}) c.requires.scoped)

pub at_node-requires-clause-scoped : goal.at_node-requires-clause-scoped
at_node-requires-clause-scoped c = ap (extents_scoped (length c.args.sizes.now)) (c.in_ok-extents.ensures {u = tt})
    ∙ flattened-scoped (length c.args.sizes.now) c.in_ok-child.child.extents
    (IfOk-at_ok (λ f. extents_scoped (length c.args.sizes.now) f.extents ≡ true) (c.in_ok-child.was {u = tt}) c.requires.scoped)

pub returns-clause-found : goal.returns-clause-found
returns-clause-found c = (c.in_ok-child.child, c.in_ok-child.was {u = tt}, search rules)
