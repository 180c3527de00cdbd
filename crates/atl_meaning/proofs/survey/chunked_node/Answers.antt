use Rattle.std.proofs.Common.{◌≡◌, ◌∙◌, ap, length, rules, true}
use Rattle.std.proofs.lemmas.Result.{IfOk-at_ok}
use Rattle.term_tree.specs.Modules.{extents_scoped}
use Rattle.atl_meaning.specs.Forms.{each_within, chunked_forms}
use Rattle.atl_meaning.proofs.ExtentScopes.{chunked-scoped}
use Rattle.atl_meaning.proofs.survey.chunked_node.Goals as goal

pub chunked-requires-clause-within : goal.chunked-requires-clause-within
chunked-requires-clause-within c = IfOk-at_ok (λ f. each_within (chunked_forms c.args.k f.extents) ≡ true) (c.in_ok-child.was {u = tt}) c.requires.within

pub at_node-requires-clause-scoped : goal.at_node-requires-clause-scoped
at_node-requires-clause-scoped c = ap (extents_scoped (length c.args.sizes.now)) (c.in_ok-extents.ensures {u = tt})
    ∙ chunked-scoped (length c.args.sizes.now) c.args.k c.in_ok-child.child.extents
    (IfOk-at_ok (λ f. extents_scoped (length c.args.sizes.now) f.extents ≡ true) (c.in_ok-child.was {u = tt}) c.requires.scoped)

pub returns-clause-found : goal.returns-clause-found
returns-clause-found c = (c.in_ok-child.child, c.in_ok-child.was {u = tt}, search rules)
