use Rattle.std.proofs.Common.{◌≡◌, Some, rules, subst}
use Rattle.std.specs.Prelude.{All, slice_get}
use Rattle.path_focus.specs.Laws.{HasOrdered, HasWordLiterals, IsThere}
use Rattle.path_focus.specs.Focus.{focus_of}
use Rattle.path_focus.proofs.CallLaws.{may_start, proper_there}
use Rattle.path_focus.proofs.reaching.focus.Goals as goal

pub found-requires : goal.found-requires
found-requires c =
    let found : slice_get c.args.module.now.outputs c.args.path.now.output ≡ Some c.in-Some.output.now = search rules in
    may_start c.args.module.now c.requires.sound c.requires.limited c.args.path.now.output c.in-Some.output.now found

pub returns-in-Some-clause-proper : goal.returns-in-Some-clause-proper
returns-in-Some-clause-proper c =
    let there : IsThere (focus_of c.args.module.now c.args.path.now) c.found.result = search rules in
    proper_there c.args.module.now c.args.path.now c.found.result c.requires.sound
    (subst (λ os. All HasOrdered os) c.as_slice.ensures c.forms_told_of.ensures)
    (subst (λ os. All HasWordLiterals os) c.as_slice-2.ensures c.literals_told_of.ensures) c.requires.limited there
