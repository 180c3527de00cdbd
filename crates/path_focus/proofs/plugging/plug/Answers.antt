use Rattle.std.proofs.Common.{rules, subst}
use Rattle.std.specs.Prelude.{All}
use Rattle.path_focus.specs.Focus.{plugged_in}
use Rattle.path_focus.specs.Laws.{HasOrdered, HasWordLiterals, IsThere}
use Rattle.path_focus.proofs.CallLaws.{keeps_there, shapes_there}
use Rattle.path_focus.proofs.plugging.plug.Goals as goal

pub returns-in_ok-outputs-in-Some-clause-keeps : goal.returns-in_ok-outputs-in-Some-clause-keeps
returns-in_ok-outputs-in-Some-clause-keeps c =
    let there : IsThere (plugged_in c.args.module.now c.args.path.now c.args.term) c.with_outputs.result = search rules in
    keeps_there c.args.module.now c.args.path.now c.args.term c.with_outputs.result (subst (λ os. All HasOrdered os) c.as_slice.ensures c.forms_told_of.ensures)
    (subst (λ os. All HasWordLiterals os) c.as_slice-2.ensures c.literals_told_of.ensures) there

pub returns-in_ok-outputs-in-Some-clause-shapes : goal.returns-in_ok-outputs-in-Some-clause-shapes
returns-in_ok-outputs-in-Some-clause-shapes c =
    let there : IsThere (plugged_in c.args.module.now c.args.path.now c.args.term) c.with_outputs.result = search rules in
    shapes_there c.args.module.now c.args.path.now c.args.term c.with_outputs.result
    (subst (λ os. All HasOrdered os) c.as_slice.ensures c.forms_told_of.ensures)
    there
