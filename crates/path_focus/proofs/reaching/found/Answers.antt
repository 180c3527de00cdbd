use Rattle.std.proofs.Common.{◌≡◌, rules}
use Rattle.path_focus.specs.Trail.{start_of}
use Rattle.term_tree.specs.Modules.{input_shapes}
use Rattle.path_focus.specs.Frames.{way}
use Rattle.path_focus.proofs.CallLaws.{focus_there}
use Rattle.path_focus.proofs.reaching.found.Goals as goal

pub returns : goal.returns
returns c =
    let s : c.in_ok-trail.trail ≡ start_of (input_shapes c.args.module.now) = search rules in
    focus_there c.args.module.now (way c.args.term.now c.args.steps.now) c.in_ok-trail.trail c.go.new.self c.in_ok-term.term c.told_by.result s
    c.in_ok-term.ensures c.told_by.ensures
