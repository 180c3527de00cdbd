use Rattle.path_focus.proofs.CallLaws.{filled_there}
use Rattle.path_focus.proofs.plugging.+plugged.Goals as goal

pub returns-in_ok-inside-in-Some : goal.returns-in_ok-inside-in-Some
returns-in_ok-inside-in-Some t c =
    filled_there c.args.new c.args.term.now c.args.steps.now c.in-Some.inside.now c.in_ok-inside-in-Some.inside c.filled.result c.in-len1-up.len_at_least
    c.in-Some.ensures c.in_ok-inside-in-Some.ensures c.filled.ensures
