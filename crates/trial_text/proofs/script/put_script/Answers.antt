use Rattle.std.proofs.Common.{codes}
use Rattle.trial_text.specs.TrialText.{steps_text, trial_script}
use Rattle.trial_text.proofs.Pieces.{on-ok, two}
use Rattle.trial_text.proofs.script.put_script.Goals as goal

pub returns : goal.returns
unfolding trial_script
returns c =
    on-ok c.put_steps.result
    (two c.args.text.now.items (codes "schedule 1;\n") (steps_text c.args.steps) c.put.new.text.items c.put_steps.new.text.items c.in_ok-put.ensures)
    c.put_steps.ensures
