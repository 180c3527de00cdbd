use Rattle.trial_text.specs.TrialText.{lets_text, source_head, squares_text, trial_source}
use Rattle.trial_text.proofs.Pieces.{on-ok, three}
use Rattle.trial_text.proofs.source.put_source.Goals as goal

pub returns : goal.returns
unfolding trial_source
returns c =
    let n = c.args.steps in
    on-ok c.put_squares.result
    (three c.args.text.now.items source_head (lets_text n) (squares_text n) c.put.new.text.items c.put_lets.new.text.items c.put_squares.new.text.items
    c.in_ok-put.ensures c.in_ok-put_lets.ensures)
    c.put_squares.ensures
