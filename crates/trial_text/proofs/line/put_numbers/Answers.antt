use Rattle.std.proofs.Common.{codes}
use Rattle.trial_text.specs.TrialText.{named_number, trial_line}
use Rattle.trial_text.proofs.Pieces.{on-ok, seven}
use Rattle.trial_text.proofs.line.put_numbers.Goals as goal

pub returns : goal.returns
unfolding trial_line
returns c =
    let a = c.args in
    on-ok c.put.result
    (seven a.text.now.items (named_number (codes "trial ") a.steps) (named_number (codes " nodes ") a.nodes) (named_number (codes " steps ") a.steps)
    (named_number (codes " bytes ") a.bytes) (named_number (codes " stores ") a.stores) (named_number (codes " sum ") a.total) (codes "\n")
    c.put_named.new.text.items c.put_named-2.new.text.items c.put_named-3.new.text.items c.put_named-4.new.text.items c.put_named-5.new.text.items
    c.put_named-6.new.text.items c.put.new.text.items c.in_ok-put_named.ensures c.in_ok-put_named-2.ensures c.in_ok-put_named-3.ensures
    c.in_ok-put_named-4.ensures c.in_ok-put_named-5.ensures c.in_ok-put_named-6.ensures)
    c.put.ensures
