use Rattle.std.proofs.Common.{codes}
use Rattle.trial_text.specs.TrialText.{tensor_name}
use Rattle.trial_text.proofs.Pieces.{five, on-ok}
use Rattle.trial_text.proofs.source.put_squares.Goals as goal

pub returns : goal.returns
returns c =
    let name = tensor_name c.args.number in
    on-ok c.put-3.result
    (five c.args.text.now.items (codes "  gen i < N. ") name (codes "[i] * ") name (codes "[i];\n") c.put.new.text.items c.put_name.new.text.items
    c.put-2.new.text.items c.put_name-2.new.text.items c.put-3.new.text.items c.in_ok-put.ensures c.in_ok-put_name.ensures c.in_ok-put-2.ensures
    c.in_ok-put_name-2.ensures)
    c.put-3.ensures
