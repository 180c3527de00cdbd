use Rattle.std.proofs.Common.{◌∙◌, ◌++◌, ℕ, add-one, ap, sym}
use Rattle.trial_text.specs.TrialText.{let_text, lets_text}
use Rattle.trial_text.proofs.Pieces.{two}
use Rattle.trial_text.proofs.source.put_lets.Goals as goal

pub loop-number-preserved : goal.loop-number-preserved
loop-number-preserved c =
    let n = c.loop-number.number in
    two c.args.text.now.items (lets_text n) (let_text n) c.loop-number.text.items c.put_let.new.text.items c.loop-number.invariant c.in_ok-put_let.ensures
    ∙ ap (λ (k : ℕ). c.args.text.now.items ++ lets_text k) (sym (add-one n))
