use Rattle.std.proofs.Common.{◌∷◌, ◌++◌, ◌∙◌, [], ℕ, ap, codes}
use Rattle.text_tokens.specs.Kinds.{Text}
use Rattle.given_text.specs.Line.{output_line}
use Rattle.trial_text.specs.TrialText.{given_from, stepped_on, words_from}
use Rattle.trial_text.proofs.Pieces.{on-ok, three}
use Rattle.trial_text.proofs.given.put_given.Goals as goal

pub returns : goal.returns
unfolding given_from
returns c =
    let x = c.args.state in
    let n = c.args.first in
    let m = c.args.second in
    let last : ℕ → Text = λ y. output_line (codes "W") (words_from y m) in
    on-ok c.put_input-2.result
    (λ w. three c.args.text.now.items (output_line (codes "N") (c.args.size ∷ [])) (output_line (codes "A") (words_from x n)) (last (stepped_on x n))
    c.put_line.new.text.items c.put_input.new.text.items c.put_input-2.new.text.items c.in_ok-put_line.ensures c.in_ok-put_input.ensures.line
    (w ∙ ap (λ (y : ℕ). c.put_input.new.text.items ++ last y) c.in_ok-put_input.ensures.state))
    c.put_input-2.ensures.line
