use Rattle.std.proofs.Common.{◌≡◌, ◌∙◌, ◌++◌, ◌≤◌, ℕ, List, length, ap, subst, sym}
use Rattle.trial_text.specs.TrialText.{trial_given}
use Rattle.trial_text.proofs.Lengths.{given-length}
use Rattle.trial_text.proofs.given.trial_given.Goals as goal

pub returns-in-Ok-clause-short : goal.returns-in-Ok-clause-short
unfolding trial_given
returns-in-Ok-clause-short c =
    let is : c.put_given.new.text.items ≡ trial_given =
    c.in-Ok.ensures ∙ ap (λ (t : List ℕ). t ++ trial_given) c.new-text.ensures.items in
    subst (λ (t : List ℕ). length t ≤ 1048576) (sym is) given-length
