use Rattle.std.proofs.Common.{◌≡◌, ◌∙◌, ◌++◌, ◌≤◌, ℕ, List, length, ap, subst, sym}
use Rattle.trial_text.specs.TrialText.{trial_source}
use Rattle.trial_text.proofs.Lengths.{source-length}
use Rattle.trial_text.proofs.source.trial_source.Goals as goal

pub returns-in-Ok-clause-short : goal.returns-in-Ok-clause-short
returns-in-Ok-clause-short c = λ few.
    let is : c.put_source.new.text.items ≡ trial_source c.args.steps =
    c.in-Ok.ensures ∙ ap (λ (t : List ℕ). t ++ trial_source c.args.steps) c.new-text.ensures.items in
    subst (λ (t : List ℕ). length t ≤ 1048576) (sym is) (source-length c.args.steps few)
