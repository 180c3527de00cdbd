use Rattle.std.proofs.Common.{◌≡◌, ◌∙◌, ◌++◌, ◌≤◌, ℕ, List, length, ap, subst, sym}
use Rattle.trial_text.specs.TrialText.{trial_script}
use Rattle.trial_text.proofs.Lengths.{script-length}
use Rattle.trial_text.proofs.script.trial_script.Goals as goal

pub returns-in-Ok-clause-short : goal.returns-in-Ok-clause-short
returns-in-Ok-clause-short c = λ few.
    let is : c.put_script.new.text.items ≡ trial_script c.args.steps =
    c.in-Ok.ensures ∙ ap (λ (t : List ℕ). t ++ trial_script c.args.steps) c.new-text.ensures.items in
    subst (λ (t : List ℕ). length t ≤ 1048576) (sym is) (script-length c.args.steps few)
