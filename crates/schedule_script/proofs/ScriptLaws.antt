-- Scripts are read as their grammar says.
use Rattle.std.proofs.Common.{◌≡◌, Bool, false, List, [], refl}
use Rattle.text_tokens.specs.declared.kind.Kind.{Kind}
use Rattle.text_tokens.specs.declared.kind.Kind.TheVariants as k
use Rattle.text_tokens.specs.Kinds.{same_kind}
use Rattle.linear_cert.specs.declared.lines.FinalLine.{FinalLine}
use Rattle.reader_laws.specs.Steps.{◌>>=◌, pure, no_value}
use Rattle.reader_laws.specs.Grammar.{IsNothing, Both}
use Rattle.reader_laws.proofs.Lawful.{Lawful, never, lawful_both, lawful_pure, lawful_word}
use Rattle.reader_laws.proofs.Repeated.{lawful_repeated}
use Rattle.reader_laws.proofs.Starts.{word_then}
use Rattle.schedule_script.specs.declared.tree.Step.{Step}
use Rattle.schedule_script.specs.declared.tree.Script.{Script}
use Rattle.schedule_script.specs.Words.{version_one, most_steps, most_items, with_last}
use Rattle.schedule_script.specs.Steps.{step, IsStep, final_line, IsFinalLine}
use Rattle.schedule_script.specs.Script.{header, IsHeader, steps, AreSteps, final_lines, AreFinalLines, script, IsScript}
use Rattle.schedule_script.proofs.Following.{goes_with, or_with, differs, first_false, second_false, both_false, frees_nothing, frees_repeated, frees_both}
use Rattle.schedule_script.proofs.StepLaws.{lawful_step, lawful_final_line}

lawful_header : Lawful header IsHeader never
unfolding header
lawful_header =
    word_then k.Schedule no_value _ _ never (λ (z : k.Schedule ≡ k.End). cc) (λ _.
    word_then k.Number version_one _ _ never (λ (z : k.Number ≡ k.End). cc) (λ _.
    lawful_word k.Semi no_value (λ (z : k.Semi ≡ k.End). cc)))

lawful_steps : Lawful steps AreSteps (goes_with k.At)
lawful_steps = lawful_repeated k.At with_last (λ _. step) (λ _. IsStep) never (goes_with k.At) (λ (z : k.At ≡ k.End). cc) refl (λ kd e. (e, refl))
    (λ _. lawful_step) most_steps []

lawful_final_lines : Lawful final_lines AreFinalLines (goes_with k.Goal)
lawful_final_lines = lawful_repeated k.Goal with_last (λ _. final_line) (λ _. IsFinalLine) never (goes_with k.Goal) (λ (z : k.Goal ≡ k.End). cc) refl
    (λ kd e. (e, refl)) (λ _. lawful_final_line) most_items []

abbrev pub script_goes_on : Kind → Bool
script_goes_on = or_with k.At (goes_with k.Goal)

pub ends : script_goes_on k.End ≡ false
ends = both_false _ _ (differs k.End k.At (λ (z : k.End ≡ k.At). cc)) (differs k.End k.Goal (λ (z : k.End ≡ k.Goal). cc))

pub lawful_script : Lawful script IsScript script_goes_on
unfolding script
lawful_script =
    let whole : List Step → List FinalLine → Script = λ ss fs. record { steps = ss; finals = fs; parallel = [] } in
    lawful_both header (λ _. steps >>= λ ss. (final_lines >>= λ fs. pure (whole ss fs))) IsHeader
    (λ _. Both AreSteps (λ ss. Both AreFinalLines (λ fs. IsNothing (whole ss fs)))) never script_goes_on lawful_header
    (λ _. lawful_both steps (λ ss. final_lines >>= λ fs. pure (whole ss fs)) AreSteps (λ ss. Both AreFinalLines (λ fs. IsNothing (whole ss fs)))
    (goes_with k.At) script_goes_on lawful_steps
    (λ ss. lawful_both final_lines (λ fs. pure (whole ss fs)) AreFinalLines (λ fs. IsNothing (whole ss fs))
    (goes_with k.Goal) script_goes_on lawful_final_lines (λ fs. lawful_pure (whole ss fs) script_goes_on)
    (frees_nothing (whole ss) (goes_with k.Goal) script_goes_on (λ kd e. second_false (same_kind kd k.At) (same_kind kd k.Goal) e)))
    (frees_both (λ ss. AreFinalLines) (λ ss fs. IsNothing (whole ss fs)) (goes_with k.At) (goes_with k.At) script_goes_on
    (frees_repeated k.Goal with_last (λ _. IsFinalLine) most_items (λ ss. []) (goes_with k.At) (differs k.Goal k.At (λ (z : k.Goal ≡ k.At). cc)))
    (λ ss. frees_nothing (whole ss) (goes_with k.At) script_goes_on (λ kd e. first_false (same_kind kd k.At) (same_kind kd k.Goal) e))))
    (λ _ ws y j is e. refl)
