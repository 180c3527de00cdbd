-- Steps taken one after another, each told before the next.
use Rattle.std.proofs.Common.{◌≡◌, ℕ, ◌+◌, ◌<◌, List, ◌∷◌, ◌++◌, length, get_or, drop, ap, sym, ◌∙◌, append_assoc, None, Ok, Err}
use Rattle.std.proofs.lemmas.List.{append-nil, drop_more}
use Rattle.facts_run.specs.Claims.{claims_after, claims_from, step_claims}
use Rattle.facts_run.specs.Verdict.{IsStep, MayTell, Tells, refusal, staged_refusal}
use Rattle.facts_run.specs.declared.fault.FactsFault.{FactsFault}
use Rattle.facts_run.specs.declared.fault.FactsFault.TheVariants as fault
use Rattle.facts_run.proofs.BlockLaws.{blocks_on}
use Rattle.facts_run.proofs.StepLaws.{version_met}
use Rattle.facts_text.specs.Block.{blocks}
use Rattle.facts_text.specs.Form.{Text}
use Rattle.linear_cert.specs.declared.lines.FinalLine.{FinalLine}
use Rattle.path_focus.specs.declared.rule.RuleFault.TheVariants as broken
use Rattle.schedule_run.proofs.VersionLaws.{some_outputs}
use Rattle.schedule_run.specs.Verdict.{version_after}
use Rattle.schedule_run.specs.Versions.{IsVersion, after, last_from}
use Rattle.schedule_run.specs.declared.fault.StepKind.{StepKind}
use Rattle.schedule_run.specs.declared.fault.StepKind.TheVariants as kind
use Rattle.schedule_script.specs.declared.tree.Script.{Script}
use Rattle.schedule_script.specs.declared.tree.Step.{Step}
use Rattle.term_tree.specs.declared.term.Module.{Module}
use Rattle.term_tree.specs.declared.term.SizeDecl.{SizeDecl}

-- the steps from one on
pub steps_here : (ss : List Step) (i : ℕ) (s : Step) → i < length ss → s ≡ get_or ss i s → drop i ss ≡ s ∷ drop (i + 1) ss
steps_here ss i s lt is = drop_more ss i s lt ∙ ap (λ x. x ∷ drop (i + 1) ss) (sym is)

-- a step that makes a version, behind whose blocks those of the rest may come
told_on : (sizes : List SizeDecl) (i : ℕ) (m v : Module) (s : Step) (ss : List Step) (finals : List FinalLine) (old new : Text) → version_after m s ≡ Ok v
    → new ≡ old ++ blocks sizes (step_claims (i + 1) m s)
    → new ++ blocks sizes (claims_from (i + 1) v ss finals) ≡ old ++ blocks sizes (claims_from i m (s ∷ ss) finals)
told_on sizes i m v s ss finals old new h e =
    ap (λ t. t ++ blocks sizes (claims_from (i + 1) v ss finals)) e
    ∙ append_assoc old (blocks sizes (step_claims (i + 1) m s)) (blocks sizes (claims_from (i + 1) v ss finals))
    ∙ ap (λ t. old ++ t) (sym (blocks_on sizes (step_claims (i + 1) m s) (claims_from (i + 1) v ss finals) (version_met (i + 1) m s v h)))
    ∙ ap (λ r. old ++ blocks sizes (step_claims (i + 1) m s ++ claims_after r (λ v. claims_from (i + 1) v ss finals))) (sym h)

pub told_next : (sizes : List SizeDecl) (ss : List Step) (i : ℕ) (s : Step) (m v : Module) (finals : List FinalLine) (old new : Text) → i < length ss
    → s ≡ get_or ss i s → version_after m s ≡ Ok v → m.sizes ≡ sizes → new ≡ old ++ blocks m.sizes (step_claims (i + 1) m s)
    → new ++ blocks sizes (claims_from (i + 1) v (drop (i + 1) ss) finals) ≡ old ++ blocks sizes (claims_from i m (drop i ss) finals)
told_next sizes ss i s m v finals old new lt is h same e =
    told_on sizes i m v s (drop (i + 1) ss) finals old new h (e ∙ ap (λ (ds : List SizeDecl). old ++ blocks ds (step_claims (i + 1) m s)) same)
    ∙ ap (λ (xs : List Step). old ++ blocks sizes (claims_from i m xs finals)) (sym (steps_here ss i s lt is))

-- a step that makes none is the last that is told
pub told_last : (sizes : List SizeDecl) (ss : List Step) (i : ℕ) (s : Step) (m : Module) (k : StepKind) (finals : List FinalLine) (old new : Text)
    → i < length ss → s ≡ get_or ss i s → version_after m s ≡ Err k → m.sizes ≡ sizes → new ≡ old ++ blocks m.sizes (step_claims (i + 1) m s)
    → new ≡ old ++ blocks sizes (claims_from i m (drop i ss) finals)
told_last sizes ss i s m k finals old new lt is h same e =
    let rest : List Step = drop (i + 1) ss in
    e
    ∙ ap (λ (ds : List SizeDecl). old ++ blocks ds (step_claims (i + 1) m s)) same
    ∙ ap (λ cs. old ++ blocks sizes cs) (sym (append-nil (step_claims (i + 1) m s)))
    ∙ ap (λ r. old ++ blocks sizes (step_claims (i + 1) m s ++ claims_after r (λ v. claims_from (i + 1) v rest finals))) (sym h)
    ∙ ap (λ (xs : List Step). old ++ blocks sizes (claims_from i m xs finals)) (sym (steps_here ss i s lt is))

-- the verdict goes on with the version after the step
pub verdict_next : (ss : List Step) (i : ℕ) (s : Step) (m v : Module) → i < length ss → s ≡ get_or ss i s → version_after m s ≡ Ok v
    → last_from (i + 1) v (drop (i + 1) ss) ≡ last_from i m (drop i ss)
verdict_next ss i s m v lt is h =
    ap (λ r. after (i + 1) r (λ n. last_from (i + 1) n (drop (i + 1) ss))) (sym h)
    ∙ ap (λ (xs : List Step). last_from i m xs) (sym (steps_here ss i s lt is))

-- or ends with its fault
verdict_end : (ss : List Step) (i : ℕ) (s : Step) (m : Module) (k : StepKind) → i < length ss → s ≡ get_or ss i s → version_after m s ≡ Err k
    → last_from i m (drop i ss) ≡ Err (record { step = i + 1; kind = k })
verdict_end ss i s m k lt is h =
    ap (λ (xs : List Step). last_from i m xs) (steps_here ss i s lt is)
    ∙ ap (λ r. after (i + 1) r (λ n. last_from (i + 1) n (drop (i + 1) ss))) h

-- a condition that is not shown refuses nothing
pub verdict_unshown : (origin : Module) (script : Script) (i : ℕ) (s : Step) (m : Module) (n : ℕ) → i < length script.steps → s ≡ get_or script.steps i s
    → version_after m s ≡ Err (kind.Rule (broken.ConditionNotShown n)) → last_from i m (drop i script.steps) ≡ last_from 0 origin script.steps
    → refusal origin script ≡ None
verdict_unshown origin script i s m n lt is h e =
    ap (λ r. staged_refusal r script) (sym e ∙ verdict_end script.steps i s m (kind.Rule (broken.ConditionNotShown n)) lt is h)

-- the fault of a step is that of the script
pub verdict_refused : (origin : Module) (script : Script) (i : ℕ) (s : Step) (m : Module) (f : FactsFault) → i < length script.steps
    → s ≡ get_or script.steps i s → IsStep m s (i + 1) (Err f) → last_from i m (drop i script.steps) ≡ last_from 0 origin script.steps
    → Tells (refusal origin script) f
verdict_refused origin script i s m fault.Memory lt is h e = tt
verdict_refused origin script i s m (fault.Final f) lt is h e = absurd h
verdict_refused origin script i s m (fault.Step f) lt is h e =
    ap (λ r. staged_refusal r script) (sym e ∙ verdict_end script.steps i s m f.kind lt is h.1) ∙ h.2

-- a version may be told where its module may
pub version_tells : (m v : Module) → MayTell m → IsVersion m v → MayTell v
version_tells m v h k = record { runs = k.runs; some = some_outputs m v k h.some }

-- it has the sizes of its module
pub version_sizes : (m v : Module) → IsVersion m v → v.sizes ≡ m.sizes
version_sizes m v k = ap (λ (x : Module). x.sizes) k.others
