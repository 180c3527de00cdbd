-- From what a run of a trial says to what its line says.
use Rattle.std.proofs.Common.{◌≡◌, ◌∙◌, ℕ, List, [], Result, Ok, Err, length, map, take, refl, ap, sym, subst, arith}
use Rattle.std.specs.Prelude.{IfOk}
use Rattle.std.specs.declared.vec.Vec.{Vec}
use Rattle.std.proofs.lemmas.List.{length-map, take_all}
use Rattle.text_tokens.specs.Kinds.{Text}
use Rattle.term_tree.specs.Modules.{Allowed, inputs_bound, module_den}
use Rattle.term_tree.specs.Meaning.{den}
use Rattle.term_tree.specs.Shaped.{flat}
use Rattle.term_tree.specs.declared.term.Module.{Module}
use Rattle.term_tree.specs.declared.term.OutputDecl.{OutputDecl}
use Rattle.source_grammar.specs.Source.{input_names, output_names, size_names}
use Rattle.loop_lang.specs.Memory.{Memory, Ends}
use Rattle.loop_lang.specs.declared.stmt.Prog.{Prog}
use Rattle.loop_run.specs.declared.given.Given.{Given}
use Rattle.lowering_laws.specs.Correct.{HasLengths, IsCorrect}
use Rattle.given_text.specs.Answer.{read_bytes}
use Rattle.given_text.specs.Answer as answer
use Rattle.given_text.specs.Given.{GivenText}
use Rattle.given_text.specs.declared.fault.GivenFault.{GivenFault}
use Rattle.given_text.specs.declared.fault.GivenFault.TheVariants as bad
use Rattle.given_text.proofs.WholeLaws.{only}
use Rattle.program_run.specs.Ran.{IsRun}
use Rattle.run_text.specs.Outputs.{run_text}
use Rattle.run_text.specs.Told.{Answers, IsRunText}
use Rattle.run_text.specs.declared.fault.RunFault.{RunFault}
use Rattle.run_text.specs.declared.fault.RunFault.TheVariants as f
use Rattle.trial_text.specs.TrialText.{trial_given}
use Rattle.trial_run.specs.TrialRun.{IsSummedRun, IsTrialOf, checked, line_of, trial_read, trial_run}
use Rattle.admission.specs.Admission.{broken}
use Rattle.version_run.proofs.DenotedLaws.{denoted}

same_memory : (m n : Memory) → Ends m ≡ Ends n → m ≡ n
same_memory m n e = cc

abbrev given_so : Given → Result Given GivenFault
given_so g = Ok g

same_given : (g h : Given) → given_so g ≡ given_so h → g ≡ h
same_given g h e = cc

module _ (k : ℕ) (m : Module) (p : Prog) where
  pub answer-read : (A : Type 0) (g : Given) (r : Result (Vec ℕ A) RunFault)
      → answer.Answers (Ok g) (read_bytes (size_names m.sizes) (input_names m.inputs) trial_given)
      → Answers (checked k m p g (broken m g.sizes)) r → Answers (trial_run k m p) r
  unfolding trial_run
  answer-read A g r is h = subst (λ (x : Result Given GivenFault). Answers (trial_read k m p x) r) (sym is) h

  pub answer-unread : (A : Type 0) (at : ℕ) → answer.Answers (Err (bad.BadData at)) (read_bytes (size_names m.sizes) (input_names m.inputs) trial_given)
      → Answers {A = A} (trial_run k m p) (Err (f.BadData at))
  unfolding trial_run
  answer-unread A at is = ap (trial_read k m p) (is (λ (q : bad.BadData at ≡ bad.Memory). cc))

  trial-of : (g : Given) (text : Text) → HasLengths m p → IsCorrect m p → p.inputs ≡ length m.inputs
      → answer.Answers (Ok g) (read_bytes (size_names m.sizes) (input_names m.inputs) trial_given)
      → GivenText (size_names m.sizes) (input_names m.inputs) trial_given g → Allowed m g.sizes → IsSummedRun k m p g text → IsTrialOf k m p m text
  trial-of g text lengths correct many exact reads allowed summed =
      let left = summed.left in
      let names = output_names m.outputs in
      let told : IsRunText p g names (run_text names left.buffers.memory.outputs left.stores) = record { left = left; run = summed.run; tells = refl } in
      let d = denoted m p trial_given g (run_text names left.buffers.memory.outputs left.stores) lengths correct many reads allowed told in
      let same = same_given d.gives g (only (size_names m.sizes) (input_names m.inputs) trial_given (Ok g) d.gives exact d.reads) in
      let run = subst (λ (x : Given). IsRun p x left) (sym same) summed.run in
      let leaves = correct d.gives.sizes d.allowed d.inputs d.are run.start run.fits (run.given ∙ sym d.words) in
      let end : left.buffers.memory ≡ leaves.after = same_memory left.buffers.memory leaves.after (sym run.ends ∙ leaves.runs) in
      let words = map flat (module_den m d.gives.sizes d.inputs) in
      let outputs : left.buffers.memory.outputs ≡ words = ap (λ (n : Memory). n.outputs) end ∙ leaves.outputs in
      let few : length words ≡ length m.outputs =
      length-map (module_den m d.gives.sizes d.inputs) flat
      ∙ length-map m.outputs (λ (o : OutputDecl). den o.term d.gives.sizes [] (inputs_bound m.inputs d.gives.sizes d.inputs)) in
      let all : take (length m.outputs) left.buffers.memory.outputs ≡ words =
      ap (λ (x : List (List ℕ)). take (length m.outputs) x) outputs ∙ take_all (length m.outputs) words (omega (arith, few)) in
      record {
        gives = d.gives;
        reads = d.reads;
        allowed = d.allowed;
        inputs = d.inputs;
        are = d.are;
        words = d.words;
        tells = summed.tells ∙ (λ i. line_of k m p (all i) (run.stores i));
      }

  pub denoted-line : (A : Type 0) (g : Given) (r : Result (Vec ℕ A) RunFault) → HasLengths m p → IsCorrect m p → p.inputs ≡ length m.inputs
      → answer.Answers (Ok g) (read_bytes (size_names m.sizes) (input_names m.inputs) trial_given)
      → GivenText (size_names m.sizes) (input_names m.inputs) trial_given g → IfOk r (λ _. Allowed m g.sizes)
      → IfOk r (λ text. IsSummedRun k m p g text.items) → IfOk r (λ line. IsTrialOf k m p m line.items)
  denoted-line A g (Ok text) lengths correct many exact reads allowed summed = trial-of g text.items lengths correct many exact reads allowed summed
  denoted-line A g (Err e) lengths correct many exact reads allowed summed = tt
