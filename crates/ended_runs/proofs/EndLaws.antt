-- The run of a program that is right for a module ends, or has too many steps.
use Rattle.std.proofs.Common.{◌≡◌, ◌∙◌, ℕ, ◌+◌, ◌^◌, Bool, true, false, nat_eq, nat_lt, if◌then◌else◌, List, [], ◌∷◌, length, map, Option, Some, None}
use Rattle.std.proofs.Common.{Result, Ok, Err, refl, ap, sym, subst}
use Rattle.std.proofs.lemmas.List.{length-map}
use Rattle.text_tokens.specs.Kinds.{Text}
use Rattle.term_tree.specs.Modules.{Allowed}
use Rattle.term_tree.specs.declared.term.Module.{Module}
use Rattle.term_tree.specs.declared.term.SizeDecl.{SizeDecl}
use Rattle.shape_rules.specs.Meant.{input_extents}
use Rattle.term_tree.specs.Shaped.{word_count}
use Rattle.source_grammar.specs.Source.{input_names, size_names}
use Rattle.loop_lang.specs.Actions.{Action, program_acts}
use Rattle.loop_lang.specs.Form.{IsWellFormed}
use Rattle.loop_lang.specs.Memory.{Memory, Outcome, Ends, Stuck, apply}
use Rattle.loop_lang.specs.Reckoning.{Reckoned, reckon}
use Rattle.loop_lang.specs.Run.{IsMemoryOf, counts_of}
use Rattle.loop_lang.specs.declared.index.Iexp.{Iexp}
use Rattle.loop_lang.specs.declared.stmt.Prog.{Prog}
use Rattle.loop_run.specs.Buffers.{Held}
use Rattle.loop_run.specs.Exact.{taken}
use Rattle.loop_run.specs.Made.{held_at, length_told, lengths_told, made, made_at, then_told, total_from, unless, wrong_count}
use Rattle.loop_run.specs.declared.given.Given.{Given}
use Rattle.loop_run.specs.declared.refusal.MakeRefusal.{MakeRefusal}
use Rattle.loop_run.specs.declared.refusal.MakeRefusal.TheVariants as refusal
use Rattle.loop_run.specs.declared.refusal.Stuck as why
use Rattle.loop_run.specs.declared.refusal.Stuck.TheVariants as stuck
use Rattle.loop_run.proofs.MemoryLaws.{made-memory}
use Rattle.lowering_laws.specs.Correct.{Computed, HasLengths, IsCorrect, word_counts}
use Rattle.given_text.specs.Given.{GivenText}
use Rattle.program_run.specs.Ran.{ended, most_steps, ran, ran_from}
use Rattle.program_run.specs.declared.run.Ran.{Ran}
use Rattle.run_text.specs.Told.{fault_of}
use Rattle.run_text.specs.declared.fault.RunFault.{RunFault}
use Rattle.run_text.specs.declared.fault.RunFault.TheVariants as f
use Rattle.run_text.proofs.GivenLengths.{given-inputs, given-sizes}
use Rattle.version_run.proofs.WordLaws.{given-words}
use Rattle.term_tree.specs.declared.term.InputDecl.{InputDecl}
use Rattle.ended_runs.specs.Ended.{IsOfWork, RunsEnd}
use Rattle.ended_runs.proofs.AllowedLaws.{sizes_allowed}
use Rattle.ended_runs.proofs.InputLaws.{are-inputs, inputs-counted, tensors-of, their-words}

-- ---- a run that ends is stopped by its steps alone

abbrev stopped : why.Stuck → Result Ran MakeRefusal
stopped k = Err (refusal.Stuck k)

same_stop : (k l : why.Stuck) → stopped k ≡ stopped l → k ≡ l
same_stop k l e = cc

of-work : (held : Held) (stores : ℕ) (b : Bool) (o : Outcome) (after : Memory) (steps : ℕ) (k : why.Stuck) → o ≡ Ends after
    → (if b then stopped (stuck.TooMuchWork steps) else ended held stores o) ≡ stopped k → IsOfWork k
of-work held stores true o after steps k ends h = subst IsOfWork (same_stop (stuck.TooMuchWork steps) k h) tt
of-work held stores false (Ends n) after steps k ends h = absurd cc
of-work held stores false (Stuck cause) after steps k ends h = absurd cc

from-work : (xs : List Action) (held : Held) (after : Memory) (k : why.Stuck) → apply xs held.memory ≡ Ends after → ran_from xs held ≡ stopped k → IsOfWork k
from-work xs held after k ends h =
    of-work held (counts_of xs).stores (nat_lt most_steps (counts_of (taken xs held.memory)).steps) (apply xs held.memory) after (most_steps + 1) k ends h

-- ---- each length is computed

abbrev found : List ℕ → Result (List ℕ) MakeRefusal
found ns = Ok ns

lengths-found : (s : List ℕ) (xs : List Iexp) (ns : List ℕ) → Computed s xs ns → lengths_told (λ x. reckon x s []) xs ≡ found ns
lengths-found s [] [] h = refl
lengths-found s [] (n ∷ ns) h = absurd h
lengths-found s (x ∷ xs) [] h = absurd h
lengths-found s (x ∷ xs) (n ∷ ns) h =
    let rest = lengths-found s xs ns h.1 in
    ap (λ (v : Reckoned). then_told (length_told v) (λ k. then_told (lengths_told (λ y. reckon y s []) xs) (λ ks. Ok (k ∷ ks)))) h.0.0
    ∙ ap (λ (r : Result (List ℕ) MakeRefusal). then_told r (λ ks. found (n ∷ ks))) rest

-- ---- inputs of a wrong count are no stuck run

wrong-step : (b : Bool) (e : MakeRefusal) (o : Option MakeRefusal) (k : why.Stuck) → ((o ≡ Some (refusal.Stuck k)) → ⊥) → (e ≡ refusal.Stuck k → ⊥)
    → (if b then o else Some e) ≡ Some (refusal.Stuck k) → ⊥
wrong-step true e o k rest here h = rest h
wrong-step false e o k rest here h = here cc

wrong-only : (j : ℕ) (ns : List ℕ) (wss : List (List ℕ)) (k : why.Stuck) → wrong_count j ns wss ≡ Some (refusal.Stuck k) → ⊥
wrong-only j [] wss k h = absurd cc
wrong-only j (n ∷ ns) [] k h = absurd cc
wrong-only j (n ∷ ns) (ws ∷ wss) k h =
    wrong-step (nat_eq (length ws) n) (refusal.WrongCount j n (length ws)) (wrong_count (j + 1) ns wss) k (wrong-only (j + 1) ns wss k)
    (λ (e : refusal.WrongCount j n (length ws) ≡ refusal.Stuck k). absurd cc) h

-- ---- the buffers

abbrev buffers : Held → Result Held MakeRefusal
buffers h = Ok h

abbrev none_made : MakeRefusal → Result Held MakeRefusal
none_made e = Err e

module _ (m : Module) (p : Prog) (formed : IsWellFormed p) (many : p.inputs ≡ length m.inputs) (lengths : HasLengths m p) (correct : IsCorrect m p) (z : Text)
    (g : Given) (reads : GivenText (size_names m.sizes) (input_names m.inputs) z g) (allowed : Allowed m g.sizes) where
  abbrev counts : List ℕ
  counts = word_counts m g.sizes

  made-is : made p g ≡ made_at p g counts
  unfolding made
  made-is = ap (λ (r : Result (List ℕ) MakeRefusal). then_told r (made_at p g)) (lengths-found g.sizes p.lengths counts (lengths g.sizes allowed))

  given-many : length g.inputs ≡ p.inputs
  given-many =
      given-inputs (size_names m.sizes) (input_names m.inputs) z g reads ∙ length-map m.inputs (λ (d : InputDecl). d.name) ∙ sym many

  -- the run on buffers that are made ends
  ends-on : (held : Held) → held ≡ held_at p g counts → buffers held ≡ made p g → (k : why.Stuck)
      → ran_from (program_acts p g.sizes) (held_at p g counts) ≡ stopped k → IsOfWork k
  ends-on held same is k h =
      let start = held_at p g counts in
      let made_so : buffers start ≡ made p g = ap buffers (sym same) ∙ is in
      let fits : IsMemoryOf p g.sizes start.memory = made-memory p g formed.many given-many (Ok start) made_so in
      let counted : map length g.inputs ≡ map word_count (input_extents m g.sizes) = inputs-counted m p g.sizes start.memory lengths allowed fits many in
      let are = are-inputs m.inputs g.sizes g.inputs counted (given-words (size_names m.sizes) (input_names m.inputs) z g reads) in
      let words = their-words m.inputs g.sizes g.inputs counted in
      let leaves = correct g.sizes allowed (tensors-of m.inputs g.sizes g.inputs) are start.memory fits (sym words) in
      from-work (program_acts p g.sizes) start leaves.after k leaves.runs h

  by-count : (o : Option MakeRefusal) (k : why.Stuck) → wrong_count 0 counts g.inputs ≡ o → made p g ≡ unless o (held_at p g counts)
      → then_told (unless o (held_at p g counts)) (λ held. ran_from (program_acts p held.sizes) held) ≡ stopped k → IsOfWork k
  by-count None k e is h = ends-on (held_at p g counts) refl (sym is) k h
  by-count (Some fault) k e is h =
      let same : fault ≡ refusal.Stuck k = cc in
      absurd (wrong-only 0 counts g.inputs k (e ∙ ap (λ (x : MakeRefusal). Some x) same))

  -- too many words or not
  abbrev made_by : Bool → Result Held MakeRefusal
  made_by b = if b then none_made (refusal.TooBigToRun (total_from 0 counts)) else unless (wrong_count 0 counts g.inputs) (held_at p g counts)

  by-total : (b : Bool) (k : why.Stuck) → made p g ≡ made_by b → then_told (made_by b) (λ held. ran_from (program_acts p held.sizes) held) ≡ stopped k
      → IsOfWork k
  by-total true k is h = absurd cc
  by-total false k is h = by-count (wrong_count 0 counts g.inputs) k refl is h

  ran-work : (k : why.Stuck) → ran p g ≡ stopped k → IsOfWork k
  unfolding ran
  ran-work k h =
      by-total (nat_lt (2 ^ 24) (total_from 0 counts)) k made-is
      (sym (ap (λ (r : Result Held MakeRefusal). then_told r (λ held. ran_from (program_acts p held.sizes) held)) made-is) ∙ h)

-- ---- a run on a given text

abbrev stuck_run : why.Stuck → RunFault
stuck_run k = f.Stuck k

by-refusal : (p : Prog) (g : Given) (k : why.Stuck) (e : MakeRefusal) → ran p g ≡ Err e → stuck_run k ≡ fault_of e → ran p g ≡ stopped k
by-refusal p g k (refusal.Stuck l) is same =
    let other : l ≡ k = cc in
    is ∙ ap stopped other
by-refusal p g k (refusal.TooBigToRun words) is same = absurd cc
by-refusal p g k (refusal.WrongCount i n c) is same = absurd cc
by-refusal p g k refusal.Memory is same = absurd cc

pub runs-end : RunsEnd
runs-end m p formed many lengths correct z k fault =
    let s = fault.gives.sizes in
    let as_many : length s ≡ length m.sizes =
    given-sizes (size_names m.sizes) (input_names m.inputs) z fault.gives fault.reads ∙ length-map m.sizes (λ (d : SizeDecl). d.name) in
    let allowed = sizes_allowed m s as_many fault.sizes in
    ran-work m p formed many lengths correct z fault.gives fault.reads allowed k (by-refusal p fault.gives k fault.refusal fault.comes fault.same)
