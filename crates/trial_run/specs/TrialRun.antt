-- What a trial comes to, from the last version of its source under its script, and the program of that version.
use Rattle.std.specs.Prelude.{◌≡◌, ℕ, ◌+◌, ◌%◌, ◌^◌, List, [], ◌∷◌, length, map, take, Option, Some, None, Result, Ok, Err}
use Rattle.text_tokens.specs.Kinds.{Text}
use Rattle.term_tree.specs.Modules.{Allowed, AreInputs, module_den}
use Rattle.term_tree.specs.Shaped.{flat}
use Rattle.term_tree.specs.Tensors.{Tensor}
use Rattle.term_tree.specs.declared.term.Module.{Module}
use Rattle.admission.specs.Admission.{broken}
use Rattle.source_grammar.specs.Source.{input_names, nodes, size_names}
use Rattle.loop_lang.specs.Actions.{program_acts}
use Rattle.loop_lang.specs.Run.{counts_of}
use Rattle.loop_lang.specs.declared.stmt.Prog.{Prog}
use Rattle.c_print.specs.Program.{canonical_text}
use Rattle.loop_run.specs.declared.given.Given.{Given}
use Rattle.loop_run.specs.declared.refusal.MakeRefusal.{MakeRefusal}
use Rattle.given_text.specs.Answer.{read_bytes}
use Rattle.given_text.specs.Given.{GivenText}
use Rattle.given_text.specs.declared.fault.GivenFault.{GivenFault}
use Rattle.given_text.specs.declared.fault.GivenFault.TheVariants as bad
use Rattle.program_run.specs.Ran.{IsRun, ran}
use Rattle.program_run.specs.declared.run.Ran.{Ran}
use Rattle.run_text.specs.Told.{fault_of}
use Rattle.run_text.specs.declared.fault.RunFault.{RunFault}
use Rattle.run_text.specs.declared.fault.RunFault.TheVariants as f
use Rattle.trial_text.specs.TrialText.{trial_given, trial_line}
use Rattle.version_run.specs.VersionRun.{IsVersionFault}

-- the sum of words
abbrev pub word_sum : List ℕ → ℕ
word_sum [] = 0
word_sum (w ∷ ws) = w + word_sum ws

-- the sum of the words of all outputs
abbrev pub output_sum : List (List ℕ) → ℕ
output_sum [] = 0
output_sum (ws ∷ wss) = word_sum ws + output_sum wss

-- the same, modulo 2^64
abbrev pub total : List (List ℕ) → ℕ
total outputs = output_sum outputs % 2 ^ 64

module _ (k : ℕ) (last : Module) (p : Prog) where
  -- the line of a trial of so many steps, where the outputs have these words and so many were stored
  abbrev pub line_of : List (List ℕ) → ℕ → Text
  line_of outputs stores = trial_line k (nodes last.outputs) (length (canonical_text p)) stores (total outputs)

  -- the line of what a run leaves, or its fault
  abbrev pub summed : Result Ran MakeRefusal → Result Text RunFault
  summed (Ok r) = Ok (line_of (take (length last.outputs) r.buffers.memory.outputs) r.stores)
  summed (Err e) = Err (fault_of e)

  -- a run on what is given, whose sizes break this constraint first, or none
  abbrev pub checked : Given → Option ℕ → Result Text RunFault
  checked g None = summed (ran p g)
  checked g (Some constraint) = Err (f.SizesNotAllowed constraint)

  -- a run on what was read
  abbrev pub trial_read : Result Given GivenFault → Result Text RunFault
  trial_read (Ok g) = checked g (broken last g.sizes)
  trial_read (Err (bad.BadData at)) = Err (f.BadData at)
  trial_read (Err bad.Memory) = Err f.Memory

  -- the line of the trial, or the first fault: of its given text, of its sizes, of the run
  unfoldable pub trial_run : Result Text RunFault
  trial_run = trial_read (read_bytes (size_names last.sizes) (input_names last.inputs) trial_given)

  -- the text is the line of what a run of the program on what is given leaves
  pub record IsSummedRun (g : Given) (text : Text) : Type 0 where
    pub left : Ran
    pub run : IsRun p g left
    pub tells : text ≡ line_of (take (length last.outputs) left.buffers.memory.outputs) left.stores

  -- The given text of the trial gives sizes that this module allows and the words of tensors of its extents. The sum is that of the words of what it denotes of
  -- them; the stores are those of the program at these sizes.
  pub record IsTrialOf (origin : Module) (text : Text) : Type 0 where
    pub gives : Given
    pub reads : GivenText (size_names origin.sizes) (input_names origin.inputs) trial_given gives
    pub allowed : Allowed origin gives.sizes
    pub inputs : List Tensor
    pub are : AreInputs origin.inputs gives.sizes inputs
    pub words : map flat inputs ≡ gives.inputs
    pub tells : text ≡ line_of (map flat (module_den origin gives.sizes inputs)) (counts_of (program_acts p gives.sizes)).stores

-- why a trial has no line
abbrev pub IsTrialFault : Module → Prog → RunFault → Type 0
IsTrialFault last p fault = IsVersionFault last p trial_given fault
