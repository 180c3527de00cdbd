-- What the plain evaluator makes of a module on a given text.
use Rattle.std.specs.Prelude.{◌≡◌, ℕ, ◌+◌, ◌^◌, ◌<◌, nat_lt, List, map, Option, Some, None, Result, Ok, Err, if◌then◌else◌, ⊤}
use Rattle.std.specs.declared.vec.Vec.{Vec}
use Rattle.text_tokens.specs.Kinds.{Text}
use Rattle.term_tree.specs.Modules.{Allowed, AreInputs, module_den}
use Rattle.term_tree.specs.Shaped.{flat, word_count}
use Rattle.term_tree.specs.Tensors.{Tensor}
use Rattle.term_tree.specs.declared.term.Module.{Module}
use Rattle.shape_rules.specs.Meant.{input_extents}
use Rattle.admission.specs.Admission.{broken}
use Rattle.source_grammar.specs.Source.{input_names, output_names, size_names}
use Rattle.loop_run.specs.declared.given.Given.{Given}
use Rattle.given_text.specs.Answer.{IsRefusedText, read_bytes}
use Rattle.given_text.specs.Given.{GivenText}
use Rattle.given_text.specs.declared.fault.GivenFault.{GivenFault}
use Rattle.given_text.specs.declared.fault.GivenFault.TheVariants as bad
use Rattle.run_text.specs.Outputs.{output_lines}
use Rattle.atl_meaning.specs.Turns.{module_turns}
use Rattle.atl_meaning.specs.Words.{module_big}
use Rattle.plain_run.specs.Shapes.{tensors_of, wrong_count}
use Rattle.plain_run.specs.declared.fault.PlainFault.{PlainFault}
use Rattle.plain_run.specs.declared.fault.PlainFault.TheVariants as f

-- the most turns of gen and sum
abbrev pub most_turns : ℕ
most_turns = 2 ^ 27

-- this, where nothing is too big
abbrev pub unless_big : Option ℕ → Result Text PlainFault → Result Text PlainFault
unless_big None due = due
unless_big (Some words) due = Err (f.TooBigToRun words)

-- this, where no input has a wrong number of words
abbrev pub unless_wrong : Option PlainFault → Result Text PlainFault → Result Text PlainFault
unless_wrong None due = due
unless_wrong (Some fault) due = Err fault

module _ (m : Module) where
  -- the lines of the outputs, with the words of what they denote of these tensors
  abbrev pub plain_text : List ℕ → List Tensor → Text
  plain_text s inputs = output_lines (output_names m.outputs) (map flat (module_den m s inputs))

  -- the same, where the turns are within the limit
  abbrev pub within_turns : List ℕ → List Tensor → Result Text PlainFault
  within_turns s inputs = if nat_lt most_turns (module_turns m s) then Err (f.TooMuchWork (most_turns + 1)) else Ok (plain_text s inputs)

  -- the first input with another number of words than its extents say
  abbrev pub wrong_input : Given → Option PlainFault
  wrong_input g = wrong_count 0 (map word_count (input_extents m g.sizes)) g.inputs

  -- on allowed sizes: something is too big, an input has a wrong number of words, the work is too much, in this order
  abbrev pub plain_at : Given → Result Text PlainFault
  plain_at g = unless_big (module_big m g.sizes) (unless_wrong (wrong_input g) (within_turns g.sizes (tensors_of (input_extents m g.sizes) g.inputs)))

  -- on sizes that break this constraint first, or none
  abbrev pub plain_checked : Given → Option ℕ → Result Text PlainFault
  plain_checked g None = plain_at g
  plain_checked g (Some constraint) = Err (f.SizesNotAllowed constraint)

  -- on what was read
  abbrev pub plain_read : Result Given GivenFault → Result Text PlainFault
  plain_read (Ok g) = plain_checked g (broken m g.sizes)
  plain_read (Err (bad.BadData at)) = Err (f.BadData at)
  plain_read (Err bad.Memory) = Err f.Memory

  -- the lines of the outputs on a given text, or the first fault: of the given text, of its sizes, of the work
  unfoldable pub plain_run : Text → Result Text PlainFault
  plain_run z = plain_read (read_bytes (size_names m.sizes) (input_names m.inputs) z)

  -- The given text gives allowed sizes and the words of tensors of the declared extents. Each line tells the words of what the module denotes of them.
  pub record IsPlainDenoted (z text : Text) : Type 0 where
    pub gives : Given
    pub reads : GivenText (size_names m.sizes) (input_names m.inputs) z gives
    pub allowed : Allowed m gives.sizes
    pub inputs : List Tensor
    pub are : AreInputs m.inputs gives.sizes inputs
    pub words : map flat inputs ≡ gives.inputs
    pub tells : text ≡ plain_text gives.sizes inputs

  -- the given text gives something of which this holds
  pub record IsGivenSo (P : Given → Type 0) (z : Text) : Type 0 where
    pub gives : Given
    pub reads : GivenText (size_names m.sizes) (input_names m.inputs) z gives
    pub cause : P gives

  -- what is given breaks no constraint
  abbrev pub IsKept : Given → Type 0
  IsKept g = broken m g.sizes ≡ None

  -- nothing is too big for what is given either
  abbrev pub IsSmall : Given → Type 0
  IsSmall g = IsKept g × (module_big m g.sizes ≡ None)

  -- why nothing is told on the given text; want of memory says nothing
  abbrev pub IsPlainFault : Text → PlainFault → Type 0
  IsPlainFault z (f.BadData at) = IsRefusedText (size_names m.sizes) (input_names m.inputs) z (bad.BadData at)
  IsPlainFault z (f.SizesNotAllowed constraint) = IsGivenSo (λ g. broken m g.sizes ≡ Some constraint) z
  IsPlainFault z (f.TooBigToRun words) = IsGivenSo (λ g. IsKept g × (module_big m g.sizes ≡ Some words)) z
  IsPlainFault z (f.WrongCount input want got) = IsGivenSo (λ g. IsSmall g × (wrong_input g ≡ Some (f.WrongCount input want got))) z
  IsPlainFault z (f.TooMuchWork steps) =
      IsGivenSo (λ g. IsSmall g × (wrong_input g ≡ None) × (most_turns < module_turns m g.sizes) × (steps ≡ most_turns + 1)) z
  IsPlainFault z f.Memory = ⊤

module _ {A : Type 0} where
  -- the answer is this one, but for want of memory
  abbrev pub Answers : Result Text PlainFault → Result (Vec ℕ A) PlainFault → Type 0
  Answers due (Ok text) = due ≡ Ok text.items
  Answers due (Err f.Memory) = ⊤
  Answers due (Err fault) = due ≡ Err fault
