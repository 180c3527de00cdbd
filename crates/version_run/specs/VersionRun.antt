-- What running the loops of a module comes to.
use Rattle.std.specs.Prelude.{◌≡◌, ℕ, ◌<◌, ◌^◌, List, [], ◌∷◌, map, Result}
use Rattle.text_tokens.specs.Kinds.{Text}
use Rattle.term_tree.specs.Modules.{Allowed, AreInputs, module_den}
use Rattle.term_tree.specs.Shaped.{flat}
use Rattle.term_tree.specs.Tensors.{Tensor}
use Rattle.term_tree.specs.declared.term.Module.{Module}
use Rattle.term_tree.specs.declared.term.SizeDecl.{SizeDecl}
use Rattle.admission.specs.Admission.{broken}
use Rattle.source_grammar.specs.Source.{input_names, output_names, size_names}
use Rattle.loop_lang.specs.Actions.{program_acts}
use Rattle.loop_lang.specs.Run.{counts_of}
use Rattle.loop_lang.specs.declared.stmt.Prog.{Prog}
use Rattle.loop_run.specs.declared.given.Given.{Given}
use Rattle.given_text.specs.Given.{GivenText}
use Rattle.run_text.specs.GivenRun.{IsRunFault, Names, given_run}
use Rattle.run_text.specs.Outputs.{run_text}
use Rattle.run_text.specs.declared.fault.RunFault.{RunFault}

-- the names of a module
abbrev pub names_of : Module → Names
names_of m = record { sizes = size_names m.sizes; inputs = input_names m.inputs; outputs = output_names m.outputs }

-- no size may reach 2^63
abbrev pub AreBounded : List SizeDecl → Type 0
AreBounded [] = Unit {0}
AreBounded (d ∷ ds) = (d.high < 2 ^ 63) × AreBounded ds

module _ (m : Module) (p : Prog) where
  -- the program of the module on a given text
  abbrev pub version_run : Text → Result Text RunFault
  version_run = given_run (names_of m) (broken m) p

  -- why it has no text
  abbrev pub IsVersionFault : Text → RunFault → Type 0
  IsVersionFault = IsRunFault (names_of m) (broken m) p

  -- The given text gives allowed sizes and the words of tensors of the declared extents. Each line tells the words of what the module denotes of them; the
  -- stores are those of the program at these sizes.
  pub record IsDenoted (z text : Text) : Type 0 where
    pub gives : Given
    pub reads : GivenText (size_names m.sizes) (input_names m.inputs) z gives
    pub allowed : Allowed m gives.sizes
    pub inputs : List Tensor
    pub are : AreInputs m.inputs gives.sizes inputs
    pub words : map flat inputs ≡ gives.inputs
    pub tells : text ≡ run_text (output_names m.outputs) (map flat (module_den m gives.sizes inputs)) (counts_of (program_acts p gives.sizes)).stores
