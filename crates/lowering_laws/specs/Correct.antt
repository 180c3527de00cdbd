-- What is claimed of the loops.
use Rattle.std.specs.Prelude.{◌≡◌, ℕ, ◌≤◌, Bool, true, false, List, [], ◌∷◌, ◌++◌, map, pos, All}
use Rattle.term_tree.specs.declared.term.Module.{Module}
use Rattle.term_tree.specs.declared.term.OutputDecl.{OutputDecl}
use Rattle.term_tree.specs.declared.term.Path.{Path}
use Rattle.term_tree.specs.Meaning.{dims}
use Rattle.term_tree.specs.Modules.{Allowed, AreInputs, module_den}
use Rattle.term_tree.specs.Shaped.{flat, word_count}
use Rattle.term_tree.specs.Tensors.{Tensor}
use Rattle.linear_cert.specs.declared.lines.FinalLine.{FinalLine}
use Rattle.loop_lang.specs.declared.index.Iexp.{Iexp}
use Rattle.loop_lang.specs.Form.{IsWellFormed}
use Rattle.loop_lang.specs.Memory.{Memory, Ends}
use Rattle.loop_lang.specs.Reckoning.{Value, reckon}
use Rattle.loop_lang.specs.declared.stmt.Prog.{Prog}
use Rattle.loop_lang.specs.Run.{IsMemoryOf, run}
use Rattle.shape_rules.specs.Fits.{LiteralsFit, ShapesFit}
use Rattle.shape_rules.specs.Meant.{input_extents}
use Rattle.region_plan.specs.Need.{module_need}
use Rattle.final_rules.specs.Accepted.{IsLowerable}
use Rattle.final_rules.specs.Printed.{largest_index}
use Rattle.final_rules.specs.Rules.{any_let, output_place}
use Rattle.lowering_laws.specs.Owes.{Owes, Room}
use Rattle.lowering_laws.specs.Lowered.{program_of, scratch_many}
use Rattle.lowering_laws.specs.Nest.{module_nest, nests_of_program}

-- the loops of the program are the loops of the version, and no others
abbrev pub NestsAgree : Type 0
NestsAgree =
    (m : Module) (finals : List FinalLine) (marks : List Path) → IsLowerable m finals marks → nests_of_program (program_of m marks) ≡ module_nest m marks

-- what is owed to the loops of each output
abbrev pub OutputsOwe : Module → List ℕ → List OutputDecl → Type 0
OutputsOwe m s [] = Unit {0}
OutputsOwe m s (o ∷ os) = Owes s o.term (output_place m o) [] [] (input_extents m s) × OutputsOwe m s os

-- the words of the scratch region, where there is one
abbrev pub region_words : Module → List ℕ → Bool → ℕ
region_words m s true = module_need m s
region_words m s false = 0

-- the lets of each output have their words in it
abbrev pub OutputsRoom : Module → List ℕ → List OutputDecl → Type 0
OutputsRoom m s [] = Unit {0}
OutputsRoom m s (o ∷ os) =
    Room s (scratch_many (any_let m.outputs)) (region_words m s (any_let m.outputs)) o.term (input_extents m s) 0 × OutputsRoom m s os

-- the shape rules hold for the extents of each output
abbrev pub OutputsShapesFit : Module → List ℕ → List OutputDecl → Type 0
OutputsShapesFit m s [] = Unit {0}
OutputsShapesFit m s (o ∷ os) = ShapesFit o.term s (input_extents m s) × OutputsShapesFit m s os

-- what the loops of a module are owed at these sizes: bounds that its terms keep, room in the scratch region, and shapes
pub record IsOwed (m : Module) (s : List ℕ) : Type 0 where
  pub owes : OutputsOwe m s m.outputs
  pub room : OutputsRoom m s m.outputs
  pub shapes : OutputsShapesFit m s m.outputs

-- the loops of an accepted module are owed nothing that is not there, at all allowed sizes
abbrev pub AcceptedIsOwed : Type 0
AcceptedIsOwed = (m : Module) (finals : List FinalLine) (marks : List Path) → IsLowerable m finals marks → (s : List ℕ) → Allowed m s → IsOwed m s

-- a run ends, and leaves in the outputs the words of what the module denotes, and the inputs as they were
pub record Leaves (m : Module) (p : Prog) (s : List ℕ) (inputs : List Tensor) (memory : Memory) : Type 0 where
  pub after : Memory
  pub runs : run p s memory ≡ Ends after
  pub outputs : after.outputs ≡ map flat (module_den m s inputs)
  pub inputs_kept : after.inputs ≡ memory.inputs

-- at all allowed sizes, on inputs that are the words of tensors of the declared extents and whatever outputs and scratch hold, the run of the program ends, so
-- that it touched no index outside a buffer, and leaves exactly the words of what the module denotes
abbrev pub IsCorrect : Module → Prog → Type 0
IsCorrect m p =
    (s : List ℕ) → Allowed m s → (inputs : List Tensor) → AreInputs m.inputs s inputs → (memory : Memory) → IsMemoryOf p s memory
    → memory.inputs ≡ map flat inputs → Leaves m p s inputs memory

-- the loops of every module that may be lowered, each literal of which is a word, are right
abbrev pub LoopsAreRight : Type 0
LoopsAreRight =
    (m : Module) (finals : List FinalLine) (marks : List Path) → IsLowerable m finals marks → All (λ o. LiteralsFit o.term) m.outputs
    → IsCorrect m (program_of m marks)

-- what the scratch region has, if there is one
abbrev pub scratch_counts : Module → List ℕ → Bool → List ℕ
scratch_counts m s true = module_need m s ∷ []
scratch_counts m s false = []

-- the trees have these values at sizes, each at most 2^62
abbrev pub Computed : List ℕ → List Iexp → List ℕ → Type 0
Computed s [] [] = Unit {0}
Computed s [] (n ∷ ns) = ⊥
Computed s (x ∷ xs) [] = ⊥
Computed s (x ∷ xs) (n ∷ ns) = ((reckon x s [] ≡ Value (pos n)) × (n ≤ largest_index)) × Computed s xs ns

-- the numbers of words of the inputs, then of what the outputs denote, then of scratch
abbrev pub word_counts : Module → List ℕ → List ℕ
word_counts m s =
    map word_count (input_extents m s)
    ++ (map (λ o. word_count (dims o.term s (input_extents m s))) m.outputs ++ scratch_counts m s (any_let m.outputs))

-- at all allowed sizes each length is computed, and is that number of words, which is at most 2^62
abbrev pub HasLengths : Module → Prog → Type 0
HasLengths m p = (s : List ℕ) → Allowed m s → Computed s p.lengths (word_counts m s)

abbrev pub LengthsAreRight : Type 0
LengthsAreRight = (m : Module) (finals : List FinalLine) (marks : List Path) → IsLowerable m finals marks → HasLengths m (program_of m marks)

-- everything that the program of such a module names is there
abbrev pub AcceptedIsFormed : Type 0
AcceptedIsFormed = (m : Module) (finals : List FinalLine) (marks : List Path) → IsLowerable m finals marks → IsWellFormed (program_of m marks)
