-- Shapes are those of the meaning.
use Rattle.std.specs.Prelude.{◌≡◌, ℕ, List, [], map, Ok, All}
use Rattle.term_tree.specs.declared.term.Module.{Module}
use Rattle.term_tree.specs.declared.term.Term.{Term}
use Rattle.term_tree.specs.Goals.{term_goals}
use Rattle.term_tree.specs.Meaning.{Bound, den, dims, extents_of}
use Rattle.term_tree.specs.Modules.{Allowed, AreInputs, IsSound, extents_at, input_shapes, inputs_bound}
use Rattle.term_tree.specs.Shape.{Extents, shape_of}
use Rattle.term_tree.specs.Shaped.{HasShape}
use Rattle.term_tree.specs.Tensors.{Tensor}
use Rattle.shape_rules.specs.Fits.{AllShaped}
use Rattle.shape_rules.specs.Parts.{EachPart}
use Rattle.shape_rules.specs.Values.{AllHaveValues, HaveValues, NoneNegative}

-- at sizes s, where the shapes of the tensor variables have values, these extents have as values the extents of the term,
-- none of them negative, and its tensor has exactly those
abbrev pub MeantAt : List ℕ → List Extents → Term → Extents → Type 0
MeantAt s ts e ns =
    (ds : List (List ℕ)) → AllHaveValues s ts ds
    → HaveValues s ns (dims e s ds) × ((r : List ℕ) (t : List Bound) → extents_of t ≡ ds → AllShaped t → HasShape (dims e s ds) (den e s r t))

-- so at all sizes at which no number that a goal of the term names is negative
abbrev pub IsMeant : List Extents → Term → Extents → Type 0
IsMeant ts e ns = (s : List ℕ) → NoneNegative s (term_goals e ts) → MeantAt s ts e ns

-- the term has a shape, which is that of its meaning
abbrev pub HasMeaning : List ℕ → Term → List Extents → Type 0
HasMeaning s e ts = (ns : Extents) × (shape_of e ts ≡ Ok ns) × MeantAt s ts e ns

-- where no goal is negative at allowed sizes, the module is sound
abbrev pub SoundByGoals : Module → Extents → Type 0
SoundByGoals m goals = ((s : List ℕ) → Allowed m s → NoneNegative s goals) → IsSound m

-- the extents of the inputs at sizes
abbrev pub input_extents : Module → List ℕ → List (List ℕ)
input_extents m s = map (λ d. extents_at d.extents s) m.inputs

-- in a sound module at allowed sizes no extent of an input is negative, and each part of each output has a shape, which is
-- that of its meaning
abbrev pub SoundShapes : Type 0
SoundShapes =
    (m : Module) → IsSound m → (s : List ℕ) → Allowed m s
    → AllHaveValues s (input_shapes m) (input_extents m s) × All (λ o. EachPart (HasMeaning s) o.term (input_shapes m)) m.outputs

-- in a sound module at allowed sizes the tensor of each output has exactly the extents of its term, on inputs of theirs
abbrev pub SoundTensors : Type 0
SoundTensors =
    (m : Module) → IsSound m → (s : List ℕ) → Allowed m s → (inputs : List Tensor) → AreInputs m.inputs s inputs
    → All (λ o. HasShape (dims o.term s (input_extents m s)) (den o.term s [] (inputs_bound m.inputs s inputs))) m.outputs
