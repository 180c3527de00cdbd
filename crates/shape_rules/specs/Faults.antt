-- Why a term has no shape.
use Rattle.std.specs.Prelude.{◌≡◌, ℕ, ◌<◌, ◌≤◌, List, length, reverse, slice_get, slice_index_or, Some, Result, Ok, Err, All, IsOk}
use Rattle.term_tree.specs.declared.term.InputDecl.{InputDecl}
use Rattle.term_tree.specs.declared.term.Module.{Module}
use Rattle.term_tree.specs.declared.term.OutputDecl.{OutputDecl}
use Rattle.term_tree.specs.declared.term.Path.{Path}
use Rattle.term_tree.specs.Modules.{input_shapes}
use Rattle.term_tree.specs.Shape.{Extents, Misfit, Shaped, largest_rank, shape_of, with_child}
use Rattle.term_tree.specs.declared.cause.Cause.{Cause}
use Rattle.term_tree.specs.declared.cause.Cause.TheVariants as c
use Rattle.shape_rules.specs.declared.fault.Trouble.{Trouble}
use Rattle.shape_rules.specs.declared.fault.Trouble.TheVariants as t
use Rattle.shape_rules.specs.declared.fault.ShapeFault.{ShapeFault}
use Rattle.shape_rules.specs.declared.fault.ShapeFault.TheVariants as f
use Rattle.shape_rules.specs.declared.fault.Operands.{Operands}

-- the misfit at a path, whatever its output
abbrev pub misfit_at : Path → Cause → Shaped
misfit_at path cause = Err (record { steps = path.steps; cause = cause })

-- the fault tells the misfit, in this output; want of memory tells nothing
abbrev pub IsFault : ℕ → Shaped → ShapeFault → Type 0
IsFault output shape (f.InputRank i) = ⊥
IsFault output shape (f.RankMismatch p) = (p.output ≡ output) × (shape ≡ misfit_at p c.RankMismatch)
IsFault output shape (f.ShapesDiffer p) = (p.output ≡ output) × (shape ≡ misfit_at p c.ShapesDiffer)
IsFault output shape (f.RankTooLarge p) = (p.output ≡ output) × (shape ≡ misfit_at p c.RankTooLarge)
IsFault output shape (f.CoefficientTooLarge p) = (p.output ≡ output) × (shape ≡ misfit_at p c.CoefficientTooLarge)
IsFault output shape (f.IndexTooLong p) = (p.output ≡ output) × (shape ≡ misfit_at p c.IndexTooLong)
IsFault output shape f.Memory = Unit {0}

-- the shape rules hold in the module: no input has a rank over 8, and each output has a shape
pub record ShapesHold (m : Module) : Type 0 where
  pub ranks : All (λ d. length d.extents ≤ largest_rank) m.inputs
  pub shaped : All (λ o. IsOk (shape_of o.term (input_shapes m))) m.outputs

-- a fact of each of the first i
abbrev pub AllBefore : {X : Type 0} → (X → Type 0) → ℕ → List X → Type 0
AllBefore {X} P i xs = (k : ℕ) (d : X) → k < i → P (slice_index_or xs k d)

-- a rank within the limit
abbrev pub RankFits : InputDecl → Type 0
RankFits d = length d.extents ≤ largest_rank

-- the input is the first of a rank over the limit
abbrev pub IsHigh : List InputDecl → ℕ → Type 0
IsHigh inputs i = (d : InputDecl) × (slice_get inputs i ≡ Some d) × (largest_rank < length d.extents) × AllBefore RankFits i inputs

-- the term of an output has a shape
abbrev pub HasOne : List Extents → OutputDecl → Type 0
HasOne ts o = IsOk (shape_of o.term ts)

-- the first output without a shape, and its fault
abbrev pub FailsFirst : List Extents → List OutputDecl → ShapeFault → Type 0
FailsFirst ts outputs fault =
    (i : ℕ) × (o : OutputDecl) × (slice_get outputs i ≡ Some o) × AllBefore (HasOne ts) i outputs × IsFault i (shape_of o.term ts) fault

-- the first input of a rank over the limit, else the fault of the first output without a shape
abbrev pub IsModuleFault : Module → ShapeFault → Type 0
IsModuleFault m (f.InputRank i) = IsHigh m.inputs i
IsModuleFault m f.Memory = Unit {0}
IsModuleFault m fault = All RankFits m.inputs × FailsFirst (input_shapes m) m.outputs fault

-- a misfit whose steps are told from its node upward
abbrev pub upward : Cause → List ℕ → Misfit
upward cause steps = record { steps = reverse steps; cause = cause }

-- the trouble tells the misfit
abbrev pub IsTrouble : Shaped → Trouble → Type 0
IsTrouble shape (t.Misfit cause steps) = shape ≡ Err (upward cause steps)
IsTrouble shape t.Memory = Unit {0}

-- the answer tells the shape or the misfit
abbrev pub IsAnswer : Shaped → Result Extents Trouble → Type 0
IsAnswer shape (Ok ns) = shape ≡ Ok ns
IsAnswer shape (Err trouble) = IsTrouble shape trouble

-- the answer tells both shapes, or the misfit under any rule for them
abbrev pub AreAnswered : Shaped → Shaped → Result Operands Trouble → Type 0
AreAnswered first second (Ok o) = (first ≡ Ok o.first) × (second ≡ Ok o.second)
AreAnswered first second (Err trouble) =
    (rule : Extents → Extents → Shaped) → IsTrouble (with_child 0 first (λ ns. with_child 1 second (rule ns))) trouble
