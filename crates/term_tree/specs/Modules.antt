-- Modules: allowed sizes, what the outputs denote, and sound modules.
use Rattle.std.specs.Prelude.{◌≡◌, ℕ, ◌≤◌, ◌+◌, Bool, true, false, ◌&&◌, List, [], ◌∷◌, ◌++◌, length, map, Result, Ok, Err, IsOk, All}
use Rattle.affine_index.specs.declared.form.Items.{Items}
use Rattle.affine_index.specs.declared.aff.Aff.{Aff}
use Rattle.affine_index.specs.Value.{items_value}
use Rattle.affine_index.specs.Condition.{all_hold, at_least_zero, all_scoped}
use Rattle.affine_index.specs.Limited.{items_scoped}
use Rattle.term_tree.specs.declared.term.SizeDecl.{SizeDecl}
use Rattle.term_tree.specs.declared.term.InputDecl.{InputDecl}
use Rattle.term_tree.specs.declared.term.OutputDecl.{OutputDecl}
use Rattle.term_tree.specs.declared.term.Module.{Module}
use Rattle.term_tree.specs.Tensors.{Tensor}
use Rattle.term_tree.specs.Meaning.{extent, Bound, den}
use Rattle.term_tree.specs.Shaped.{HasShape, HasWords, flat}
use Rattle.term_tree.specs.Scope.{term_scoped}
use Rattle.term_tree.specs.Shape.{Extents, largest_rank, shape_of}
use Rattle.term_tree.specs.Goals.{term_goals}

-- one number for each size, within its bounds, both included
abbrev pub IsWithin : List SizeDecl → List ℕ → Type 0
IsWithin [] [] = Unit {0}
IsWithin [] (n ∷ ns) = ⊥
IsWithin (d ∷ ds) [] = ⊥
IsWithin (d ∷ ds) (n ∷ ns) = (d.low ≤ n) × (n ≤ d.high) × IsWithin ds ns

-- sizes within their bounds at which each assume holds
pub record Allowed (m : Module) (s : List ℕ) : Type 0 where
  pub within : IsWithin m.sizes s
  pub assumed : all_hold s [] m.assumes ≡ true

-- extents at sizes
abbrev pub extents_at : List Aff → List ℕ → List ℕ
extents_at ns s = map (λ n. extent n s) ns

-- one tensor of words for each input, of its declared extents
abbrev pub AreInputs : List InputDecl → List ℕ → List Tensor → Type 0
AreInputs [] s [] = Unit {0}
AreInputs [] s (t ∷ ts) = ⊥
AreInputs (d ∷ ds) s [] = ⊥
AreInputs (d ∷ ds) s (t ∷ ts) = HasShape (extents_at d.extents s) t × HasWords t × AreInputs ds s ts

-- the inputs, each with its declared extents
abbrev pub inputs_bound : List InputDecl → List ℕ → List Tensor → List Bound
inputs_bound [] s ts = []
inputs_bound (d ∷ ds) s [] = []
inputs_bound (d ∷ ds) s (t ∷ ts) = (extents_at d.extents s, t) ∷ inputs_bound ds s ts

-- what the outputs denote, in order
abbrev pub module_den : Module → List ℕ → List Tensor → List Tensor
module_den m s inputs = map (λ o. den o.term s [] (inputs_bound m.inputs s inputs)) m.outputs

-- the declared shapes of the inputs
abbrev pub input_shapes : Module → List Extents
input_shapes m = map (λ d. d.extents) m.inputs

-- the extents of the inputs, in order
abbrev pub input_goals : List InputDecl → List Items
input_goals [] = []
input_goals (d ∷ ds) = d.extents ++ input_goals ds

abbrev pub outputs_goals : List OutputDecl → List Extents → List Items
outputs_goals [] ts = []
outputs_goals (o ∷ os) ts = term_goals o.term ts ++ outputs_goals os ts

-- all numbers that must not be negative: the extents of the inputs, then those of the outputs in order
abbrev pub extent_goals : Module → List Items
extent_goals m = input_goals m.inputs ++ outputs_goals m.outputs (input_shapes m)

abbrev pub extents_scoped : ℕ → List Aff → Bool
extents_scoped sizes [] = true
extents_scoped sizes (n ∷ ns) = items_scoped sizes 0 n && extents_scoped sizes ns

abbrev pub inputs_scoped : ℕ → List InputDecl → Bool
inputs_scoped sizes [] = true
inputs_scoped sizes (d ∷ ds) = extents_scoped sizes d.extents && inputs_scoped sizes ds

abbrev pub outputs_scoped : ℕ → ℕ → List OutputDecl → Bool
outputs_scoped sizes tensors [] = true
outputs_scoped sizes tensors (o ∷ os) = term_scoped sizes o.term 0 tensors && outputs_scoped sizes tensors os

-- extents and assumes hold declared sizes alone, and each output is well scoped
abbrev pub module_scoped : Module → Bool
module_scoped m =
    all_scoped (length m.sizes) 0 m.assumes && (inputs_scoped (length m.sizes) m.inputs
    && outputs_scoped (length m.sizes) (length m.inputs) m.outputs)

-- well scoped, the shape rules hold, and at allowed sizes no number that an extent goal names is negative
pub record IsSound (m : Module) : Type 0 where
  pub scoped : module_scoped m ≡ true
  pub ranks : All (λ d. length d.extents ≤ largest_rank) m.inputs
  pub shaped : All (λ o. IsOk (shape_of o.term (input_shapes m))) m.outputs
  pub positive : (s : List ℕ) → Allowed m s → All (λ n. at_least_zero (items_value s [] n) ≡ true) (extent_goals m)
