-- What a focus tells of its module, and what a term put in its place keeps.
use Rattle.std.specs.Prelude.{◌≡◌, ◌≤◌, ℕ, List, [], ◌∷◌, length, map, true, Option, Some, None, Result, Ok, Err, All}
use Rattle.affine_index.specs.Normal.{is_ordered}
use Rattle.shape_rules.specs.Faults.{IsModuleFault, ShapesHold}
use Rattle.shape_rules.specs.Fits.{LiteralsFit}
use Rattle.shape_rules.specs.Meant.{input_extents}
use Rattle.shape_rules.specs.declared.fault.ShapeFault.{ShapeFault}
use Rattle.shape_rules.specs.declared.fault.ShapeFault.TheVariants as fault
use Rattle.term_tree.specs.Counts.{node_count}
use Rattle.term_tree.specs.Limits.{every_form}
use Rattle.term_tree.specs.Meaning.{Bound, dims}
use Rattle.term_tree.specs.Modules.{Allowed, AreInputs, IsSound, input_shapes, inputs_bound, module_den, module_scoped}
use Rattle.term_tree.specs.Shape.{Extents, shape_of}
use Rattle.term_tree.specs.Tensors.{Tensor}
use Rattle.term_tree.specs.declared.term.Module.{Module}
use Rattle.term_tree.specs.declared.term.OutputDecl.{OutputDecl}
use Rattle.term_tree.specs.declared.term.Path.{Path}
use Rattle.term_tree.specs.declared.term.Term.{Term}
use Rattle.path_focus.specs.Focus.{IsProper, KeepsMeaning, KeepsShape, Reached, SameOrLimit, focus_at, plugged_in, way_to}
use Rattle.path_focus.specs.Frames.{Way}
use Rattle.path_focus.specs.Places.{Computed}
use Rattle.path_focus.specs.declared.place.PathRefusal.{PathRefusal}
use Rattle.path_focus.specs.declared.place.PathRefusal.TheVariants.{NoSuchPath, Memory}

-- each form in the term of an output is normal, but for the limits
abbrev pub HasOrdered : OutputDecl → Type 0
HasOrdered o = every_form is_ordered o.term ≡ true

-- so in each output of a module
abbrev pub IsOrdered : Module → Type 0
IsOrdered m = All HasOrdered m.outputs

-- each literal in the term of an output is below 2^64
abbrev pub HasWordLiterals : OutputDecl → Type 0
HasWordLiterals o = LiteralsFit o.term

-- so in each output of a module
abbrev pub IsOfWords : Module → Type 0
IsOfWords m = All HasWordLiterals m.outputs

-- whenever the node at a place is computed, its facts hold, and each let around it has its value
abbrev pub KnownThere : Type 0
KnownThere =
    (m : Module) → IsSound m → IsOrdered m → IsOfWords m → (p : Path) (w : Way) → way_to m p ≡ Some w → (s : List ℕ) → Allowed m s
    → (inputs : List Tensor) → AreInputs m.inputs s inputs
    → (r : List ℕ) (t : List Bound) → Computed s w.frames [] (inputs_bound m.inputs s inputs) r t → Reached (focus_at m w) s r t

-- the outputs of two modules have equal extents at these sizes
abbrev pub SameExtents : Module → Module → List ℕ → Type 0
SameExtents m m' s = map (λ o. dims o.term s (input_extents m s)) m'.outputs ≡ map (λ o. dims o.term s (input_extents m s)) m.outputs

-- a term that keeps the meaning at a focus keeps that of the module, and leaves it well scoped, and sound where the shape rules hold
pub record IsKept (m m' : Module) : Type 0 where
  pub scoped : module_scoped m' ≡ true
  pub extents : (s : List ℕ) → Allowed m s → SameExtents m m' s
  pub meaning : (s : List ℕ) → Allowed m s → (inputs : List Tensor) → AreInputs m.inputs s inputs → module_den m' s inputs ≡ module_den m s inputs
  pub sound : ShapesHold m' → IsSound m'

abbrev pub PlugKeeps : Type 0
PlugKeeps =
    (m : Module) → IsSound m → IsOrdered m → IsOfWords m → (p : Path) (w : Way) → way_to m p ≡ Some w → (new : Term) → KeepsMeaning (focus_at m w) new
    → (m' : Module) → plugged_in m p new ≡ Some m' → IsKept m m'

-- each output has at most 20,000 nodes, and there are few sizes and inputs
pub record IsLimited (m : Module) : Type 0 where
  pub nodes : All (λ o. node_count o.term ≤ 20000) m.outputs
  pub sizes : length m.sizes ≤ 2147483647
  pub inputs : length m.inputs ≤ 2147483647

-- the focus at a place of a sound module gives what a rule takes
abbrev pub FocusIsProper : Type 0
FocusIsProper =
    (m : Module) → IsSound m → IsOrdered m → IsOfWords m → IsLimited m → (p : Path) (w : Way) → way_to m p ≡ Some w → IsProper (focus_at m w)

-- what a call answers where it is there, or that it is not; want of memory is free
abbrev pub IsThere : {A : Type 0} → Option A → Result A PathRefusal → Type 0
IsThere want (Ok x) = want ≡ Some x
IsThere want (Err NoSuchPath) = want ≡ None
IsThere want (Err Memory) = Unit {0}

-- a module with a term at a place keeps that module's meaning wherever the term keeps that of its focus
abbrev pub KeepsModule : Module → Path → Term → Module → Type 0
KeepsModule m p new m' = IsSound m → (w : Way) → way_to m p ≡ Some w → KeepsMeaning (focus_at m w) new → IsKept m m'

-- each output has the shape of the one before, or breaks a limit
abbrev pub OutputsKeep : List Extents → List OutputDecl → List OutputDecl → Type 0
OutputsKeep ts [] [] = Unit {0}
OutputsKeep ts (o ∷ os) (o' ∷ os') = SameOrLimit (shape_of o.term ts) (shape_of o'.term ts) × OutputsKeep ts os os'
OutputsKeep ts _ _ = ⊥

-- a limit of ranks or forms is broken in the shape of an output, or memory is out
abbrev pub IsLimitFault : ShapeFault → Type 0
IsLimitFault (fault.RankTooLarge p) = Unit {0}
IsLimitFault (fault.CoefficientTooLarge p) = Unit {0}
IsLimitFault (fault.IndexTooLong p) = Unit {0}
IsLimitFault fault.Memory = Unit {0}
IsLimitFault _ = ⊥

-- a term that keeps the shape at a focus keeps those of the module's outputs, or breaks a limit, and no other shape rule
pub record ShapesKept (m m' : Module) : Type 0 where
  pub outputs : OutputsKeep (input_shapes m) m.outputs m'.outputs
  pub limits : (f : ShapeFault) → IsModuleFault m' f → IsLimitFault f

-- a module with a term at a place keeps that module's shapes wherever the term keeps that of its focus
abbrev pub KeepsShapes : Module → Path → Term → Module → Type 0
KeepsShapes m p new m' = IsSound m → (w : Way) → way_to m p ≡ Some w → KeepsShape (focus_at m w) new → ShapesKept m m'
