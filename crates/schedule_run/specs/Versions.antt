-- The versions that a script makes of a module, and what each keeps of it.
use Rattle.std.specs.Prelude.{◌≡◌, ℕ, ◌+◌, ◌≤◌, List, [], ◌∷◌, ◌++◌, length, map, Some, Result, Ok, Err}
use Rattle.path_focus.specs.Focus.{KeepsMeaning, KeepsShape, focus_at, way_to}
use Rattle.path_focus.specs.Frames.{Way}
use Rattle.path_focus.specs.Laws.{IsOrdered, SameExtents}
use Rattle.schedule_run.specs.Verdict.{version_after}
use Rattle.schedule_run.specs.declared.fault.StepFault.{StepFault}
use Rattle.schedule_run.specs.declared.fault.StepKind.{StepKind}
use Rattle.schedule_run.specs.declared.fault.StepKind.TheVariants.{Memory}
use Rattle.schedule_run.specs.declared.running.Staged.{Staged}
use Rattle.schedule_script.specs.declared.tree.Step.{Step}
use Rattle.source_grammar.specs.Source.{AreShallow, nodes}
use Rattle.term_tree.specs.Modules.{Allowed, AreInputs, IsSound, input_shapes, module_den}
use Rattle.term_tree.specs.Shape.{shape_of}
use Rattle.term_tree.specs.Tensors.{Tensor}
use Rattle.term_tree.specs.declared.term.Module.{Module}
use Rattle.term_tree.specs.declared.term.Path.{Path}
use Rattle.term_tree.specs.declared.term.Term.{Term}

module _ {A : Type 0} where
  -- what comes of the version after a step, or the fault of the step with this number
  abbrev pub after : ℕ → Result Module StepKind → (Module → Result A StepFault) → Result A StepFault
  after number (Ok m) f = f m
  after number (Err k) f = Err (record { step = number; kind = k })

-- versions behind others
abbrev pub behind : List Module → Result (List Module) StepFault → Result (List Module) StepFault
behind ms (Ok ns) = Ok (ms ++ ns)
behind ms (Err fault) = Err fault

-- a module and each version after it, or the first step that fails; so many steps stand before these
abbrev pub versions_from : ℕ → Module → List Step → Result (List Module) StepFault
versions_from number m [] = Ok (m ∷ [])
versions_from number m (s ∷ ss) = after (number + 1) (version_after m s) (λ n. behind (m ∷ []) (versions_from (number + 1) n ss))

-- the last version, or the first step that fails
abbrev pub last_from : ℕ → Module → List Step → Result Module StepFault
last_from number m [] = Ok m
last_from number m (s ∷ ss) = after (number + 1) (version_after m s) (λ n. last_from (number + 1) n ss)

-- the versions of a module, itself the first, or the first step that fails, counted from 1
abbrev pub versions_of : Module → List Step → Result (List Module) StepFault
versions_of m ss = versions_from 0 m ss

-- the last of them
abbrev pub last_version_of : Module → List Step → Result Module StepFault
last_version_of m ss = last_from 0 m ss

module _ {A : Type 0} where
  -- the fault is the wanted one; that memory did not suffice tells nothing
  abbrev pub IsRefused : Result A StepFault → StepFault → StepKind → Type 0
  IsRefused want fault Memory = Unit {0}
  IsRefused want fault _ = want ≡ Err fault

-- the last version, or the fault, unless memory runs out
abbrev pub Answers : Result Module StepFault → Result Module StepFault → Type 0
Answers want (Ok v) = want ≡ Ok v
Answers want (Err fault) = IsRefused want fault fault.kind

-- the versions, or the fault, unless memory runs out
abbrev pub AnswersAll : Result (List Module) StepFault → Result Staged StepFault → Type 0
AnswersAll want (Ok staged) = want ≡ Ok staged.versions
AnswersAll want (Err fault) = IsRefused want fault fault.kind

-- what may be scheduled: a sound module of at most 20,000 nodes with few sizes and inputs
pub record MayRun (m : Module) : Type 0 where
  pub sound : IsSound m
  pub few : nodes m.outputs ≤ 20000
  pub sizes : length m.sizes ≤ 2147483647
  pub inputs : length m.inputs ≤ 2147483647

-- a term that keeps the meaning and the shape at its place
pub record MayPlace (m : Module) (p : Path) (new : Term) : Type 0 where
  pub leads : Way
  pub there : way_to m p ≡ Some leads
  pub keeps : KeepsMeaning (focus_at m leads) new
  pub shape : KeepsShape (focus_at m leads) new

-- a version of a module: all but its outputs is as there, and so are their names; it may be scheduled on, its forms are in order, no term is deeper than 200
-- where none of the module is; its outputs have the shapes of the module's, and at all allowed sizes their extents, and denote the same
pub record IsVersion (m v : Module) : Type 0 where
  pub others : v ≡ record m { outputs = v.outputs }
  pub names : map (λ o. o.name) v.outputs ≡ map (λ o. o.name) m.outputs
  pub runs : MayRun v
  pub ordered : IsOrdered v
  pub shallow : AreShallow m.outputs → AreShallow v.outputs
  pub shapes : map (λ o. shape_of o.term (input_shapes m)) v.outputs ≡ map (λ o. shape_of o.term (input_shapes m)) m.outputs
  pub extents : (s : List ℕ) → Allowed m s → SameExtents m v s
  pub meaning : (s : List ℕ) → Allowed m s → (inputs : List Tensor) → AreInputs m.inputs s inputs → module_den v s inputs ≡ module_den m s inputs
