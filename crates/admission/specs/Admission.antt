-- Whether a module is admitted, and the first rule that it breaks: of the shapes, of the extents, of the example.
use Rattle.std.specs.Prelude.{◌≡◌, ℕ, suc, Bool, true, false, ◌&&◌, nat_le, List, [], ◌∷◌, ◌++◌, length, map, Some, None, Ok, Err, ⊤}
use Rattle.std.specs.Option.{option_map}
use Rattle.std.specs.declared.option.Option.{Option}
use Rattle.affine_index.specs.Condition.{cmp_limited}
use Rattle.affine_index.specs.declared.cond.Cmp.{Cmp}
use Rattle.affine_index.specs.declared.form.Items.{Items}
use Rattle.fact_list.specs.declared.facts.Facts.{Facts}
use Rattle.linear_cert.specs.Shown.{is_shown}
use Rattle.linear_cert.specs.declared.lines.Lines.TheVariants.{Default}
use Rattle.shape_rules.specs.Admitted.{module_facts}
use Rattle.shape_rules.specs.declared.fault.ShapeFault.{ShapeFault}
use Rattle.shape_rules.specs.declared.fault.ShapeFault.TheVariants.{InputRank}
use Rattle.shape_rules.specs.declared.fault.ShapeFault.TheVariants as f
use Rattle.term_tree.specs.Modules.{extent_goals, input_shapes}
use Rattle.term_tree.specs.Shape.{Extents, Shaped, largest_rank, shape_of}
use Rattle.term_tree.specs.declared.cause.Cause.{Cause}
use Rattle.term_tree.specs.declared.cause.Cause.TheVariants as c
use Rattle.term_tree.specs.declared.term.InputDecl.{InputDecl}
use Rattle.term_tree.specs.declared.term.Module.{Module}
use Rattle.term_tree.specs.declared.term.OutputDecl.{OutputDecl}
use Rattle.term_tree.specs.declared.term.Path.{Path}
use Rattle.term_tree.specs.declared.term.SizeDecl.{SizeDecl}
use Rattle.admission.specs.declared.fault.AdmissionFault.{AdmissionFault}
use Rattle.admission.specs.declared.fault.AdmissionFault.TheVariants.{Shape, ExtentNotShown, BadExample, Memory}

-- the number of the first that does not hold, where one does not and the first of all has this number
abbrev pub first_false : ℕ → List Bool → Option ℕ
first_false number [] = None
first_false number (false ∷ rest) = Some number
first_false number (true ∷ rest) = first_false (suc number) rest

module _ {X : Type 0} where
  -- the first, or else the second
  abbrev pub or_else : Option X → Option X → Option X
  or_else None second = second
  or_else (Some x) second = Some x

-- a rank within the limit
abbrev pub rank_fits : InputDecl → Bool
rank_fits d = nat_le (length d.extents) largest_rank

-- what is wrong at a path
abbrev pub fault_at : Path → Cause → ShapeFault
fault_at path c.RankMismatch = f.RankMismatch path
fault_at path c.ShapesDiffer = f.ShapesDiffer path
fault_at path c.RankTooLarge = f.RankTooLarge path
fault_at path c.CoefficientTooLarge = f.CoefficientTooLarge path
fault_at path c.IndexTooLong = f.IndexTooLong path

-- the fault of this output, where its term has no shape, or else what the rest has
abbrev pub shape_or : ℕ → Shaped → Option ShapeFault → Option ShapeFault
shape_or output (Ok extents) rest = rest
shape_or output (Err misfit) rest = Some (fault_at (record { output = output; steps = misfit.steps }) misfit.cause)

-- the fault of the first of these outputs without a shape, the first of them having this number
abbrev pub outputs_fault : List Extents → ℕ → List OutputDecl → Option ShapeFault
outputs_fault shapes number [] = None
outputs_fault shapes number (o ∷ os) = shape_or number (shape_of o.term shapes) (outputs_fault shapes (suc number) os)

-- the first input of a rank over the limit, or else the first output without a shape
abbrev pub shape_fault : Module → Option ShapeFault
shape_fault m = or_else (option_map InputRank (first_false 0 (map rank_fits m.inputs))) (outputs_fault (input_shapes m) 0 m.outputs)

-- default lines show the goal
abbrev pub is_shown_alone : Facts → Items → Bool
is_shown_alone facts goal = is_shown facts goal Default

-- for each goal whether default lines show it from these facts
abbrev pub shown_alone : Facts → List Items → List Bool
shown_alone facts goals = map (is_shown_alone facts) goals

-- for each size whether its number is within its bounds
abbrev pub within : List SizeDecl → List ℕ → List Bool
within [] ns = []
within (d ∷ ds) [] = false ∷ within ds []
within (d ∷ ds) (n ∷ ns) = (nat_le d.low n && nat_le n d.high) ∷ within ds ns

-- it holds; a value that is too large is none that holds
abbrev pub is_held : Option Bool → Bool
is_held None = false
is_held (Some b) = b

-- the assume holds at these sizes
abbrev pub assume_holds : List ℕ → Cmp → Bool
assume_holds sizes c = is_held (cmp_limited sizes [] c)

-- for each constraint of the sizes, bounds and then assumes, whether these sizes keep it
abbrev pub kept : Module → List ℕ → List Bool
kept m sizes = within m.sizes sizes ++ map (assume_holds sizes) m.assumes

-- the first constraint that these sizes break, counted from 1
abbrev pub broken : Module → List ℕ → Option ℕ
broken m sizes = first_false 1 (kept m sizes)

-- the first of these goals that default lines do not show, counted from 1
abbrev pub unshown : Module → List Items → Option AdmissionFault
unshown m goals = option_map ExtentNotShown (first_false 1 (shown_alone (module_facts m) goals))

-- the first constraint that the example breaks, counted from 1
abbrev pub bad_example : Module → Option AdmissionFault
bad_example m = option_map BadExample (broken m m.example)

-- the first rule that the module breaks
abbrev pub admission_fault : Module → Option AdmissionFault
admission_fault m = or_else (option_map Shape (shape_fault m)) (or_else (unshown m (extent_goals m)) (bad_example m))

-- the refusal for a fault of the shapes; want of memory stands alone
abbrev pub refusal_of : ShapeFault → AdmissionFault
refusal_of (f.InputRank i) = Shape (f.InputRank i)
refusal_of (f.RankMismatch p) = Shape (f.RankMismatch p)
refusal_of (f.ShapesDiffer p) = Shape (f.ShapesDiffer p)
refusal_of (f.RankTooLarge p) = Shape (f.RankTooLarge p)
refusal_of (f.CoefficientTooLarge p) = Shape (f.CoefficientTooLarge p)
refusal_of (f.IndexTooLong p) = Shape (f.IndexTooLong p)
refusal_of f.Memory = Memory

-- no fault is due
abbrev pub Accepted : Module → Type 0
Accepted m = admission_fault m ≡ None

-- the fault is this one, or memory did not suffice
abbrev pub Tells : Option AdmissionFault → AdmissionFault → Type 0
Tells due Memory = ⊤
Tells due fault = due ≡ Some fault
