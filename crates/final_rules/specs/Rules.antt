-- Whether a module in final form may be lowered: the first fault, if there is one.
use Rattle.std.specs.Prelude.{ℕ, ◌+◌, Bool, true, false, ◌&&◌, ◌||◌, ◌==◌, max, nat_le, nat_lt, if◌then◌else◌, List, [], ◌∷◌, ◌++◌, length, map, slice_get}
use Rattle.std.specs.Prelude.{Option, Some, None, pos, Ok, Err}
use Rattle.std.specs.Option.{option_and_then, option_map}
use Rattle.affine_index.specs.Form.{literal_form}
use Rattle.affine_index.specs.Magnitude.{magnitude}
use Rattle.affine_index.specs.Normal.{is_normal}
use Rattle.fact_list.specs.declared.facts.Facts.{Facts}
use Rattle.linear_cert.specs.declared.lines.FinalLine.{FinalLine}
use Rattle.linear_cert.specs.declared.lines.Lines.{Lines}
use Rattle.linear_cert.specs.declared.lines.Lines.TheVariants.{Default}
use Rattle.reindexer.specs.Limited.{Limited}
use Rattle.region_plan.specs.declared.length.Length.{Length, Plain}
use Rattle.region_plan.specs.Syntax.{topped}
use Rattle.shape_rules.specs.Admitted.{module_facts}
use Rattle.term_tree.specs.declared.term.InputDecl.{InputDecl}
use Rattle.term_tree.specs.declared.term.Module.{Module}
use Rattle.term_tree.specs.declared.term.OutputDecl.{OutputDecl}
use Rattle.term_tree.specs.declared.term.Path.{Path}
use Rattle.term_tree.specs.declared.term.Term.{Term}
use Rattle.term_tree.specs.Syntax.{gen}
use Rattle.term_tree.specs.declared.term.Term.TheOpen.{Term-F}
use Rattle.term_tree.specs.declared.term.Term.TheFolds.{fold-Term}
use Rattle.term_tree.specs.Children.{children}
use Rattle.term_tree.specs.Modules.{input_shapes}
use Rattle.term_tree.specs.Shape.{Extents}
use Rattle.final_rules.specs.declared.fault.FinalFault.{FinalFault}
use Rattle.final_rules.specs.declared.fault.FinalFault.TheVariants.{NotLowerable, NoSuchGoal, AccessNotShown, DropNotShown, IndexTooLarge, ParallelNotGen}
use Rattle.final_rules.specs.declared.fault.FinalFault.TheVariants.{LetInParallel, NestedParallel}
use Rattle.final_rules.specs.declared.goal.Goal.{Goal}
use Rattle.final_rules.specs.declared.goal.GoalKind.{GoalKind}
use Rattle.final_rules.specs.declared.goal.GoalKind.TheVariants.{Read, Drop}
use Rattle.final_rules.specs.declared.spot.Spot.{Spot}
use Rattle.final_rules.specs.Form.{Node, outside}
use Rattle.final_rules.specs.Goals.{Claim, claims_of, goal_of}
use Rattle.final_rules.specs.Met.{is_met}
use Rattle.final_rules.specs.Places.{Site, Place, extents_under}
use Rattle.final_rules.specs.Printed.{Printed, at_least_one, is_small, largest_index, plain, length_printed, printed_of}
use Rattle.region_plan.specs.Needed.{module_needed}

abbrev pub Verdict : Type 0
Verdict = Option FinalFault

abbrev pub or_else : Verdict → Verdict → Verdict
or_else None b = b
or_else (Some e) b = Some e

-- the form

abbrev pub node_fault : ℕ → Node → Verdict
node_fault j None = None
node_fault j (Some ks) = Some (NotLowerable (record { output = j; steps = ks }))

-- the outputs from one on
abbrev pub form_fault : ℕ → List OutputDecl → List Extents → Verdict
form_fault j [] ts = None
form_fault j (o ∷ os) ts = or_else (node_fault j (outside o.term ts)) (form_fault (j + 1) os ts)

-- where outputs stand: nothing is known yet, and scratch is free from its start
abbrev pub output_spot : Spot
output_spot = record { path = []; around = [] }

abbrev pub input_site : InputDecl → Site
input_site d = record { extents = d.extents; offset = literal_form (pos 0) }

abbrev pub output_extents : Module → OutputDecl → Extents
output_extents m o = extents_under o.term (input_shapes m)

abbrev pub output_place : Module → OutputDecl → Place
output_place m o = record {
  spot = output_spot;
  sites = map input_site m.inputs;
  target = record { extents = output_extents m o; offset = literal_form (pos 0) };
  free = literal_form (pos 0);
}

-- the goals

abbrev pub outputs_claims : List OutputDecl → List Extents → List Claim
outputs_claims [] ts = []
outputs_claims (o ∷ os) ts = claims_of o.term output_spot ts ++ outputs_claims os ts

abbrev pub goals_with : Facts → List Claim → List Goal
goals_with f cs = map (goal_of f) cs

abbrev pub module_goals : Module → List Goal
module_goals m = goals_with (module_facts m) (outputs_claims m.outputs (input_shapes m))

-- each line names a goal, above the one before
abbrev pub line_fault : ℕ → ℕ → ℕ → List FinalLine → Verdict
line_fault goals last at [] = None
line_fault goals last at (l ∷ ls) = if nat_lt last l.goal && nat_le l.goal goals then line_fault goals l.goal (at + 1) ls else Some (NoSuchGoal at)

-- the lines of a goal: its own, else default lines
abbrev pub lines_of : ℕ → List FinalLine → Lines
lines_of k [] = Default
lines_of k (l ∷ ls) = if l.goal == k then l.lines else lines_of k ls

abbrev pub not_shown : ℕ → GoalKind → FinalFault
not_shown k Read = AccessNotShown k
not_shown k Drop = DropNotShown k

abbrev pub goal_fault : List FinalLine → ℕ → List Goal → Verdict
goal_fault finals k [] = None
goal_fault finals k (g ∷ gs) = if is_met g (lines_of k finals) then goal_fault finals (k + 1) gs else Some (not_shown k g.kind)

-- the printed indices

abbrev pub maxima : Module → List ℕ
maxima m = map (λ d. at_least_one d.high) m.sizes

-- whether a let stands in a term, at one level of it
abbrev pub let_step : Term-F Bool → Bool
let_step (Term-F.Lit w) = false
let_step (Term-F.TVar q) = false
let_step (Term-F.WordOf x) = false
let_step (Term-F.Index e x) = e
let_step (Term-F.Gen n e) = e
let_step (Term-F.Sum n e) = e
let_step (Term-F.Guard c e) = e
let_step (Term-F.Let a b) = true
let_step (Term-F.Add a b) = a || b
let_step (Term-F.Sub a b) = a || b
let_step (Term-F.Mul a b) = a || b
let_step (Term-F.Concat a b) = a || b
let_step (Term-F.Flatten e) = e
let_step (Term-F.Split k e) = e
let_step (Term-F.Transpose e) = e
let_step (Term-F.TruncL n e) = e
let_step (Term-F.TruncR n e) = e
let_step (Term-F.PadL n e) = e
let_step (Term-F.PadR n e) = e

abbrev pub has_let : Term → Bool
has_let = fold-Term Bool let_step

abbrev pub any_let : List OutputDecl → Bool
any_let [] = false
any_let (o ∷ os) = has_let o.term || any_let os

abbrev pub nowhere_yet : Place
nowhere_yet = record { spot = output_spot; sites = []; target = record { extents = []; offset = literal_form (pos 0) }; free = literal_form (pos 0) }

abbrev pub input_lengths : Module → List Printed
input_lengths m = map (λ d. length_printed d.extents nowhere_yet) m.inputs

abbrev pub output_lengths : Module → List Printed
output_lengths m = map (λ o. length_printed (output_extents m o) nowhere_yet) m.outputs

-- each output has its fill, and then its loops
abbrev pub body_printed : Module → List OutputDecl → List Printed
body_printed m [] = []
body_printed m (o ∷ os) = plain (literal_form (pos 0)) (output_place m o) ∷ length_printed (output_extents m o) (output_place m o) ∷
    (printed_of o.term (output_place m o) ++ body_printed m os)

-- a printed expression: an index, or the length of the scratch region
pub data Expression : Type 0 where
  Index : Printed → Expression
  Scratch : Limited Length → Expression

abbrev pub scratch_printed : Module → List Expression
scratch_printed m = if any_let m.outputs then Scratch (module_needed m) ∷ [] else []

-- in the order of the text: the lengths of inputs, outputs and scratch, then the body
abbrev pub printed : Module → List Expression
printed m = map Index (input_lengths m ++ output_lengths m) ++ (scratch_printed m ++ map Index (body_printed m m.outputs))

-- with the larger for each top
abbrev pub length_magnitude : List ℕ → Length → ℕ
length_magnitude maxima (Plain x) = magnitude maxima [] x
length_magnitude maxima (topped x a b) = magnitude maxima [] x + max (length_magnitude maxima a) (length_magnitude maxima b)

abbrev pub length_normal : Length → Bool
length_normal (Plain x) = is_normal x
length_normal (topped x a b) = is_normal x && (length_normal a && length_normal b)

abbrev pub length_small : List ℕ → Limited Length → Bool
length_small maxima (Ok l) = length_normal l && nat_le (length_magnitude maxima l) largest_index
length_small maxima (Err e) = false

abbrev pub expression_small : List ℕ → Expression → Bool
expression_small maxima (Index i) = is_small maxima i
expression_small maxima (Scratch l) = length_small maxima l

-- the first that is not
abbrev pub large_fault : List ℕ → ℕ → List Expression → Verdict
large_fault maxima k [] = None
large_fault maxima k (x ∷ xs) = if expression_small maxima x then large_fault maxima (k + 1) xs else Some (IndexTooLarge k)

-- the marks

-- the child of this number
abbrev pub child_at : ℕ → Term → Option Term
child_at k e = option_map (λ u. u.term) (slice_get (children (record { index = 0; tensor = 0 }) e) k)

abbrev pub part_at : List ℕ → Term → Option Term
part_at [] e = Some e
part_at (k ∷ ks) e = option_and_then (part_at ks) (child_at k e)

abbrev pub begins : List ℕ → List ℕ → Bool
begins [] ks = true
begins (j ∷ js) [] = false
begins (j ∷ js) (k ∷ ks) = (j == k) && begins js ks

-- one stands at or inside the other
abbrev pub nested : Path → Path → Bool
nested p q = (p.output == q.output) && (begins p.steps q.steps || begins q.steps p.steps)

abbrev pub any_nested : Path → List Path → Bool
any_nested p [] = false
any_nested p (q ∷ qs) = nested p q || any_nested p qs

abbrev pub part_of_output : Option OutputDecl → List ℕ → Option Term
part_of_output None ks = None
part_of_output (Some o) ks = part_at ks o.term

abbrev pub marked_part : Module → Path → Option Term
marked_part m p = part_of_output (slice_get m.outputs p.output) p.steps

-- what each turn of a gen computes
abbrev pub gen_body : Term → Option Term
gen_body (gen n e) = Some e
gen_body _ = None

-- where there is the body of a gen, which may stand at, inside or around one that is marked before
abbrev pub mark_fault_at : Path → Bool → Option Term → Verdict
mark_fault_at p within None = Some (ParallelNotGen p)
mark_fault_at p within (Some e) = if has_let e then Some (LetInParallel p) else (if within then Some (NestedParallel p) else None)

-- in order, each against those before it
abbrev pub mark_fault : Module → List Path → List Path → Verdict
mark_fault m before [] = None
mark_fault m before (p ∷ ps) =
    or_else (mark_fault_at p (any_nested p before) (option_and_then gen_body (marked_part m p))) (mark_fault m (before ++ p ∷ []) ps)

-- acceptance, or the first fault
abbrev pub final_fault : Module → List FinalLine → List Path → Verdict
final_fault m finals marks =
    or_else (form_fault 0 m.outputs (input_shapes m))
    (or_else (line_fault (length (module_goals m)) 0 1 finals)
    (or_else (goal_fault finals 1 (module_goals m))
    (or_else (large_fault (maxima m) 1 (printed m)) (mark_fault m [] marks))))
