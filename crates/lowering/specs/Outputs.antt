-- The loops of the outputs.
use Rattle.std.specs.Prelude.{◌≡◌, All, IsOk, ℕ, ◌+◌, false, List, [], ◌∷◌, ◌++◌, map, pos, true}
use Rattle.affine_index.specs.Form.{literal_form}
use Rattle.index_trees.specs.Tree.{index_tree}
use Rattle.loop_lang.specs.declared.stmt.Stmt.{Stmt}
use Rattle.loop_lang.specs.declared.stmt.Stmt.TheVariants.{Zero}
use Rattle.loop_lang.specs.declared.word.Buf.TheVariants.{Output}
use Rattle.region_plan.specs.Needed.{module_needed, words_form}
use Rattle.region_plan.specs.Shaped.{IsShaped}
use Rattle.shape_rules.specs.Scopes.{all_free, each_free, given}
use Rattle.shape_rules.specs.Fits.{LiteralsFit}
use Rattle.term_tree.specs.declared.term.InputDecl.{InputDecl}
use Rattle.term_tree.specs.declared.term.Module.{Module}
use Rattle.term_tree.specs.declared.term.OutputDecl.{OutputDecl}
use Rattle.term_tree.specs.declared.term.Path.{Path}
use Rattle.term_tree.specs.declared.term.Term.{Term}
use Rattle.term_tree.specs.Modules.{IsSound, input_shapes}
use Rattle.term_tree.specs.Shape.{Extents}
use Rattle.final_rules.specs.declared.printing.Scene.{Scene}
use Rattle.final_rules.specs.Places.{extents_under}
use Rattle.final_rules.specs.Printed.{printed_of}
use Rattle.final_rules.specs.Rules.{any_let, output_spot}
use Rattle.lowering_laws.specs.Lowered.{words_tree}
use Rattle.lowering_laws.specs.Marks.{Marks, output_marks}
use Rattle.lowering.specs.declared.node.Node.{Node}
use Rattle.lowering.specs.declared.node.Room.{Room}
use Rattle.lowering.specs.declared.node.Target.{Target}
use Rattle.lowering.specs.Made.{AllMade, IsMade}
use Rattle.lowering.specs.Nodes.{loops_in, place_of}

-- outside all lets, scratch is free from its start
abbrev pub no_room : Room
no_room = record { base = literal_form (pos 0); above = literal_form (pos 0) }

abbrev pub output_target : ℕ → Extents → Target
output_target j ns = record { buffer = Output j; extents = ns; offset = literal_form (pos 0) }

abbrev pub output_node : Marks → Node
output_node ms = record { adds = false; spot = output_spot; marks = ms }

-- an output put to 0
abbrev pub cleared_words : ℕ → Extents → Stmt
cleared_words j ns = Zero (Output j) (index_tree 0 (literal_form (pos 0))) (words_tree ns)

-- the fill and the loops of output number j
abbrev pub output_in : Scene → List Path → ℕ → Term → List Stmt
output_in sc paths j e =
    cleared_words j (extents_under e (given sc.shapes))
    ∷ loops_in sc (output_target j (extents_under e (given sc.shapes))) no_room (output_node (output_marks j paths)) e

-- those of outputs from number j on
abbrev pub outputs_in : Scene → List Path → List OutputDecl → ℕ → List Stmt
outputs_in sc paths [] j = []
outputs_in sc paths (o ∷ os) j = output_in sc paths j o.term ++ outputs_in sc paths os (j + 1)

-- an output has a shape, and no index that is printed for it breaks a limit
pub record OutputReady (sc : Scene) (e : Term) : Type 0 where
  pub shaped : IsShaped sc.shapes e
  pub words : IsMade (words_form (extents_under e (given sc.shapes)))
  pub made : AllMade (printed_of e (place_of sc (output_target 0 (extents_under e (given sc.shapes))) no_room (output_node [])))

-- the extents of a tensor hold no index variable, and its length breaks no limit
abbrev pub LengthReady : Extents → Type 0
LengthReady ns = (each_free ns ≡ true) × IsMade (words_form ns)

-- the shapes of inputs alone
abbrev pub outer_scene : List InputDecl → Scene
outer_scene ds = record { shapes = record { lets = []; inputs = map (λ d. d.extents) ds }; offsets = [] }

-- the shapes of lets and inputs have been looked at, and no printed index of the module breaks a limit
pub record ModuleReady (m : Module) : Type 0 where
  pub sound : IsSound m
  pub free : all_free (input_shapes m) ≡ true
  pub inputs : All (λ d. LengthReady d.extents) m.inputs
  pub outputs : All (λ o. OutputReady (outer_scene m.inputs) o.term) m.outputs
  pub scratch : any_let m.outputs ≡ true → IsOk (module_needed m)

-- each literal of the outputs is below 2^64
abbrev pub LiteralsEach : List OutputDecl → Type 0
LiteralsEach [] = Unit {0}
LiteralsEach (o ∷ os) = LiteralsFit o.term × LiteralsEach os
