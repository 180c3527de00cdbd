-- What a walk knows at a node, and the place and the context that it stands for.
use Rattle.std.specs.Prelude.{◌≡◌, ◌⊎◌, ℕ, ◌+◌, Bool, true, false, List, [], ◌∷◌, map}
use Rattle.affine_index.specs.declared.cond.Cond.{Cond}
use Rattle.affine_index.specs.declared.form.Items.{Items}
use Rattle.affine_index.specs.Sum.{sum_of}
use Rattle.fact_list.specs.Facts.{binders}
use Rattle.index_trees.specs.Tree.{index_tree}
use Rattle.loop_lang.specs.declared.stmt.Stmt.{Stmt}
use Rattle.loop_lang.specs.declared.stmt.Stmt.TheVariants.{Seq, For, If, Zero}
use Rattle.loop_lang.specs.Actions.{Mode, Puts, Adds}
use Rattle.loop_lang.specs.declared.word.Buf.{Buf}
use Rattle.loop_lang.specs.declared.word.Buf.TheVariants.{Input}
use Rattle.reindexer.specs.Ready.{frames_ready}
use Rattle.shape_rules.specs.Scopes.{given}
use Rattle.term_tree.specs.Shape.{Extents}
use Rattle.term_tree.specs.declared.term.Term.{Term}
use Rattle.term_tree.specs.Syntax.{gen, sum, guard, flatten, split, transpose, trunc_l, trunc_r, pad_l, pad_r}
use Rattle.final_rules.specs.declared.printing.Scene.{Scene}
use Rattle.final_rules.specs.declared.spot.Around.{Around}
use Rattle.final_rules.specs.Owed.{test_of}
use Rattle.final_rules.specs.Places.{Place, Site, alone, extents_under, frame_of, inside, length_form, right_of}
use Rattle.final_rules.specs.Printing.{scene_sites}
use Rattle.final_rules.specs.Steps.{child_spot}
use Rattle.lowering_laws.specs.Contexts.{Context, region}
use Rattle.lowering_laws.specs.Lowered.{loops_at}
use Rattle.lowering_laws.specs.Marks.{is_marked, through_child}
use Rattle.lowering.specs.declared.node.Definition.{Definition}
use Rattle.lowering.specs.declared.node.Node.{Node}
use Rattle.lowering.specs.declared.node.Room.{Room}
use Rattle.lowering.specs.declared.node.Target.{Target}

-- whether leaves add
abbrev pub mode_of : Bool → Mode
mode_of true = Adds
mode_of false = Puts

-- inputs from a number on, each in its own buffer
abbrev pub numbered : ℕ → List Extents → List Buf
numbered k [] = []
numbered k (ns ∷ rest) = Input k ∷ numbered (k + 1) rest

-- lets lie in the region
abbrev pub buffers_under : List Extents → List Extents → List Buf
buffers_under [] inputs = numbered 0 inputs
buffers_under (ns ∷ lets) inputs = region ∷ buffers_under lets inputs

abbrev pub scene_buffers : Scene → List Buf
scene_buffers sc = buffers_under sc.shapes.lets sc.shapes.inputs

-- where scratch is free
abbrev pub free_of : Room → Items
free_of r = sum_of r.base r.above

abbrev pub site_of : Target → Site
site_of tg = record { extents = tg.extents; offset = tg.offset }

abbrev pub place_of : Scene → Target → Room → Node → Place
place_of sc tg r nd = record { spot = nd.spot; sites = scene_sites sc; target = site_of tg; free = free_of r }

abbrev pub context_of : Scene → Target → Room → Node → Context
context_of sc tg r nd = record { place = place_of sc tg r nd; buffers = scene_buffers sc; target = tg.buffer; mode = mode_of nd.adds }

-- the part of a node with one
abbrev pub inner_node : Term → List Extents → Bool → Node → Node
inner_node f ts adds nd = record { adds = adds; spot = child_spot f ts nd.spot; marks = through_child 0 nd.marks }

-- a part that stands where its node does
abbrev pub part_node : ℕ → Bool → Node → Node
part_node k adds nd = record { adds = adds; spot = nd.spot; marks = through_child k nd.marks }

-- the right part of a concat
abbrev pub right_node : Term → List Extents → Node → Node
right_node a ts nd = record { adds = nd.adds; spot = inside (right_of a ts) nd.spot; marks = through_child 1 nd.marks }

-- the definition of a let
abbrev pub definition_node : Node → Node
definition_node nd = record { adds = false; spot = alone nd.spot; marks = through_child 0 nd.marks }

-- a let of these extents at an offset
abbrev pub under_let : Extents → Items → Scene → Scene
under_let ns offset sc = record {
  shapes = record { lets = ns ∷ sc.shapes.lets; inputs = sc.shapes.inputs };
  offsets = offset ∷ sc.offsets;
}

-- the nodes around a leaf have what the form of a place takes
abbrev pub around_ready : List Around → Bool
around_ready fs = frames_ready (map (frame_of 0) fs)

-- the definition of a let stands where scratch is free; both parts are planned behind it
abbrev pub definition_of : Scene → Room → Term → Definition
definition_of sc r a = record {
  target = record { buffer = region; extents = extents_under a (given sc.shapes); offset = free_of r };
  room = record { base = free_of r; above = length_form (extents_under a (given sc.shapes)) };
}

-- the loops of a term at a node
abbrev pub loops_in : Scene → Target → Room → Node → Term → List Stmt
loops_in sc tg r nd e = loops_at e (context_of sc tg r nd) nd.marks

-- the words of a let, put to 0 under so many loops
abbrev pub cleared_in : ℕ → Definition → Stmt
cleared_in loops d = Zero region (index_tree loops d.target.offset) (index_tree loops d.room.above)

-- a node with one part in a store position
abbrev pub IsPartOf : Term → Term → Type 0
IsPartOf f e = ((x : Items) × (f ≡ gen x e)) ⊎
    (((x : Items) × (f ≡ sum x e)) ⊎
    (((x : Cond) × (f ≡ guard x e)) ⊎
    ((f ≡ flatten e) ⊎
    (((x : ℕ) × (f ≡ split x e)) ⊎
    ((f ≡ transpose e) ⊎
    (((x : Items) × (f ≡ trunc_l x e)) ⊎
    (((x : Items) × (f ≡ trunc_r x e)) ⊎
    (((x : Items) × (f ≡ pad_l x e)) ⊎
    (((x : Items) × (f ≡ pad_r x e)))))))))))

-- one that gives no statement of its own
abbrev pub IsPlainPart : Term → Term → Type 0
IsPlainPart f e = (f ≡ flatten e) ⊎
    (((x : ℕ) × (f ≡ split x e)) ⊎
    ((f ≡ transpose e) ⊎
    (((x : Items) × (f ≡ trunc_l x e)) ⊎
    (((x : Items) × (f ≡ trunc_r x e)) ⊎
    (((x : Items) × (f ≡ pad_l x e)) ⊎
    (((x : Items) × (f ≡ pad_r x e))))))))

-- one that is a statement around those of its part, whose leaves add under a sum
abbrev pub IsEnclosing : Term → Term → Bool → Bool → Type 0
IsEnclosing f e around adds = ((x : Items) × (f ≡ gen x e) × (adds ≡ around)) ⊎
    (((x : Cond) × (f ≡ guard x e) × (adds ≡ around)) ⊎ ((x : Items) × (f ≡ sum x e) × (adds ≡ true)))

-- statements inside the one that a node is
abbrev pub enclosed_in : Node → Term → List Stmt → List Stmt
enclosed_in nd (gen n e) body = For (index_tree (binders nd.spot.path) n) (is_marked nd.marks) (Seq body) ∷ []
enclosed_in nd (sum n e) body = For (index_tree (binders nd.spot.path) n) false (Seq body) ∷ []
enclosed_in nd (guard c e) body = If (map (test_of (binders nd.spot.path)) c.all) (Seq body) ∷ []
enclosed_in nd _ body = body
