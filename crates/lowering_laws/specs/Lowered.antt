-- The loops that terms and modules in final form are lowered to.
use Rattle.std.specs.Prelude.{ℕ, ◌+◌, Bool, true, false, if◌then◌else◌, List, [], ◌∷◌, ◌++◌, length, map, Option, Some, None, pos, Ok, Err}
use Rattle.affine_index.specs.declared.form.Items.{Items}
use Rattle.affine_index.specs.Form.{literal_form}
use Rattle.term_tree.specs.declared.term.Term.{Term, Lit, TVar, WordOf}
use Rattle.term_tree.specs.Syntax.{index, gen, sum, guard, let_in, add, sub, mul, concat, flatten, split, transpose, trunc_l, trunc_r, pad_l, pad_r}
use Rattle.term_tree.specs.declared.term.InputDecl.{InputDecl}
use Rattle.term_tree.specs.declared.term.OutputDecl.{OutputDecl}
use Rattle.term_tree.specs.declared.term.Module.{Module}
use Rattle.term_tree.specs.declared.term.Path.{Path}
use Rattle.term_tree.specs.Shape.{Extents}
use Rattle.loop_lang.specs.declared.index.Iexp.{Iexp}
use Rattle.loop_lang.specs.declared.word.Buf.{Buf}
use Rattle.loop_lang.specs.declared.word.Buf.TheVariants.{Input, Output}
use Rattle.loop_lang.specs.declared.word.Wexp.{Wexp}
use Rattle.loop_lang.specs.declared.word.Wexp.TheVariants as word
use Rattle.loop_lang.specs.declared.stmt.Stmt.{Stmt}
use Rattle.loop_lang.specs.declared.stmt.Stmt.TheVariants.{Seq, For, If, Put, AddTo, Zero}
use Rattle.loop_lang.specs.declared.stmt.Prog.{Prog}
use Rattle.loop_lang.specs.Actions.{Mode, Puts, Adds}
use Rattle.index_trees.specs.Tree.{index_tree}
use Rattle.final_rules.specs.declared.read.Read.{Read}
use Rattle.final_rules.specs.Form.{read_under, one_deeper, adds_words}
use Rattle.final_rules.specs.Owed.{tests_of}
use Rattle.final_rules.specs.declared.spot.Around.TheVariants.{Swapped, Tiled, Later, Without}
use Rattle.final_rules.specs.Places.{shapes, shape_at, length_form, read_form, store_form}
use Rattle.reindexer.specs.Limited.{Limited}
use Rattle.region_plan.specs.declared.length.Length.{Length}
use Rattle.region_plan.specs.Length.{length_tree}
use Rattle.region_plan.specs.Needed.{module_needed, no_words}
use Rattle.final_rules.specs.Rules.{any_let, output_extents, output_place}
use Rattle.lowering_laws.specs.Marks.{Marks, output_marks, through_child, is_marked}
use Rattle.lowering_laws.specs.Contexts.{Context, buffer_at, depth, tree_at, into_gen, into_sum, into_guard, adding, region, into_definition, into_body}
use Rattle.lowering_laws.specs.Contexts.{onto_right, under_frame, into_flatten, into_truncr}

-- the load of a full read, at its place
abbrev pub loaded : Read → Context → Wexp
loaded d p = word.Load (buffer_at p d.var) (tree_at p (read_form d p.place))

abbrev pub loaded_if : Option Read → Context → Wexp
loaded_if None p = word.Lit 0
loaded_if (Some d) p = loaded d p

-- the word of a term in a scalar position; what is no word counts as 0
abbrev pub word_at : Term → Context → Wexp
word_at (Lit w) p = word.Lit w
word_at (WordOf x) p = word.OfIndex (tree_at p x)
word_at (TVar q) p = loaded_if (read_under (TVar q) []) p
word_at (index e x) p = loaded_if (read_under (index e x) []) p
word_at (guard c e) p = word.Choose (tests_of (depth p) c.all) (word_at e (into_guard c p)) (word.Lit 0)
word_at (add a b) p = word.Add (word_at a p) (word_at b p)
word_at (sub a b) p = word.Sub (word_at a p) (word_at b p)
word_at (mul a b) p = word.Mul (word_at a p) (word_at b p)
word_at _ p = word.Lit 0

-- a store of a mode
abbrev pub stored_by : Mode → Buf → Iexp → Wexp → Stmt
stored_by Puts b i w = Put b i w
stored_by Adds b i w = AddTo b i w

-- one word, stored at the place of the spot
abbrev pub stored : Context → Wexp → List Stmt
stored p w = stored_by p.mode p.target (tree_at p (store_form p.place)) w ∷ []

abbrev pub leaf : Term → Context → List Stmt
leaf e p = stored p (word_at e p)

-- a loop up to a form, whose body is one sequence
abbrev pub loop_to : Items → Bool → Context → List Stmt → List Stmt
loop_to n marked p body = For (tree_at p n) marked (Seq body) ∷ []

-- a read of these extents: a loop for each, and a full read inside
abbrev pub full_read : Extents → Read → Context → List Stmt
full_read [] d p = stored p (loaded d p)
full_read (n ∷ ns) d p = loop_to n false p (full_read ns (one_deeper d) (into_gen n p))

abbrev pub full_read_if : Extents → Option Read → Context → List Stmt
full_read_if ns None p = []
full_read_if ns (Some d) p = full_read ns d p

-- the words of a let, put to 0
abbrev pub cleared : Term → Context → Stmt
cleared a p = Zero region (tree_at p p.place.free) (tree_at p (length_form (shape_at a p.place)))

-- the statements of a term in a store position
abbrev pub loops_at : Term → Context → Marks → List Stmt
loops_at (Lit w) p ms = leaf (Lit w) p
loops_at (WordOf x) p ms = leaf (WordOf x) p
loops_at (TVar q) p ms = full_read_if (shape_at (TVar q) p.place) (read_under (TVar q) []) p
loops_at (index e x) p ms = full_read_if (shape_at (index e x) p.place) (read_under (index e x) []) p
loops_at (gen n e) p ms = loop_to n (is_marked ms) p (loops_at e (into_gen n p) (through_child 0 ms))
loops_at (sum n e) p ms = loop_to n false p (loops_at e (into_sum n p) (through_child 0 ms))
loops_at (guard c e) p ms = If (tests_of (depth p) c.all) (Seq (loops_at e (into_guard c p) (through_child 0 ms))) ∷ []
loops_at (let_in a b) p ms = cleared a p ∷ (loops_at a (into_definition a p) (through_child 0 ms) ++ loops_at b (into_body a p) (through_child 1 ms))
loops_at (add a b) p ms =
    if adds_words a b (shapes p.place) then leaf (add a b) p
    else (loops_at a (adding p) (through_child 0 ms) ++ loops_at b (adding p) (through_child 1 ms))
loops_at (sub a b) p ms = leaf (sub a b) p
loops_at (mul a b) p ms = leaf (mul a b) p
loops_at (concat a b) p ms = loops_at a p (through_child 0 ms) ++ loops_at b (onto_right a p) (through_child 1 ms)
loops_at (flatten e) p ms = loops_at e (into_flatten e p) (through_child 0 ms)
loops_at (split k e) p ms = loops_at e (under_frame (Tiled k) p) (through_child 0 ms)
loops_at (transpose e) p ms = loops_at e (under_frame Swapped p) (through_child 0 ms)
loops_at (trunc_l a e) p ms = loops_at e (under_frame (Without a) p) (through_child 0 ms)
loops_at (trunc_r a e) p ms = loops_at e (into_truncr a e p) (through_child 0 ms)
loops_at (pad_l a e) p ms = loops_at e (under_frame (Later a) p) (through_child 0 ms)
loops_at (pad_r a e) p ms = loops_at e p (through_child 0 ms)

-- each input lies in its own buffer
abbrev pub input_buffers : ℕ → List InputDecl → List Buf
input_buffers k [] = []
input_buffers k (d ∷ ds) = Input k ∷ input_buffers (k + 1) ds

-- output number j is put into its own buffer
abbrev pub output_spot : Module → OutputDecl → ℕ → Context
output_spot m o j = record { place = output_place m o; buffers = input_buffers 0 m.inputs; target = Output j; mode = Puts }

-- the printed length of a tensor of these extents
abbrev pub words_tree : Extents → Iexp
words_tree ns = index_tree 0 (length_form ns)

-- an output put to 0
abbrev pub cleared_output : Module → OutputDecl → ℕ → Stmt
cleared_output m o j = Zero (Output j) (index_tree 0 (literal_form (pos 0))) (words_tree (output_extents m o))

-- for each output from number j on a fill, and then its statements
abbrev pub outputs_loops : Module → List Path → List OutputDecl → ℕ → List Stmt
outputs_loops m marks [] j = []
outputs_loops m marks (o ∷ os) j = cleared_output m o j ∷ (loops_at o.term (output_spot m o j) (output_marks j marks) ++ outputs_loops m marks os (j + 1))

-- the number of scratch buffers, and their lengths
abbrev pub scratch_many : Bool → ℕ
scratch_many true = 1
scratch_many false = 0

-- the length of the scratch region; in no module that may be lowered it breaks a limit
abbrev pub region_length : Limited Length → Length
region_length (Ok l) = l
region_length (Err e) = no_words

abbrev pub scratch_lengths : Module → Bool → List Iexp
scratch_lengths m true = length_tree (region_length (module_needed m)) ∷ []
scratch_lengths m false = []

-- the program of a module, with the paths of its parallel gens
abbrev pub program_of : Module → List Path → Prog
program_of m marks = record {
  sizes = length m.sizes;
  inputs = length m.inputs;
  outputs = length m.outputs;
  scratch = scratch_many (any_let m.outputs);
  lengths = map (λ d. words_tree d.extents) m.inputs ++ (map (λ o. words_tree (output_extents m o)) m.outputs ++ scratch_lengths m (any_let m.outputs));
  body = Seq (outputs_loops m marks m.outputs 0);
}

-- the same, under a name that stays closed
unfoldable pub loops_of : Module → List Path → Prog
loops_of m marks = program_of m marks
