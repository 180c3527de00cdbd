-- The frames around each node in a store position are good.
use Rattle.std.specs.Prelude.{ℕ, ◌<◌, List, [], ◌∷◌, All}
use Rattle.fact_list.specs.declared.facts.PathFact.TheVariants.{Bound, Holds}
use Rattle.reindexer.specs.Good.{GoodFrames}
use Rattle.shape_rules.specs.Meant.{input_extents}
use Rattle.term_tree.specs.declared.term.Module.{Module}
use Rattle.term_tree.specs.declared.term.Term.{Term, Lit, TVar, WordOf}
use Rattle.term_tree.specs.Syntax.{index, gen, sum, guard, let_in, add, sub, mul, concat, flatten, split, transpose, trunc_l, trunc_r, pad_l, pad_r}
use Rattle.term_tree.specs.Meaning.{dims, extent}
use Rattle.term_tree.specs.Modules.{Allowed, IsSound, input_shapes}
use Rattle.term_tree.specs.Shape.{Extents}
use Rattle.final_rules.specs.declared.spot.Around.TheVariants.{Swapped, Tiled, Later, Without}
use Rattle.final_rules.specs.declared.spot.Spot.{Spot}
use Rattle.final_rules.specs.Places.{alone, before_end, extents_under, frames_of, inside, joined_by, on_path, one_gen, right_of}
use Rattle.final_rules.specs.Rules.{output_spot}

module _ (s : List ℕ) where
  -- the frames around a node send its tuples, one to one, to tuples of the buffer; y: index variables from the innermost, ds: the extents of the tensor
  -- variables, es: those of the buffer
  abbrev pub FramesHere : Term → Spot → List ℕ → List (List ℕ) → List ℕ → Type 0
  FramesHere e q y ds es = GoodFrames s y (frames_of q) (dims e s ds) es

  -- so around each node in a store position, at each turn of the loops around it
  abbrev pub NodesGood : Term → Spot → List Extents → List ℕ → List (List ℕ) → List ℕ → Type 0
  NodesGood (Lit w) q ts y ds es = FramesHere (Lit w) q y ds es
  NodesGood (WordOf x) q ts y ds es = FramesHere (WordOf x) q y ds es
  NodesGood (TVar v) q ts y ds es = FramesHere (TVar v) q y ds es
  NodesGood (index e x) q ts y ds es = FramesHere (index e x) q y ds es
  NodesGood (gen n e) q ts y ds es = FramesHere (gen n e) q y ds es × ((i : ℕ) → i < extent n s → NodesGood e (one_gen n q) ts (i ∷ y) ds es)
  NodesGood (sum n e) q ts y ds es = FramesHere (sum n e) q y ds es × ((i : ℕ) → i < extent n s → NodesGood e (on_path (Bound n) q) ts (i ∷ y) ds es)
  NodesGood (guard c e) q ts y ds es = FramesHere (guard c e) q y ds es × NodesGood e (on_path (Holds c) q) ts y ds es
  NodesGood (let_in a b) q ts y ds es =
      FramesHere (let_in a b) q y ds es × NodesGood a (alone q) ts y ds (dims a s ds) × NodesGood b q (extents_under a ts ∷ ts) y (dims a s ds ∷ ds) es
  NodesGood (add a b) q ts y ds es = FramesHere (add a b) q y ds es × NodesGood a q ts y ds es × NodesGood b q ts y ds es
  NodesGood (sub a b) q ts y ds es = FramesHere (sub a b) q y ds es
  NodesGood (mul a b) q ts y ds es = FramesHere (mul a b) q y ds es
  NodesGood (concat a b) q ts y ds es =
      FramesHere (concat a b) q y ds es × NodesGood a q ts y ds es × NodesGood b (inside (right_of a ts) q) ts y ds es
  NodesGood (flatten e) q ts y ds es = FramesHere (flatten e) q y ds es × NodesGood e (inside (joined_by e ts) q) ts y ds es
  NodesGood (split k e) q ts y ds es = FramesHere (split k e) q y ds es × NodesGood e (inside (Tiled k) q) ts y ds es
  NodesGood (transpose e) q ts y ds es = FramesHere (transpose e) q y ds es × NodesGood e (inside Swapped q) ts y ds es
  NodesGood (trunc_l a e) q ts y ds es = FramesHere (trunc_l a e) q y ds es × NodesGood e (inside (Without a) q) ts y ds es
  NodesGood (trunc_r a e) q ts y ds es = FramesHere (trunc_r a e) q y ds es × NodesGood e (inside (before_end a e ts) q) ts y ds es
  NodesGood (pad_l a e) q ts y ds es = FramesHere (pad_l a e) q y ds es × NodesGood e (inside (Later a) q) ts y ds es
  NodesGood (pad_r a e) q ts y ds es = FramesHere (pad_r a e) q y ds es × NodesGood e q ts y ds es

-- so in each output of a sound module at allowed sizes
abbrev pub SoundFramesAreGood : Type 0
SoundFramesAreGood =
    (m : Module) → IsSound m → (s : List ℕ) → Allowed m s
    → All (λ o. NodesGood s o.term output_spot (input_shapes m) [] (input_extents m s) (dims o.term s (input_extents m s))) m.outputs
