-- What is owed to the loops of a term where it is lowered: bounds, tests and places are computed, and extents are those of the meaning.
use Rattle.std.specs.Prelude.{◌≡◌, ℕ, ◌+◌, ◌-◌, ◌<◌, ◌≤◌, ◌^◌, true, List, [], ◌∷◌, ◌++◌, length, Option, Some, None, pos}
use Rattle.affine_index.specs.Condition.{all_hold}
use Rattle.affine_index.specs.Normal.{is_ordered}
use Rattle.affine_index.specs.declared.form.Items.{Items}
use Rattle.term_tree.specs.declared.term.Term.{Term, Lit, TVar, WordOf}
use Rattle.term_tree.specs.Syntax.{index, gen, sum, guard, let_in, add, sub, mul, concat, flatten, split, transpose, trunc_l, trunc_r, pad_l, pad_r}
use Rattle.term_tree.specs.Meaning.{extent, dims, head_of, tail_of}
use Rattle.term_tree.specs.Modules.{extents_at}
use Rattle.term_tree.specs.Shape.{Extents}
use Rattle.term_tree.specs.Shaped.{word_count}
use Rattle.loop_lang.specs.Reckoning.{Value, reckon}
use Rattle.index_trees.specs.Tree.{index_tree}
use Rattle.final_rules.specs.declared.read.Read.{Read}
use Rattle.final_rules.specs.Form.{read_under, one_deeper, adds_words}
use Rattle.final_rules.specs.Owed.{either, EachExactly, ReadFits, WordFits}
use Rattle.final_rules.specs.declared.spot.Around.TheVariants.{Swapped, Tiled, Later, Without}
use Rattle.final_rules.specs.Places.{Place, shapes, shape_at, first_of, rest_of, in_gen, in_sum, in_guard, under_node, in_definition, in_body}
use Rattle.final_rules.specs.Places.{on_right, in_flatten, in_truncr, free_after, length_form, store_form}
use Rattle.lowering_laws.specs.Sending.{sends}

-- forms whose items stand in the order of normal forms
abbrev pub AllOrdered : List Items → Type 0
AllOrdered [] = Unit {0}
AllOrdered (x ∷ xs) = (is_ordered x ≡ true) × AllOrdered xs

-- each tensor variable of a word is one of so many
abbrev pub VarsThere : Term → ℕ → Type 0
VarsThere (TVar q) n = q < n
VarsThere (index e x) n = VarsThere e n
VarsThere (guard c e) n = VarsThere e n
VarsThere (add a b) n = VarsThere a n × VarsThere b n
VarsThere (sub a b) n = VarsThere a n × VarsThere b n
VarsThere (mul a b) n = VarsThere a n × VarsThere b n
VarsThere _ n = Unit {0}

module _ (s : List ℕ) where
  -- the leaf is not dropped, and the printed place is the buffer's offset and the place that it is sent to
  abbrev pub StorePlaced : Place → List ℕ → Type 0
  StorePlaced p r =
      (q : ℕ) × (sends (extents_at p.target.extents s) s r p.spot.around [] ≡ Some q)
      × (reckon (index_tree (length r) (store_form p)) s r ≡ Value (pos (extent p.target.offset s + q)))

  -- r: loop variables from the outermost, y: index variables from the innermost; ds: extents of the tensor variables
  abbrev pub LeafOwes : Term → Place → List ℕ → List ℕ → List (List ℕ) → Type 0
  LeafOwes e p r y ds = StorePlaced p r × WordFits s e p r y × (dims e s ds ≡ []) × VarsThere e (length ds)

  -- the bound is computed, and each turn is owed
  abbrev pub TurnsOwe : Items → List ℕ → List ℕ → (List ℕ → List ℕ → Type 0) → Type 0
  TurnsOwe n r y P = (reckon (index_tree (length r) n) s r ≡ Value (pos (extent n s))) × ((i : ℕ) → i < extent n s → P (r ++ i ∷ []) (i ∷ y))

  -- a loop for each extent, and the full read inside
  abbrev pub FullReadOwes : Extents → Read → Place → List ℕ → List ℕ → Type 0
  FullReadOwes [] d p r y = StorePlaced p r × ReadFits s d p r y
  FullReadOwes (n ∷ ns) d p r y = TurnsOwe n r y (FullReadOwes ns (one_deeper d) (in_gen n p))

  abbrev pub FullReadOwesIf : Extents → Option Read → Place → List ℕ → List ℕ → Type 0
  FullReadOwesIf ns None p r y = ⊥
  FullReadOwesIf ns (Some d) p r y = AllOrdered d.indices × FullReadOwes ns d p r y

  -- a read that is stored has the extents of its meaning
  abbrev pub ReadOwes : Term → Place → List ℕ → List ℕ → List (List ℕ) → Type 0
  ReadOwes e p r y ds =
      (extents_at (shape_at e p) s ≡ dims e s ds) × VarsThere e (length ds) × FullReadOwesIf (shape_at e p) (read_under e []) p r y

  -- the tensor of a let has its place behind those around it
  abbrev pub LetOwes : Term → Place → List ℕ → List (List ℕ) → Type 0
  LetOwes a p r ds =
      (reckon (index_tree (length r) p.free) s r ≡ Value (pos (extent p.free s)))
      × (reckon (index_tree (length r) (length_form (shape_at a p))) s r ≡ Value (pos (word_count (dims a s ds))))
      × (extents_at (shape_at a p) s ≡ dims a s ds) × (extent (free_after a p) s ≡ extent p.free s + word_count (dims a s ds))
      × (extent p.free s + word_count (dims a s ds) < 2 ^ 63)

  abbrev pub Owes : Term → Place → List ℕ → List ℕ → List (List ℕ) → Type 0
  Owes (Lit w) p r y ds = LeafOwes (Lit w) p r y ds
  Owes (WordOf x) p r y ds = LeafOwes (WordOf x) p r y ds
  Owes (TVar q) p r y ds = ReadOwes (TVar q) p r y ds
  Owes (index e x) p r y ds = ReadOwes (index e x) p r y ds
  Owes (gen n e) p r y ds = TurnsOwe n r y (λ r' y'. Owes e (in_gen n p) r' y' ds)
  Owes (sum n e) p r y ds = TurnsOwe n r y (λ r' y'. Owes e (in_sum n p) r' y' ds)
  Owes (guard c e) p r y ds = EachExactly s c.all r y × (all_hold s y c.all ≡ true → Owes e (in_guard c p) r y ds)
  Owes (let_in a b) p r y ds = LetOwes a p r ds × Owes a (in_definition a p) r y ds × Owes b (in_body a p) r y (dims a s ds ∷ ds)
  Owes (add a b) p r y ds = either (adds_words a b (shapes p)) (LeafOwes (add a b) p r y ds) (Owes a p r y ds × Owes b p r y ds)
  Owes (sub a b) p r y ds = LeafOwes (sub a b) p r y ds
  Owes (mul a b) p r y ds = LeafOwes (mul a b) p r y ds
  Owes (concat a b) p r y ds = (extent (first_of (shape_at a p)) s ≡ head_of (dims a s ds)) × Owes a p r y ds × Owes b (on_right a p) r y ds
  Owes (flatten e) p r y ds = (extent (first_of (rest_of (shape_at e p))) s ≡ head_of (tail_of (dims e s ds))) × Owes e (in_flatten e p) r y ds
  Owes (split k e) p r y ds = (0 < k) × Owes e (under_node (Tiled k) p) r y ds
  Owes (transpose e) p r y ds = Owes e (under_node Swapped p) r y ds
  Owes (trunc_l a e) p r y ds = Owes e (under_node (Without a) p) r y ds
  Owes (trunc_r a e) p r y ds = (extent (first_of (shape_at (trunc_r a e) p)) s ≡ head_of (dims e s ds) - extent a s) × Owes e (in_truncr a e p) r y ds
  Owes (pad_l a e) p r y ds = Owes e (under_node (Later a) p) r y ds
  Owes (pad_r a e) p r y ds = Owes e p r y ds

-- in a region of so many words, of which there may be none, those from k on are enough for the lets of a term
module _ (s : List ℕ) (many l : ℕ) where
  abbrev pub Room : Term → List (List ℕ) → ℕ → Type 0
  Room (Lit w) ds k = Unit {0}
  Room (TVar q) ds k = Unit {0}
  Room (WordOf x) ds k = Unit {0}
  Room (index e x) ds k = Unit {0}
  Room (gen n e) ds k = Room e ds k
  Room (sum n e) ds k = Room e ds k
  Room (guard c e) ds k = Room e ds k
  Room (let_in a b) ds k =
      (0 < many) × (k + word_count (dims a s ds) ≤ l) × Room a ds (k + word_count (dims a s ds)) × Room b (dims a s ds ∷ ds) (k + word_count (dims a s ds))
  Room (add a b) ds k = Room a ds k × Room b ds k
  Room (sub a b) ds k = Unit {0}
  Room (mul a b) ds k = Unit {0}
  Room (concat a b) ds k = Room a ds k × Room b ds k
  Room (flatten e) ds k = Room e ds k
  Room (split n e) ds k = Room e ds k
  Room (transpose e) ds k = Room e ds k
  Room (trunc_l n e) ds k = Room e ds k
  Room (trunc_r n e) ds k = Room e ds k
  Room (pad_l n e) ds k = Room e ds k
  Room (pad_r n e) ds k = Room e ds k
