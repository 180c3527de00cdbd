-- What a term in final form owes the loops that it becomes: at the sizes and at each turn that is reached, bounds, tests and
-- places are computed exactly, reads are in range, and no truncation drops what is stored.
use Rattle.std.specs.Prelude.{◌≡◌, ℕ, ◌+◌, ◌<◌, ◌≤◌, Bool, true, false, List, [], ◌∷◌, ◌++◌, length, Option, Some, None, pos}
use Rattle.affine_index.specs.Condition.{all_hold, cmp_form}
use Rattle.affine_index.specs.Value.{items_value}
use Rattle.affine_index.specs.declared.cond.Cmp.{Cmp}
use Rattle.affine_index.specs.declared.form.Items.{Items}
use Rattle.term_tree.specs.declared.term.Term.{Term, Lit, TVar, WordOf}
use Rattle.term_tree.specs.Syntax.{index, gen, sum, guard, let_in, add, sub, mul, concat, flatten, split, transpose, trunc_l, trunc_r, pad_l, pad_r}
use Rattle.term_tree.specs.Meaning.{extent}
use Rattle.term_tree.specs.Shape.{Extents}
use Rattle.term_tree.specs.Shaped.{word_count}
use Rattle.term_tree.specs.Modules.{extents_at}
use Rattle.std.specs.Int.RustNames.{unsigned_abs}
use Rattle.affine_index.specs.declared.cond.Cmp.TheVariants.{Ge, Eq}
use Rattle.affine_index.specs.declared.cond.Rel.TheVariants.{Ge as AtLeast, Eq as Equal}
use Rattle.loop_lang.specs.declared.index.Iexp.{Lit as Number}
use Rattle.loop_lang.specs.declared.index.Test.{Test}
use Rattle.loop_lang.specs.Reckoning.{Value, reckon}
use Rattle.index_trees.specs.Tree.{index_tree}
use Rattle.reindexer.specs.Drops.{NoneDropped}
use Rattle.reindexer.specs.Sending.{Within, row_order}
use Rattle.final_rules.specs.declared.spot.Around.TheVariants.{Swapped, Tiled, Later, Without}
use Rattle.final_rules.specs.declared.read.Read.{Read}
use Rattle.final_rules.specs.Form.{read_under, one_deeper, adds_words}
use Rattle.final_rules.specs.Places.{Place, read_form, store_form, site_at, shapes, shape_at, in_gen, in_sum, in_guard, under_node, in_definition, in_body}
use Rattle.final_rules.specs.Places.{on_right, in_flatten, in_truncr, frames_at, length_form}
use Rattle.final_rules.specs.Printed.{largest_index}

-- indices and their values
abbrev pub Values : List ℕ → List Items → List ℕ → List ℕ → Type 0
Values s [] y [] = Unit {0}
Values s [] y (i ∷ ix) = ⊥
Values s (x ∷ xs) y [] = ⊥
Values s (x ∷ xs) y (i ∷ ix) = (items_value s y x ≡ pos i) × Values s xs y ix

-- one of two claims
abbrev pub either : Bool → Type 0 → Type 0 → Type 0
either true a b = a
either false a b = b

module _ (s : List ℕ) where
  -- the tree of a form computes its value, which is at most 2^62 in size; r: loop variables from the outermost, y: index variables from the innermost
  abbrev pub Exactly : Items → List ℕ → List ℕ → Type 0
  Exactly x r y = (reckon (index_tree (length r) x) s r ≡ Value (items_value s y x)) × (unsigned_abs (items_value s y x) ≤ largest_index)

  abbrev pub EachExactly : List Cmp → List ℕ → List ℕ → Type 0
  EachExactly [] r y = Unit {0}
  EachExactly (c ∷ cs) r y = Exactly (cmp_form c) r y × EachExactly cs r y

  -- its value is that number
  abbrev pub Numbered : Items → ℕ → List ℕ → List ℕ → Type 0
  Numbered x k r y = (reckon (index_tree (length r) x) s r ≡ Value (pos k)) × (k ≤ largest_index)

  -- the indices have values within the extents, and the printed place is the tensor's offset plus their row-order place
  abbrev pub ReadFits : Read → Place → List ℕ → List ℕ → Type 0
  ReadFits d p r y =
      (ix : List ℕ) × Values s d.indices y ix × Within (extents_at (site_at p d.var).extents s) ix
      × Numbered (read_form d p) (extent (site_at p d.var).offset s + row_order (extents_at (site_at p d.var).extents s) ix) r y

  abbrev pub ReadFitsIf : Option Read → Place → List ℕ → List ℕ → Type 0
  ReadFitsIf None p r y = ⊥
  ReadFitsIf (Some d) p r y = ReadFits d p r y

  abbrev pub WordFits : Term → Place → List ℕ → List ℕ → Type 0
  WordFits (Lit w) p r y = Unit {0}
  WordFits (WordOf x) p r y = Exactly x r y
  WordFits (TVar q) p r y = ReadFitsIf (read_under (TVar q) []) p r y
  WordFits (index e x) p r y = ReadFitsIf (read_under (index e x) []) p r y
  WordFits (guard c e) p r y = EachExactly c.all r y × (all_hold s y c.all ≡ true → WordFits e (in_guard c p) r y)
  WordFits (add a b) p r y = WordFits a p r y × WordFits b p r y
  WordFits (sub a b) p r y = WordFits a p r y × WordFits b p r y
  WordFits (mul a b) p r y = WordFits a p r y × WordFits b p r y
  WordFits _ p r y = ⊥

  -- no frame drops the leaf, and its place is exact
  abbrev pub StoreFits : Place → List ℕ → List ℕ → Type 0
  StoreFits p r y = NoneDropped s y (frames_at p) [] × Exactly (store_form p) r y

  abbrev pub LeafFits : Term → Place → List ℕ → List ℕ → Type 0
  LeafFits e p r y = StoreFits p r y × WordFits e p r y

  -- under a loop: the bound is exact, and each turn fits
  abbrev pub Turns : Items → List ℕ → List ℕ → (List ℕ → List ℕ → Type 0) → Type 0
  Turns n r y P = Numbered n (extent n s) r y × ((i : ℕ) → i < extent n s → P (r ++ i ∷ []) (i ∷ y))

  abbrev pub FullReadFits : Extents → Read → Place → List ℕ → List ℕ → Type 0
  FullReadFits [] d p r y = StoreFits p r y × ReadFits d p r y
  FullReadFits (n ∷ ns) d p r y = Turns n r y (FullReadFits ns (one_deeper d) (in_gen n p))

  abbrev pub FullReadFitsIf : Extents → Option Read → Place → List ℕ → List ℕ → Type 0
  FullReadFitsIf ns None p r y = ⊥
  FullReadFitsIf ns (Some d) p r y = FullReadFits ns d p r y

  abbrev pub Fits : Term → Place → List ℕ → List ℕ → Type 0
  Fits (Lit w) p r y = LeafFits (Lit w) p r y
  Fits (WordOf x) p r y = LeafFits (WordOf x) p r y
  Fits (TVar q) p r y = FullReadFitsIf (shape_at (TVar q) p) (read_under (TVar q) []) p r y
  Fits (index e x) p r y = FullReadFitsIf (shape_at (index e x) p) (read_under (index e x) []) p r y
  Fits (gen n e) p r y = Turns n r y (Fits e (in_gen n p))
  Fits (sum n e) p r y = Turns n r y (Fits e (in_sum n p))
  Fits (guard c e) p r y = EachExactly c.all r y × (all_hold s y c.all ≡ true → Fits e (in_guard c p) r y)
  Fits (let_in a b) p r y = (Numbered p.free (extent p.free s) r y × Numbered (length_form (shape_at a p)) (word_count (extents_at (shape_at a p) s)) r y)
      × Fits a (in_definition a p) r y × Fits b (in_body a p) r y
  Fits (add a b) p r y = either (adds_words a b (shapes p)) (LeafFits (add a b) p r y) (Fits a p r y × Fits b p r y)
  Fits (sub a b) p r y = LeafFits (sub a b) p r y
  Fits (mul a b) p r y = LeafFits (mul a b) p r y
  Fits (concat a b) p r y = Fits a p r y × Fits b (on_right a p) r y
  Fits (flatten e) p r y = Fits e (in_flatten e p) r y
  Fits (split k e) p r y = Fits e (under_node (Tiled k) p) r y
  Fits (transpose e) p r y = Fits e (under_node Swapped p) r y
  Fits (trunc_l a e) p r y = Fits e (under_node (Without a) p) r y
  Fits (trunc_r a e) p r y = Fits e (in_truncr a e p) r y
  Fits (pad_l a e) p r y = Fits e (under_node (Later a) p) r y
  Fits (pad_r a e) p r y = Fits e p r y

-- the tests of a condition: each form against 0
abbrev pub test_of : ℕ → Cmp → Test
test_of loops (Ge x) = record { left = index_tree loops x; rel = AtLeast; right = Number (pos 0) }
test_of loops (Eq x) = record { left = index_tree loops x; rel = Equal; right = Number (pos 0) }

abbrev pub tests_of : ℕ → List Cmp → List Test
tests_of loops [] = []
tests_of loops (c ∷ cs) = test_of loops c ∷ tests_of loops cs
