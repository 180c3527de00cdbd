-- Where a node is reached: the loops around it, and the amounts of the nodes around it.
use Rattle.std.proofs.Common.{◌≡◌, ℕ, zero, suc, ◌-◌, ◌<◌, List, [], ◌∷◌, ◌++◌, length, map, get_or, Some, sym, ap, ◌∙◌, arith}
use Rattle.std.proofs.Common.{length-append}
use Rattle.std.proofs.lemmas.List.{get_or_append_left, get_or_at}
use Rattle.affine_index.specs.declared.cond.Cond.{Cond}
use Rattle.affine_index.specs.declared.form.Items.{Items}
use Rattle.fact_list.specs.Facts.{binders}
use Rattle.fact_list.specs.declared.facts.PathFact.TheVariants.{Bound, Holds}
use Rattle.index_trees.specs.Value.{AreTurns}
use Rattle.reindexer.specs.Good.{GoodFrames}
use Rattle.reindexer.specs.Sending.{Sending, Within, sent}
use Rattle.term_tree.specs.Meaning.{extent}
use Rattle.final_rules.specs.declared.spot.Around.{Around}
use Rattle.final_rules.specs.declared.spot.Spot.{Spot}
use Rattle.final_rules.specs.Places.{alone, frame_of, frames_of, inside, on_path, one_gen}
use Rattle.final_rules.proofs.Walk.{binders-bound, binders-holds}
use Rattle.lowering_laws.specs.Sending.{goes}
use Rattle.lowering_laws.proofs.Going.{Amounts, goes-more, goes-sent}
use Rattle.lowering_laws.proofs.Right.{LoopsBelow, loops_more}

module _ (s : List ℕ) where
  -- reached at loop variables r from the outermost, which are the index variables y from the innermost
  pub record Turning (q : Spot) (r y : List ℕ) : Type 0 where
    pub turns : AreTurns r y
    pub depth : length r ≡ binders q.path
    pub below : LoopsBelow (length r) q.around
    pub amounts : Amounts s q.around

  -- tuples within ds that go anywhere go to tuples within es
  abbrev pub Lands : List ℕ → List ℕ → Sending (List ℕ) → Type 0
  Lands es ds f = (ix jx : List ℕ) → Within ds ix → f ix ≡ Some jx → Within es jx

  -- frames send tuples where the nodes do
  pub frames-go : {A : Type 0} (q : Spot) (r y : List ℕ) (f : Sending A) → Turning q r y → sent s y (frames_of q) f ≡ goes s r q.around f
  frames-go q r y f t = ap (λ b. sent s y (map (frame_of b) q.around) f) (sym t.depth) ∙ goes-sent s r y q.around f t.turns t.below t.amounts

  pub good-lands : (q : Spot) (r y ds es : List ℕ) → Turning q r y → GoodFrames s y (frames_of q) ds es → Lands es ds (goes s r q.around Some)
  good-lands q r y ds es t g = λ ix jx w e. g.lies ix jx w (ap (λ f. f ix) (frames-go q r y Some t) ∙ e)

  more-turns : (r y : List ℕ) (i : ℕ) → AreTurns r y → AreTurns (r ++ i ∷ []) (i ∷ y)
  more-turns r y i t zero l = sym (get_or_at r i [] 0 (length (r ++ i ∷ []) - 1 - 0) (omega (arith, length-append r (i ∷ []))))
  more-turns r y i t (suc v) l =
      let b : v < length r = omega (arith, l, length-append r (i ∷ [])) in
      let d : length (r ++ i ∷ []) - 1 - suc v ≡ length r - 1 - v = omega (arith, length-append r (i ∷ [])) in
      t v b ∙ sym (get_or_append_left r (i ∷ []) 0 (length r - 1 - v) (omega (arith, b))) ∙ ap (λ k. get_or (r ++ i ∷ []) k 0) (sym d)

  one-longer : (r : List ℕ) (i : ℕ) → length (r ++ i ∷ []) ≡ suc (length r)
  one-longer r i = length-append r (i ∷ []) ∙ omega arith

  more-below : (r : List ℕ) (i : ℕ) (fs : List Around) → LoopsBelow (length r) fs → LoopsBelow (length (r ++ i ∷ [])) fs
  more-below r i fs h = loops_more (length r) (length (r ++ i ∷ [])) fs (omega (arith, one-longer r i)) h

  pub turn-sum : (q : Spot) (n : Items) (r y : List ℕ) (i : ℕ) → Turning q r y → Turning (on_path (Bound n) q) (r ++ i ∷ []) (i ∷ y)
  turn-sum q n r y i t = record {
    turns = more-turns r y i t.turns;
    depth = one-longer r i ∙ ap suc t.depth ∙ sym (binders-bound q.path n);
    below = more-below r i q.around t.below;
    amounts = t.amounts;
  }

  pub turn-gen : (q : Spot) (n : Items) (r y : List ℕ) (i : ℕ) → Turning q r y → Turning (one_gen n q) (r ++ i ∷ []) (i ∷ y)
  turn-gen q n r y i t = record {
    turns = more-turns r y i t.turns;
    depth = one-longer r i ∙ ap suc t.depth ∙ sym (binders-bound q.path n);
    below = (omega (arith, one-longer r i, t.depth), more-below r i q.around t.below);
    amounts = t.amounts;
  }

  pub turn-guard : (q : Spot) (c : Cond) (r y : List ℕ) → Turning q r y → Turning (on_path (Holds c) q) r y
  turn-guard q c r y t = record { turns = t.turns; depth = t.depth ∙ sym (binders-holds q.path c); below = t.below; amounts = t.amounts }

  pub turn-alone : (q : Spot) (r y : List ℕ) → Turning q r y → Turning (alone q) r y
  turn-alone q r y t = record { turns = t.turns; depth = t.depth; below = tt; amounts = tt }

  pub turn-inside : (f : Around) (q : Spot) (r y : List ℕ) → LoopsBelow (length r) (f ∷ q.around) → Amounts s (f ∷ q.around) → Turning q r y
      → Turning (inside f q) r y
  turn-inside f q r y b a t = record { turns = t.turns; depth = t.depth; below = b; amounts = a }

  -- a turn of a gen
  pub gen-lands : (q : Spot) (n : Items) (r y ds es : List ℕ) (i : ℕ) → Turning q r y → i < extent n s → Lands es (extent n s ∷ ds) (goes s r q.around Some)
      → Lands es ds (goes s (r ++ i ∷ []) (one_gen n q).around Some)
  gen-lands q n r y ds es i t l h = λ ix jx w e. h (i ∷ ix) jx (l, w) (same ix ∙ e)
    where
      same : (ix : List ℕ) → goes s r q.around Some (i ∷ ix) ≡ goes s (r ++ i ∷ []) (one_gen n q).around Some ix
      same ix =
          ap (λ f. f (i ∷ ix)) (sym (goes-more s r i q.around Some t.below))
          ∙ ap (λ k. goes s (r ++ i ∷ []) q.around Some (k ∷ ix)) (sym (get_or_at r i [] 0 (binders q.path) t.depth))
