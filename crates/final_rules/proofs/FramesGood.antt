-- The frames around each node in a store position are good.
use Rattle.std.proofs.Common.{◌≡◌, ℕ, zero, suc, ◌+◌, ◌-◌, ◌<◌, List, [], ◌∷◌, ◌++◌, length, map, cond, nat_lt, nat_le, refl, ap, sym, subst, ◌∙◌}
use Rattle.std.proofs.Common.{arith}
use Rattle.std.proofs.Common.{Bool, true, false, ◌&&◌, ◌==◌, not, if◌then◌else◌, Ok}
use Rattle.std.specs.Prelude.{ℤ, pos, negsuc, slice_index_or}
use Rattle.std.proofs.lemmas.Bool.{and_parts}
use Rattle.affine_index.specs.Condition.{at_least_zero}
use Rattle.affine_index.specs.declared.cond.Cond.{Cond}
use Rattle.affine_index.specs.declared.form.Items.{Items}
use Rattle.affine_index.specs.Form.{literal_form, var_form}
use Rattle.affine_index.specs.Limited.{items_scoped}
use Rattle.affine_index.specs.Put.{moved, shifted}
use Rattle.affine_index.specs.Sum.{difference_of, scaled, sum_of}
use Rattle.affine_index.specs.Value.{items_value}
use Rattle.affine_index.proofs.GivenLaws.{var-normal}
use Rattle.affine_index.proofs.PutLaws.{put-Var, put-items}
use Rattle.fact_list.specs.declared.facts.PathFact.TheVariants.{Bound, Holds}
use Rattle.fact_list.specs.Facts.{binders}
use Rattle.reindexer.specs.declared.frame.Frame.{Frame}
use Rattle.reindexer.specs.declared.frame.Frame.TheVariants.{Fix}
use Rattle.reindexer.specs.Good.{GoodFrames}
use Rattle.reindexer.specs.Lifted.{fixes_normal, lifted}
use Rattle.reindexer.proofs.StepLaws.{term_frames}
use Rattle.region_plan.proofs.NeedLaws.{shape_values}
use Rattle.shape_rules.specs.Meant.{HasMeaning, input_extents}
use Rattle.shape_rules.specs.Parts.{EachPart}
use Rattle.shape_rules.specs.Values.{AllHaveValues, HaveValues, NoneNegative}
use Rattle.shape_rules.proofs.ModuleLaws.{module_parts, output_scoped, sound_goals, sound_shapes}
use Rattle.term_tree.specs.declared.term.Term.{Term, Lit, TVar, WordOf}
use Rattle.term_tree.specs.Syntax.{index, gen, sum, guard, let_in, add, sub, mul, concat, flatten, split, transpose, trunc_l, trunc_r, pad_l, pad_r}
use Rattle.term_tree.specs.Goals.{extents_or_none, rest_after, term_goals}
use Rattle.term_tree.specs.Meaning.{count_of, dims, extent, head_of, tail_of}
use Rattle.term_tree.specs.Modules.{input_shapes, outputs_goals}
use Rattle.term_tree.specs.Scope.{cond_scoped, largest_tile, term_scoped}
use Rattle.term_tree.specs.Shape.{Extents, Shaped, here, limited, of_concat, of_equal, of_first, of_two, same_forms, shape_of, tiles, with_child}
use Rattle.term_tree.specs.declared.cause.Cause.{Cause}
use Rattle.term_tree.specs.declared.cause.Cause.TheVariants.{RankMismatch, ShapesDiffer}
use Rattle.term_tree.specs.declared.term.OutputDecl.{OutputDecl}
use Rattle.shape_rules.proofs.SameLaws.{same_forms-equal}
use Rattle.affine_index.specs.Product.{product_of}
use Rattle.final_rules.specs.declared.spot.Around.{Around}
use Rattle.final_rules.specs.declared.spot.Around.TheVariants.{Loop, Swapped, Joined, Tiled, Later, Without, Before}
use Rattle.final_rules.specs.declared.spot.Spot.{Spot}
use Rattle.final_rules.specs.Good.{FramesHere, NodesGood, SoundFramesAreGood}
use Rattle.final_rules.specs.Places.{alone, before_end, extents_under, first_of, frame_of, frames_of, inside, joined_by, on_path, one_gen, rest_of, right_of}
use Rattle.final_rules.specs.Rules.{output_spot}
use Rattle.final_rules.proofs.ShapeGood.{child_ok, first_ok, two_ok}
use Rattle.final_rules.proofs.Walk.{binders-bound, binders-holds}

below-none : (w : ℕ) → nat_lt w 0 ≡ false
below-none w = grind arith

-- a variable seen from under one more loop
shifted-var : (w : ℕ) → shifted 0 1 (var_form w) ≡ var_form (w + 1)
shifted-var w =
    put-items (moved 0 1) (var_form w) ∙ ap (λ x. sum_of (literal_form (pos 0)) (scaled (pos 1) x)) (put-Var (moved 0 1) w
    ∙ ap (λ b. var_form (cond b w (w + 1))) (below-none w))

-- each loop stands under fewer loops
abbrev LoopsBelow : ℕ → List Around → Type 0
LoopsBelow b [] = Unit {0}
LoopsBelow b (Loop d ∷ fs) = (d < b) × LoopsBelow b fs
LoopsBelow b (f ∷ fs) = LoopsBelow b fs

below-more : (b : ℕ) (fs : List Around) → LoopsBelow b fs → LoopsBelow (suc b) fs
below-more b [] h = tt
below-more b (Loop d ∷ fs) h = (omega (arith, h.0), below-more b fs h.1)
below-more b (Swapped ∷ fs) h = below-more b fs h
below-more b (Joined m ∷ fs) h = below-more b fs h
below-more b (Tiled k ∷ fs) h = below-more b fs h
below-more b (Later a ∷ fs) h = below-more b fs h
below-more b (Without a ∷ fs) h = below-more b fs h
below-more b (Before m ∷ fs) h = below-more b fs h

-- frames seen from under one more loop
frames-lifted : (b : ℕ) (fs : List Around) → LoopsBelow b fs → lifted (map (frame_of b) fs) ≡ map (frame_of (suc b)) fs
frames-lifted b [] h = refl
frames-lifted b (Loop d ∷ fs) h =
    let e : b - 1 - d + 1 ≡ suc b - 1 - d = omega (arith, h.0) in
    λ i. Fix ((shifted-var (b - 1 - d) ∙ ap var_form e) i) ∷ frames-lifted b fs h.1 i
frames-lifted b (Swapped ∷ fs) h = λ i. frame_of b Swapped ∷ frames-lifted b fs h i
frames-lifted b (Joined m ∷ fs) h = λ i. frame_of b (Joined m) ∷ frames-lifted b fs h i
frames-lifted b (Tiled k ∷ fs) h = λ i. frame_of b (Tiled k) ∷ frames-lifted b fs h i
frames-lifted b (Later a ∷ fs) h = λ i. frame_of b (Later a) ∷ frames-lifted b fs h i
frames-lifted b (Without a ∷ fs) h = λ i. frame_of b (Without a) ∷ frames-lifted b fs h i
frames-lifted b (Before m ∷ fs) h = λ i. frame_of b (Before m) ∷ frames-lifted b fs h i

and-true : (a b : Bool) → a ≡ true → b ≡ true → (a && b) ≡ true
and-true true b p q = q
and-true false b p q = p

frames-normal : (b : ℕ) (fs : List Around) → fixes_normal (map (frame_of b) fs) ≡ true
frames-normal b [] = refl
frames-normal b (Loop d ∷ fs) = and-true _ _ (var-normal (b - 1 - d)) (frames-normal b fs)
frames-normal b (Swapped ∷ fs) = frames-normal b fs
frames-normal b (Joined m ∷ fs) = frames-normal b fs
frames-normal b (Tiled k ∷ fs) = frames-normal b fs
frames-normal b (Later a ∷ fs) = frames-normal b fs
frames-normal b (Without a ∷ fs) = frames-normal b fs
frames-normal b (Before m ∷ fs) = frames-normal b fs

if_true : {A : Type 0} (b : Bool) (w : Cause) (r : Shaped) (ms : Extents) → (if not b then here w else r) ≡ Ok ms → (b ≡ true → r ≡ Ok ms → A) → A
if_true true w r ms h f = f refl h
if_true false w r ms h f = absurd (cc)

-- operands of one shape
equal_same : (ns ms ks : Extents) → of_equal ns ms ≡ Ok ks → ns ≡ ms
equal_same ns ms ks h =
    if_true (length ns == length ms) RankMismatch (if not (same_forms ns ms) then here ShapesDiffer else limited ns) ks h
    (λ b g. if_true (same_forms ns ms) ShapesDiffer (limited ns) ks g (λ e r. same_forms-equal ns ms e))

concat_same : (as' bs ks : Extents) → of_concat as' bs ≡ Ok ks → (n m : Items) × (ns : Extents) × (as' ≡ n ∷ ns) × (bs ≡ m ∷ ns)
concat_same [] bs ks h = absurd (cc)
concat_same (n ∷ ns) [] ks h = absurd (cc)
concat_same (n ∷ ns) (m ∷ ms) ks h =
    if_true (length ns == length ms) RankMismatch (if not (same_forms ns ms) then here ShapesDiffer else limited (sum_of n m ∷ ns)) ks h
    (λ b g. if_true (same_forms ns ms) ShapesDiffer (limited (sum_of n m ∷ ns)) ks g (λ e r. (
      n,
      m,
      ns,
      refl,
      ap (λ (xs : Extents). m ∷ xs) (sym (same_forms-equal ns ms e)),
    )))

count-is : (z : ℤ) → at_least_zero z ≡ true → z ≡ pos (count_of z)
count-is (pos n) h = refl
count-is (negsuc n) h = absurd (cc)

module _ (s : List ℕ) where
  abbrev Good : List ℕ → List Frame → List ℕ → List ℕ → Type 0
  Good = GoodFrames s

  none-parts : (xs ys : List Items) → NoneNegative s (xs ++ ys) → NoneNegative s xs × NoneNegative s ys
  none-parts [] ys h = (tt, h)
  none-parts (x ∷ xs) ys h = let p = none-parts xs ys h.1 in ((h.0, p.0), p.1)

  -- extents of one, or of two and more
  first-values : (ns : Extents) (d : List ℕ) (n : Items) (rest : Extents) → ns ≡ n ∷ rest → HaveValues s ns d
      → (d ≡ head_of d ∷ tail_of d) × (items_value s [] (first_of ns) ≡ pos (head_of d))
  first-values [] d n rest e h = absurd (cc)
  first-values (m ∷ ms) [] n rest e h = absurd h
  first-values (m ∷ ms) (d ∷ ds) n rest e h = (refl, h.0)

  two-values : (ns : Extents) (d : List ℕ) (n m : Items) (rest : Extents) → ns ≡ n ∷ m ∷ rest → HaveValues s ns d
      → (d ≡ head_of d ∷ head_of (tail_of d) ∷ tail_of (tail_of d)) × (items_value s [] (first_of (rest_of ns)) ≡ pos (head_of (tail_of d)))
  two-values [] d n m rest e h = absurd (cc)
  two-values (k ∷ []) d n m rest e h = absurd (cc)
  two-values (k ∷ l ∷ ks) [] n m rest e h = absurd h
  two-values (k ∷ l ∷ ks) (d ∷ []) n m rest e h = absurd h.1
  two-values (k ∷ l ∷ ks) (d ∷ f ∷ ds) n m rest e h = (refl, h.1.0)

  -- under one more loop
  turn : (q : Spot) (n : Items) (i : ℕ) (y : List ℕ) (ds es : List ℕ) → LoopsBelow (binders q.path) q.around → Good y (frames_of q) ds es
      → Good (i ∷ y) (frames_of (on_path (Bound n) q)) ds es
  turn q n i y ds es l g =
      let b = binders q.path in
      let h = (term_frames.steps s y (frames_of q) es).sum i ds (frames-normal b q.around) g in
      subst (λ fs. Good (i ∷ y) fs ds es) (frames-lifted b q.around l ∙ ap (λ k. map (frame_of k) q.around) (sym (binders-bound q.path n))) h

  gen-turn : (q : Spot) (n : Items) (i k : ℕ) (y : List ℕ) (ds es : List ℕ) → LoopsBelow (binders q.path) q.around → i < k → Good y (frames_of q) (k ∷ ds) es
      → Good (i ∷ y) (frames_of (one_gen n q)) ds es
  gen-turn q n i k y ds es l low g =
      let b = binders q.path in
      let h = (term_frames.steps s y (frames_of q) es).gen i k ds (frames-normal b q.around) low g in
      let e : 0 ≡ suc b - 1 - b = omega arith in
      subst (λ fs. Good (i ∷ y) fs ds es) ((λ j. Fix (var_form (e j)) ∷ frames-lifted b q.around l j)
      ∙ ap (λ k. map (frame_of k) (Loop b ∷ q.around)) (sym (binders-bound q.path n))) h

  gen-below : (q : Spot) (n : Items) → LoopsBelow (binders q.path) q.around → LoopsBelow (binders (one_gen n q).path) (one_gen n q).around
  gen-below q n l = subst (λ k. LoopsBelow k (Loop (binders q.path) ∷ q.around)) (sym (binders-bound q.path n)) (
    omega arith,
    below-more (binders q.path) q.around l,
  )

  sum-below : (q : Spot) (n : Items) → LoopsBelow (binders q.path) q.around → LoopsBelow (binders (on_path (Bound n) q).path) q.around
  sum-below q n l = subst (λ k. LoopsBelow k q.around) (sym (binders-bound q.path n)) (below-more (binders q.path) q.around l)

  guard-frames : (q : Spot) (c : Cond) → frames_of q ≡ frames_of (on_path (Holds c) q)
  guard-frames q c = ap (λ k. map (frame_of k) q.around) (sym (binders-holds q.path c))

  guard-below : (q : Spot) (c : Cond) → LoopsBelow (binders q.path) q.around → LoopsBelow (binders (on_path (Holds c) q).path) q.around
  guard-below q c l = subst (λ k. LoopsBelow k q.around) (sym (binders-holds q.path c)) l

  above-zero : (k : ℕ) → (nat_lt 0 k && nat_le k largest_tile) ≡ true → 0 < k
  above-zero k h = lt k (and_parts (nat_lt 0 k) (nat_le k largest_tile) h).0
    where
      lt : (k : ℕ) → nat_lt 0 k ≡ true → 0 < k
      lt k h = grind arith

  have-same : (ns : Extents) (d f : List ℕ) → HaveValues s ns d → HaveValues s ns f → d ≡ f
  have-same [] [] [] h g = refl
  have-same [] [] (x ∷ f) h g = absurd g
  have-same [] (x ∷ d) f h g = absurd h
  have-same (n ∷ ns) [] f h g = absurd h
  have-same (n ∷ ns) (x ∷ d) [] h g = absurd g
  have-same (n ∷ ns) (x ∷ d) (z ∷ f) h g = let e : x ≡ z = pos-same x z (sym h.0 ∙ g.0) in λ i. e i ∷ have-same ns d f h.1 g.1 i
    where
      pos-same : (a b : ℕ) → pos a ≡ pos b → a ≡ b
      pos-same a b e = cc

  -- the extents of operands that have one shape
  equal-dims : (a b : Term) (ts : List Extents) (ds : List (List ℕ)) (ns : Extents) → EachPart (HasMeaning s) a ts → EachPart (HasMeaning s) b ts
      → AllHaveValues s ts ds
      → with_child 0 (shape_of a ts) (λ ns. with_child 1 (shape_of b ts) (λ ms. of_equal ns ms)) ≡ Ok ns → dims a s ds ≡ dims b s ds
  equal-dims a b ts ds ns ca cb h eq =
      let p = child_ok 0 (shape_of a ts) (λ ns. with_child 1 (shape_of b ts) (λ ms. of_equal ns ms)) ns eq in
      let q = child_ok 1 (shape_of b ts) (λ ms. of_equal p.0 ms) ns p.2 in
      let e = equal_same p.0 q.0 ns q.2 in
      have-same q.0 (dims a s ds) (dims b s ds)
      (subst (λ (ks : Extents). HaveValues s ks (dims a s ds)) (ap extents_or_none p.1 ∙ e) (shape_values s a ts ds ca h))
      (subst (λ (ks : Extents). HaveValues s ks (dims b s ds)) (ap extents_or_none q.1) (shape_values s b ts ds cb h))

  first-of-part : (e : Term) (ts : List Extents) (ds : List (List ℕ)) (f : Items → Extents → Shaped) (ns : Extents) → EachPart (HasMeaning s) e ts
      → AllHaveValues s ts ds
      → with_child 0 (shape_of e ts) (λ ms. of_first ms f) ≡ Ok ns → (dims e s ds ≡ head_of (dims e s ds) ∷ tail_of (dims e s ds))
      × (items_value s [] (first_of (extents_under e ts)) ≡ pos (head_of (dims e s ds)))
  first-of-part e ts ds f ns c h eq =
      let p = child_ok 0 (shape_of e ts) (λ ms. of_first ms f) ns eq in
      let q = first_ok p.0 f ns p.2 in
      first-values (extents_under e ts) (dims e s ds) q.0 q.1 (ap extents_or_none p.1 ∙ q.2) (shape_values s e ts ds c h)

  two-of-part : (e : Term) (ts : List Extents) (ds : List (List ℕ)) (f : Items → Items → Extents → Shaped) (ns : Extents) → EachPart (HasMeaning s) e ts
      → AllHaveValues s ts ds → with_child 0 (shape_of e ts) (λ ms. of_two ms f) ≡ Ok ns
      → (dims e s ds ≡ head_of (dims e s ds) ∷ head_of (tail_of (dims e s ds)) ∷ tail_of (tail_of (dims e s ds)))
      × (items_value s [] (first_of (rest_of (extents_under e ts))) ≡ pos (head_of (tail_of (dims e s ds))))
  two-of-part e ts ds f ns c h eq =
      let p = child_ok 0 (shape_of e ts) (λ ms. of_two ms f) ns eq in
      let q = two_ok p.0 f ns p.2 in
      two-values (extents_under e ts) (dims e s ds) q.0 q.1 q.2 (ap extents_or_none p.1 ∙ q.3) (shape_values s e ts ds c h)

  -- both operands of a concat
  parts-of-concat : (a b : Term) (ts : List Extents) (ds : List (List ℕ)) (ns : Extents) → EachPart (HasMeaning s) a ts → EachPart (HasMeaning s) b ts
      → AllHaveValues s ts ds
      → with_child 0 (shape_of a ts) (λ ns. with_child 1 (shape_of b ts) (λ ms. of_concat ns ms)) ≡ Ok ns
      → (dims a s ds ≡ head_of (dims a s ds) ∷ tail_of (dims a s ds)) × (dims b s ds ≡ head_of (dims b s ds) ∷ tail_of (dims a s ds))
      × (items_value s [] (first_of (extents_under a ts)) ≡ pos (head_of (dims a s ds)))
  parts-of-concat a b ts ds ns ca cb h eq =
      let p = child_ok 0 (shape_of a ts) (λ ns. with_child 1 (shape_of b ts) (λ ms. of_concat ns ms)) ns eq in
      let q = child_ok 1 (shape_of b ts) (λ ms. of_concat p.0 ms) ns p.2 in
      let k = concat_same p.0 q.0 ns q.2 in
      let va = subst (λ (ks : Extents). HaveValues s ks (dims a s ds)) (ap extents_or_none p.1 ∙ k.3) (shape_values s a ts ds ca h) in
      let vb = subst (λ (ks : Extents). HaveValues s ks (dims b s ds)) (ap extents_or_none q.1 ∙ k.4) (shape_values s b ts ds cb h) in
      let f = first-values (extents_under a ts) (dims a s ds) k.0 k.2 (ap extents_or_none p.1 ∙ k.3) (shape_values s a ts ds ca h) in
      let g = split-values k.1 k.2 (dims b s ds) vb in
      let d = split-values k.0 k.2 (dims a s ds) va in
      (f.0, g.0 ∙ ap (λ (xs : List ℕ). head_of (dims b s ds) ∷ xs) (have-same k.2 (tail_of (dims b s ds)) (tail_of (dims a s ds)) g.1 d.1), f.1)
    where
      split-values : (n : Items) (ks : Extents) (d : List ℕ) → HaveValues s (n ∷ ks) d → (d ≡ head_of d ∷ tail_of d) × HaveValues s ks (tail_of d)
      split-values n ks [] h = absurd h
      split-values n ks (x ∷ d) h = (refl, h.1)

  pub nodes_good : (sizes : ℕ) (e : Term) (q : Spot) (ts : List Extents) (v t : ℕ) (y : List ℕ) (ds : List (List ℕ)) (es : List ℕ)
      → term_scoped sizes e v t ≡ true
      → EachPart (HasMeaning s) e ts → AllHaveValues s ts ds → NoneNegative s (term_goals e ts) → LoopsBelow (binders q.path) q.around
      → FramesHere s e q y ds es
      → NodesGood s e q ts y ds es
  nodes_good sizes (Lit w) q ts v t y ds es k c h n l g = g
  nodes_good sizes (WordOf x) q ts v t y ds es k c h n l g = g
  nodes_good sizes (TVar x) q ts v t y ds es k c h n l g = g
  nodes_good sizes (index e x) q ts v t y ds es k c h n l g = g
  nodes_good sizes (sub a b) q ts v t y ds es k c h n l g = g
  nodes_good sizes (mul a b) q ts v t y ds es k c h n l g = g
  nodes_good sizes (gen x e) q ts v t y ds es k c h n l g =
      let ks = and_parts (items_scoped sizes 0 x) (term_scoped sizes e (v + 1) t) k in (
        g,
        λ i low. nodes_good sizes e (one_gen x q) ts (v + 1) t (i ∷ y) ds es ks.1 c.1 h n.1 (gen-below q x l) (gen-turn q x i (extent x s) y
            (dims e s ds) es l low g),
      )
  nodes_good sizes (sum x e) q ts v t y ds es k c h n l g =
      let ks = and_parts (items_scoped sizes 0 x) (term_scoped sizes e (v + 1) t) k in
      (g, λ i low. nodes_good sizes e (on_path (Bound x) q) ts (v + 1) t (i ∷ y) ds es ks.1 c.1 h n.1 (sum-below q x l) (turn q x i y (dims e s ds) es l g))
  nodes_good sizes (guard x e) q ts v t y ds es k c h n l g =
      let ks = and_parts (cond_scoped sizes v x) (term_scoped sizes e v t) k in (
        g,
        nodes_good sizes e (on_path (Holds x) q) ts v t y ds es ks.1 c.1 h n (guard-below q x l) (subst (λ fs. Good y fs (dims e s ds) es)
            (guard-frames q x) g),
      )
  nodes_good sizes (let_in a b) q ts v t y ds es k c h n l g =
      let ks = and_parts (term_scoped sizes a v t) (term_scoped sizes b v (t + 1)) k in
      let ns = none-parts (term_goals a ts) (term_goals b (extents_under a ts ∷ ts)) n in (
        g,
        nodes_good sizes a (alone q) ts v t y ds (dims a s ds) ks.0 c.1 h ns.0 tt (term_frames.none s y (dims a s ds)),
        nodes_good sizes b q (extents_under a ts ∷ ts) v (t + 1) y (dims a s ds ∷ ds) es ks.1 c.2 (shape_values s a ts ds c.1 h, h) ns.1 l g,
      )
  nodes_good sizes (add a b) q ts v t y ds es k c h n l g =
      let ks = and_parts (term_scoped sizes a v t) (term_scoped sizes b v t) k in
      let ns = none-parts (term_goals a ts) (term_goals b ts) n in
      let e = equal-dims a b ts ds c.0.0 c.1 c.2 h c.0.1 in (
        g,
        nodes_good sizes a q ts v t y ds es ks.0 c.1 h ns.0 l g,
        nodes_good sizes b q ts v t y ds es ks.1 c.2 h ns.1 l (subst (λ d. Good y (frames_of q) d es) e g),
      )
  nodes_good sizes (concat a b) q ts v t y ds es k c h n l g =
      let ks = and_parts (term_scoped sizes a v t) (term_scoped sizes b v t) k in
      let ns = none-parts (term_goals a ts) (term_goals b ts) n in
      let p = parts-of-concat a b ts ds c.0.0 c.1 c.2 h c.0.1 in
      let steps = term_frames.steps s y (frames_of q) es in
      let na = head_of (dims a s ds) in
      let nb = head_of (dims b s ds) in
      let rest = tail_of (dims a s ds) in
      let turned : na + nb ≡ nb + na = omega arith in (
        g,
        nodes_good sizes a q ts v t y ds es ks.0 c.1 h ns.0 l (subst (λ d. Good y (frames_of q) d es) (sym p.0) (steps.pad_r na nb rest g)),
        nodes_good sizes b (inside (right_of a ts) q) ts v t y ds es ks.1 c.2 h ns.1 l
            (subst (λ d. Good y (frames_of (inside (right_of a ts) q)) d es) (sym p.1) (steps.pad_l (first_of (extents_under a ts)) nb na rest p.2
            (subst (λ m. Good y (frames_of q) (m ∷ rest) es) turned g))),
      )
  nodes_good sizes (flatten e) q ts v t y ds es k c h n l g =
      let p = two-of-part e ts ds (λ n m rest. limited (product_of n m ∷ rest)) c.0.0 c.1 h c.0.1 in
      let d = dims e s ds in (
        g,
        nodes_good sizes e (inside (joined_by e ts) q) ts v t y ds es k c.1 h n l
            (subst (λ d. Good y (frames_of (inside (joined_by e ts) q)) d es) (sym p.0)
            ((term_frames.steps s y (frames_of q) es).flatten (first_of (rest_of (extents_under e ts))) (head_of d) (head_of (tail_of d))
            (tail_of (tail_of d)) p.1 g)),
      )
  nodes_good sizes (split x e) q ts v t y ds es k c h n l g =
      let ks = and_parts (nat_lt 0 x && nat_le x largest_tile) (term_scoped sizes e v t) k in
      let p = first-of-part e ts ds (λ n rest. limited (tiles x n ∷ literal_form (pos x) ∷ rest)) c.0.0 c.1 h c.0.1 in
      let d = dims e s ds in (
        g,
        nodes_good sizes e (inside (Tiled x) q) ts v t y ds es ks.1 c.1 h n l
            (subst (λ d. Good y (frames_of (inside (Tiled x) q)) d es) (sym p.0) ((term_frames.steps s y (frames_of q) es).split (head_of d) x (tail_of d)
            (above-zero x ks.0) g)),
      )
  nodes_good sizes (transpose e) q ts v t y ds es k c h n l g =
      let p = two-of-part e ts ds (λ n m rest. Ok (m ∷ n ∷ rest)) c.0.0 c.1 h c.0.1 in
      let d = dims e s ds in (
        g,
        nodes_good sizes e (inside Swapped q) ts v t y ds es k c.1 h n l
            (subst (λ d. Good y (frames_of (inside Swapped q)) d es) (sym p.0) ((term_frames.steps s y (frames_of q) es).transpose (head_of d)
            (head_of (tail_of d)) (tail_of (tail_of d)) g)),
      )
  nodes_good sizes (trunc_l x e) q ts v t y ds es k c h n l g =
      let ks = and_parts (items_scoped sizes 0 x) (term_scoped sizes e v t) k in
      let p = first-of-part e ts ds (λ n rest. limited (difference_of n x ∷ rest)) c.0.0 c.1 h c.0.1 in
      let ns = none-parts (rest_after x (extents_under e ts)) (term_goals e ts) n.1 in
      let d = dims e s ds in (
        g,
        nodes_good sizes e (inside (Without x) q) ts v t y ds es ks.1 c.1 h ns.1 l
            (subst (λ d. Good y (frames_of (inside (Without x) q)) d es) (sym p.0)
            ((term_frames.steps s y (frames_of q) es).trunc_l x (head_of d) (extent x s) (tail_of d) (count-is (items_value s [] x) n.0) g)),
      )
  nodes_good sizes (trunc_r x e) q ts v t y ds es k c h n l g =
      let ks = and_parts (items_scoped sizes 0 x) (term_scoped sizes e v t) k in
      let p = first-of-part e ts ds (λ n rest. limited (difference_of n x ∷ rest)) c.0.0 c.1 h c.0.1 in
      let ns = none-parts (rest_after x (extents_under e ts)) (term_goals e ts) n.1 in
      let d = dims e s ds in
      let w = first-shape (extents_under (trunc_r x e) ts) (dims (trunc_r x e) s ds) (shape_values s (trunc_r x e) ts ds c h) in (
        g,
        nodes_good sizes e (inside (before_end x e ts) q) ts v t y ds es ks.1 c.1 h ns.1 l
            (subst (λ d. Good y (frames_of (inside (before_end x e ts) q)) d es) (sym p.0)
            ((term_frames.steps s y (frames_of q) es).trunc_r (first_of (extents_under (trunc_r x e) ts)) (head_of d) (extent x s) (tail_of d) w g)),
      )
    where
      first-shape : (ns : Extents) (d : List ℕ) → HaveValues s ns ((head_of d) ∷ (tail_of d)) → items_value s [] (first_of ns) ≡ pos (head_of d)
      first-shape [] d h = absurd h
      first-shape (n ∷ ns) d h = h.0
  nodes_good sizes (pad_l x e) q ts v t y ds es k c h n l g =
      let ks = and_parts (items_scoped sizes 0 x) (term_scoped sizes e v t) k in
      let p = first-of-part e ts ds (λ n rest. limited (sum_of n x ∷ rest)) c.0.0 c.1 h c.0.1 in
      let d = dims e s ds in (
        g,
        nodes_good sizes e (inside (Later x) q) ts v t y ds es ks.1 c.1 h n.1 l
            (subst (λ d. Good y (frames_of (inside (Later x) q)) d es) (sym p.0)
            ((term_frames.steps s y (frames_of q) es).pad_l x (head_of d) (extent x s) (tail_of d) (count-is (items_value s [] x) n.0) g)),
      )
  nodes_good sizes (pad_r x e) q ts v t y ds es k c h n l g =
      let ks = and_parts (items_scoped sizes 0 x) (term_scoped sizes e v t) k in
      let p = first-of-part e ts ds (λ n rest. limited (sum_of n x ∷ rest)) c.0.0 c.1 h c.0.1 in
      let d = dims e s ds in (
        g,
        nodes_good sizes e q ts v t y ds es ks.1 c.1 h n.1 l
            (subst (λ d. Good y (frames_of q) d es) (sym p.0) ((term_frames.steps s y (frames_of q) es).pad_r (head_of d) (extent x s) (tail_of d) g)),
      )

output-goals : (s : List ℕ) (ts : List Extents) (os : List OutputDecl) (k : ℕ) (d : OutputDecl) → k < length os → NoneNegative s (outputs_goals os ts)
    → NoneNegative s (term_goals (slice_index_or os k d).term ts)
output-goals s ts [] k d l h = absurd (omega (arith, l))
output-goals s ts (o ∷ os) zero d l h = (none-parts s (term_goals o.term ts) (outputs_goals os ts) h).0
output-goals s ts (o ∷ os) (suc k) d l h = output-goals s ts os k d (omega (arith, l)) (none-parts s (term_goals o.term ts) (outputs_goals os ts) h).1

pub sound-frames-good : SoundFramesAreGood
sound-frames-good m sound s allowed k d l =
    let shapes = sound_shapes m sound s allowed in
    let goals = sound_goals m sound s allowed in
    let o = slice_index_or m.outputs k d in
    nodes_good s (length m.sizes) o.term output_spot (input_shapes m) 0 (length m.inputs) [] (input_extents m s) (dims o.term s (input_extents m s))
    (output_scoped (length m.sizes) (length m.inputs) m.outputs k d l (module_parts m sound.scoped).1) (shapes.1 k d l) shapes.0
    (output-goals s (input_shapes m) m.outputs k d l goals.1) tt (term_frames.none s [] (dims o.term s (input_extents m s)))
