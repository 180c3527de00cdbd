-- The nodes around a term send tuples where their frames do.
use Rattle.std.proofs.Common.{◌≡◌, ℕ, ◌+◌, ◌-◌, ◌<◌, ◌≤◌, List, [], ◌∷◌, ◌++◌, length, map, get_or, None, refl, sym, ap, ◌∙◌, ⊎_elim, arith, true}
use Rattle.std.proofs.Common.{◌&&◌, nat_lt, nat_le, if◌then◌else◌}
use Rattle.std.specs.Prelude.{ℤ, pos, negsuc, ◌+ℤ◌, ◌*ℤ◌}
use Rattle.std.proofs.lemmas.Bool.{and_from, cases_lt, lt-ltb, le-ltb}
use Rattle.std.proofs.lemmas.Int.{ints}
use Rattle.std.proofs.lemmas.List.{get_or_append_left}
use Rattle.affine_index.specs.Condition.{at_least_zero}
use Rattle.affine_index.specs.Form.{var_form}
use Rattle.affine_index.specs.Sum.{scaled}
use Rattle.affine_index.specs.Value.{items_value}
use Rattle.affine_index.specs.declared.form.Atom.TheVariants.{Var}
use Rattle.affine_index.specs.declared.form.Items.{Items}
use Rattle.affine_index.proofs.Values.{value-of_atom, value-scaled, value-Var}
use Rattle.index_trees.specs.Value.{AreTurns}
use Rattle.reindexer.specs.Ready.{AmountsHold, frames_ready}
use Rattle.reindexer.specs.Sending.{Sending, flattened, in_front, kept, moved, sent, spread, swapped}
use Rattle.shape_rules.proofs.FreeForms.{IsFree}
use Rattle.term_tree.specs.Meaning.{extent}
use Rattle.term_tree.specs.Scope.{largest_tile}
use Rattle.final_rules.specs.declared.spot.Around.{Around}
use Rattle.final_rules.specs.declared.spot.Around.TheVariants.{Loop, Swapped, Joined, Tiled, Later, Without, Before}
use Rattle.final_rules.specs.Places.{frame_of}
use Rattle.lowering_laws.specs.Sending.{dropped, fixed, goes, shifted}
use Rattle.lowering_laws.proofs.Right.{LoopsBelow}

module _ (s : List ℕ) where
  -- a form over sizes alone that is not negative
  abbrev pub IsCount : Items → Type 0
  IsCount a = IsFree a × (items_value s [] a ≡ pos (extent a s))

  -- the amounts of nodes are over sizes alone, and those that move tuples or join indices are not negative
  abbrev pub Amounts : List Around → Type 0
  Amounts [] = Unit {0}
  Amounts (Loop d ∷ fs) = Amounts fs
  Amounts (Swapped ∷ fs) = Amounts fs
  Amounts (Joined m ∷ fs) = IsCount m × Amounts fs
  Amounts (Tiled k ∷ fs) = ((nat_lt 0 k && nat_le k largest_tile) ≡ true) × Amounts fs
  Amounts (Later a ∷ fs) = IsCount a × Amounts fs
  Amounts (Without a ∷ fs) = (IsFree (scaled (negsuc 0) a) × (items_value s [] a ≡ pos (extent a s))) × Amounts fs
  Amounts (Before m ∷ fs) = IsFree m × Amounts fs

  pub amounts-ready : (b : ℕ) (fs : List Around) → Amounts fs → frames_ready (map (frame_of b) fs) ≡ true
  amounts-ready b [] h = refl
  amounts-ready b (Loop d ∷ fs) h = amounts-ready b fs h
  amounts-ready b (Swapped ∷ fs) h = amounts-ready b fs h
  amounts-ready b (Joined m ∷ fs) h = and_from _ _ h.0.0 (amounts-ready b fs h.1)
  amounts-ready b (Tiled k ∷ fs) h = and_from _ _ h.0 (amounts-ready b fs h.1)
  amounts-ready b (Later a ∷ fs) h = and_from _ _ h.0.0 (amounts-ready b fs h.1)
  amounts-ready b (Without a ∷ fs) h = and_from _ _ h.0.0 (amounts-ready b fs h.1)
  amounts-ready b (Before m ∷ fs) h = and_from _ _ h.0 (amounts-ready b fs h.1)

  not-below : (z : ℤ) (n : ℕ) → z ≡ pos n → at_least_zero z ≡ true
  not-below z n e = ap at_least_zero e

  pub amounts-hold : (b : ℕ) (fs : List Around) → Amounts fs → AmountsHold s (map (frame_of b) fs)
  amounts-hold b [] h = tt
  amounts-hold b (Loop d ∷ fs) h = amounts-hold b fs h
  amounts-hold b (Swapped ∷ fs) h = amounts-hold b fs h
  amounts-hold b (Joined m ∷ fs) h = (not-below (items_value s [] m) (extent m s) h.0.1, amounts-hold b fs h.1)
  amounts-hold b (Tiled k ∷ fs) h = amounts-hold b fs h.1
  amounts-hold b (Later a ∷ fs) h = amounts-hold b fs h.1
  amounts-hold b (Without a ∷ fs) h = amounts-hold b fs h.1
  amounts-hold b (Before m ∷ fs) h = amounts-hold b fs h.1

  -- the variable of a loop has its value
  turn-value : (r y : List ℕ) (d : ℕ) → AreTurns r y → d < length r → items_value s y (var_form (length r - 1 - d)) ≡ pos (get_or r d 0)
  turn-value r y d t l =
      let v : length r - 1 - d < length r = omega (arith, l) in
      let e : length r - 1 - (length r - 1 - d) ≡ d = omega (arith, l) in
      value-of_atom s y (Var (length r - 1 - d)) ∙ value-Var s y (length r - 1 - d) ∙ ap pos (t (length r - 1 - d) v) ∙ ap (λ k. pos (get_or r k 0)) e

  -- a difference in front: dropped where it is negative
  down-none : {A : Type 0} (u : ℤ) (c i : ℕ) (f : Sending A) (ix : List ℕ) → u +ℤ pos c ≡ pos i → i < c → in_front u f ix ≡ None
  down-none (pos n) c i f ix e l = absurd (omega (arith, ints, e, l))
  down-none (negsuc n) c i f ix e l = refl

  down-some : {A : Type 0} (u : ℤ) (c i : ℕ) (f : Sending A) (ix : List ℕ) → u +ℤ pos c ≡ pos i → c ≤ i → in_front u f ix ≡ f ((i - c) ∷ ix)
  down-some (pos n) c i f ix e l = let q : n ≡ i - c = omega (arith, ints, e, l) in ap (λ k. f (k ∷ ix)) q
  down-some (negsuc n) c i f ix e l = absurd (omega (arith, ints, e, l))

  taken : (a : Items) (c i : ℕ) → items_value s [] a ≡ pos c → (pos i +ℤ items_value s [] (scaled (negsuc 0) a)) +ℤ pos c ≡ pos i
  taken a c i e =
      let v : items_value s [] (scaled (negsuc 0) a) ≡ negsuc 0 *ℤ pos c = value-scaled s [] (negsuc 0) a ∙ ap (λ z. negsuc 0 *ℤ z) e in
      ap (λ z. (pos i +ℤ z) +ℤ pos c) v ∙ back
    where
      back : (pos i +ℤ (negsuc 0 *ℤ pos c)) +ℤ pos c ≡ pos i
      back = grind (arith, ints)

  moved-up : {A : Type 0} (z : ℤ) (c : ℕ) (f : Sending A) (ix : List ℕ) → z ≡ pos c → moved z f ix ≡ shifted c f ix
  moved-up z c f [] e = refl
  moved-up z c f (i ∷ ix) e = let turned : i + c ≡ c + i = omega arith in ap (λ y. in_front (pos i +ℤ y) f ix) e ∙ ap (λ k. f (k ∷ ix)) turned

  moved-down : {A : Type 0} (a : Items) (f : Sending A) (ix : List ℕ) → items_value s [] a ≡ pos (extent a s)
      → moved (items_value s [] (scaled (negsuc 0) a)) f ix ≡ dropped (extent a s) f ix
  moved-down a f [] e = refl
  moved-down a f (i ∷ ix) e =
      let c = extent a s in
      let u = pos i +ℤ items_value s [] (scaled (negsuc 0) a) in
      let h : u +ℤ pos c ≡ pos i = taken a c i e in
      ⊎_elim
      (λ (l : i < c). down-none u c i f ix h l ∙ sym (ap (λ b. if b then None else f ((i - c) ∷ ix)) (lt-ltb i c l)))
      (λ (l : c ≤ i). down-some u c i f ix h l ∙ sym (ap (λ b. if b then None else f ((i - c) ∷ ix)) (le-ltb i c l)))
      (cases_lt i c)

  -- through the frames, at loop variables r from the outermost and index variables y from the innermost
  pub goes-sent : {A : Type 0} (r y : List ℕ) (fs : List Around) (f : Sending A) → AreTurns r y → LoopsBelow (length r) fs → Amounts fs
      → sent s y (map (frame_of (length r)) fs) f ≡ goes s r fs f
  goes-sent r y [] f t h a = refl
  goes-sent r y (Loop d ∷ fs) f t h a = λ i. in_front (turn-value r y d t h.0 i) (goes-sent r y fs f t h.1 a i)
  goes-sent r y (Swapped ∷ fs) f t h a = ap swapped (goes-sent r y fs f t h a)
  goes-sent r y (Joined m ∷ fs) f t h a = ap (flattened (extent m s)) (goes-sent r y fs f t h a.1)
  goes-sent r y (Tiled k ∷ fs) f t h a = ap (spread k) (goes-sent r y fs f t h a.1)
  goes-sent r y (Later b ∷ fs) f t h a =
      ap (moved (items_value s [] b)) (goes-sent r y fs f t h a.1) ∙ (λ i ix. moved-up (items_value s [] b) (extent b s) (goes s r fs f) ix a.0.1 i)
  goes-sent r y (Without b ∷ fs) f t h a =
      ap (moved (items_value s [] (scaled (negsuc 0) b))) (goes-sent r y fs f t h a.1) ∙ (λ i ix. moved-down b (goes s r fs f) ix a.0.1 i)
  goes-sent r y (Before m ∷ fs) f t h a = ap (kept (extent m s)) (goes-sent r y fs f t h a.1)

  -- one more loop changes nothing
  pub goes-more : {A : Type 0} (r : List ℕ) (j : ℕ) (fs : List Around) (f : Sending A) → LoopsBelow (length r) fs → goes s (r ++ j ∷ []) fs f ≡ goes s r fs f
  goes-more r j [] f h = refl
  goes-more r j (Loop d ∷ fs) f h = λ i. fixed (get_or_append_left r (j ∷ []) 0 d h.0 i) (goes-more r j fs f h.1 i)
  goes-more r j (Swapped ∷ fs) f h = ap swapped (goes-more r j fs f h)
  goes-more r j (Joined m ∷ fs) f h = ap (flattened (extent m s)) (goes-more r j fs f h)
  goes-more r j (Tiled k ∷ fs) f h = ap (spread k) (goes-more r j fs f h)
  goes-more r j (Later a ∷ fs) f h = ap (shifted (extent a s)) (goes-more r j fs f h)
  goes-more r j (Without a ∷ fs) f h = ap (dropped (extent a s)) (goes-more r j fs f h)
  goes-more r j (Before m ∷ fs) f h = ap (kept (extent m s)) (goes-more r j fs f h)
