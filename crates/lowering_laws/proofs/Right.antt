-- The loops of a term leave what it denotes.
use Rattle.std.proofs.Common.{◌≡◌, ℕ, zero, suc, ◌+◌, ◌%◌, ◌^◌, ◌<◌, ◌≤◌, Bool, true, false, if◌then◌else◌, List, [], ◌∷◌, ◌++◌, length, get_or, set}
use Rattle.std.proofs.Common.{replicate, Some, pos, inl, inr, refl, sym, ap, ◌∙◌, subst, arith, length-append}
use Rattle.std.proofs.lemmas.List.{get_or_append_left, get_or_at, length-replicate}
use Rattle.std.proofs.Math.Nat.{mod-eq_of_lt}
use Rattle.affine_index.specs.Condition.{all_hold}
use Rattle.affine_index.specs.declared.form.Items.{Items}
use Rattle.affine_index.specs.declared.cond.Cond.{Cond}
use Rattle.term_tree.specs.declared.term.Term.{Term, Lit, WordOf}
use Rattle.term_tree.specs.Syntax.{gen, sum, guard, let_in, add, sub, mul}
use Rattle.term_tree.specs.Tensors.{Tensor, tabulate, total, zeros}
use Rattle.term_tree.specs.Shaped.{HasShape, HasWords, flat, word_count}
use Rattle.term_tree.specs.Meaning.{Bound, extent, extents_of, dims, den}
use Rattle.term_tree.specs.Modules.{extents_at}
use Rattle.shape_rules.specs.Fits.{AllShaped, AllWords, LiteralsFit, ShapesFit}
use Rattle.shape_rules.proofs.DenShape.{den_shape}
use Rattle.shape_rules.proofs.DenWords.{den_words}
use Rattle.shape_rules.proofs.RowShapes.{total_shape}
use Rattle.loop_lang.specs.declared.index.Iexp.{Iexp}
use Rattle.loop_lang.specs.declared.word.Buf.{Buf}
use Rattle.loop_lang.specs.declared.word.Wexp.{Wexp}
use Rattle.loop_lang.specs.declared.stmt.Stmt.{Stmt}
use Rattle.loop_lang.specs.declared.stmt.Stmt.TheVariants.{Seq}
use Rattle.loop_lang.specs.Reckoning.{Value, reckon, tested}
use Rattle.loop_lang.specs.Actions.{Mode, Puts, Adds, Action, Store, grow, then_follow, turns, turns_below, if_holds, store, store_at, zeroed, fill, acts}
use Rattle.loop_lang.specs.Actions.{acts_all}
use Rattle.loop_lang.specs.Memory.{Memory, stored}
use Rattle.loop_lang.proofs.Following.{acts_all-append}
use Rattle.loop_lang.proofs.Statements.{acts-seq, acts-for, acts-if, acts-put, acts-add_to, acts-zero}
use Rattle.index_trees.specs.Tree.{index_tree}
use Rattle.final_rules.specs.Form.{adds_words}
use Rattle.final_rules.specs.Owed.{either, tests_of}
use Rattle.final_rules.specs.declared.spot.Around.{Around}
use Rattle.final_rules.specs.declared.spot.Around.TheVariants.{Loop, Swapped, Joined, Tiled, Later, Without, Before}
use Rattle.final_rules.specs.Places.{Site, shapes, shape_at, length_form, store_form}
use Rattle.final_rules.proofs.PlaceValues.{verdict, tests-hold}
use Rattle.final_rules.proofs.Walk.{binders-bound, binders-holds}
use Rattle.lowering_laws.specs.Scatter.{Placing, under, placed, add_at, scatter}
use Rattle.lowering_laws.proofs.Algebra.{Words, length-scatter, Words-scatter, scatter_turns, scatter-rows}
use Rattle.lowering_laws.proofs.RowOrder.{place, placed-is, place_lt, place_inj, flat_from_zeros}
use Rattle.lowering_laws.proofs.Does.{Area, In, Out, Part, region, part, buffer_of, base, length-read, read_agree, Target, Leaves, Kept, Kept-trans}
use Rattle.lowering_laws.proofs.Does.{leaves_kept}
use Rattle.lowering_laws.proofs.Does.{target_after, target_kept, target_more, part_kept, Does, does_then, does_nothing, does_tick, does_turns, does_before}
use Rattle.lowering_laws.proofs.Does.{does_fewer, does_last, does_store, does_zero}
use Rattle.lowering_laws.proofs.Calm.{Calm, calm_after}
use Rattle.lowering_laws.proofs.Clear.{zero_at, Clear, Injective, InRange, ClearFrom, clear_start, clear_row, clear_next}
use Rattle.lowering_laws.specs.Marks.{Marks, is_marked, through_child}
use Rattle.lowering_laws.specs.Contexts.{Context, depth, tree_at, into_gen, into_sum, into_guard, adding, into_definition, into_body}
use Rattle.lowering_laws.specs.Contexts.{region as scratch}
use Rattle.lowering_laws.specs.Lowered.{word_at, stored_by, leaf, loop_to, loops_at}
use Rattle.lowering_laws.specs.Lowered.{stored as stored_at}
use Rattle.lowering_laws.specs.Sending.{shifted, dropped, sends}
use Rattle.reindexer.specs.Sending.{kept, swapped, flattened, spread}
use Rattle.lowering_laws.specs.Owes.{StorePlaced, LeafOwes, LetOwes, Owes, Room}
use Rattle.lowering_laws.proofs.Scattered.{scatter_plus, scatter_zeros}
use Rattle.lowering_laws.proofs.Words.{AllHeld, Cell, cell}

-- loops around that are there
abbrev pub LoopsBelow : ℕ → List Around → Type 0
LoopsBelow n [] = Unit {0}
LoopsBelow n (Loop d ∷ fs) = (d < n) × LoopsBelow n fs
LoopsBelow n (Swapped ∷ fs) = LoopsBelow n fs
LoopsBelow n (Joined m ∷ fs) = LoopsBelow n fs
LoopsBelow n (Tiled k ∷ fs) = LoopsBelow n fs
LoopsBelow n (Later a ∷ fs) = LoopsBelow n fs
LoopsBelow n (Without a ∷ fs) = LoopsBelow n fs
LoopsBelow n (Before m ∷ fs) = LoopsBelow n fs

pub loops_more : (n m : ℕ) (fs : List Around) → n ≤ m → LoopsBelow n fs → LoopsBelow m fs
loops_more n m [] l h = tt
loops_more n m (Loop d ∷ fs) l h = (omega (arith, h.0), loops_more n m fs l h.1)
loops_more n m (Swapped ∷ fs) l h = loops_more n m fs l h
loops_more n m (Joined a ∷ fs) l h = loops_more n m fs l h
loops_more n m (Tiled k ∷ fs) l h = loops_more n m fs l h
loops_more n m (Later a ∷ fs) l h = loops_more n m fs l h
loops_more n m (Without a ∷ fs) l h = loops_more n m fs l h
loops_more n m (Before a ∷ fs) l h = loops_more n m fs l h

-- one more loop changes nothing
sends_more : (es s r : List ℕ) (j : ℕ) (fs : List Around) → LoopsBelow (length r) fs → sends es s (r ++ j ∷ []) fs ≡ sends es s r fs
sends_more es s r j [] h = refl
sends_more es s r j (Loop d ∷ fs) h = ap (λ x. under x (sends es s (r ++ j ∷ []) fs)) (get_or_append_left r (j ∷ []) 0 d h.0)
    ∙ ap (under (get_or r d 0)) (sends_more es s r j fs h.1)
sends_more es s r j (Swapped ∷ fs) h = ap swapped (sends_more es s r j fs h)
sends_more es s r j (Joined m ∷ fs) h = ap (flattened (extent m s)) (sends_more es s r j fs h)
sends_more es s r j (Tiled k ∷ fs) h = ap (spread k) (sends_more es s r j fs h)
sends_more es s r j (Later a ∷ fs) h = ap (shifted (extent a s)) (sends_more es s r j fs h)
sends_more es s r j (Without a ∷ fs) h = ap (dropped (extent a s)) (sends_more es s r j fs h)
sends_more es s r j (Before m ∷ fs) h = ap (kept (extent m s)) (sends_more es s r j fs h)

pub sends_fix : (es s r : List ℕ) (j d : ℕ) (fs : List Around) → length r ≡ d → LoopsBelow (length r) fs
    → sends es s (r ++ j ∷ []) (Loop d ∷ fs) ≡ under j (sends es s r fs)
sends_fix es s r j d fs e h = ap (λ x. under x (sends es s (r ++ j ∷ []) fs)) (get_or_at r j [] 0 d e) ∙ ap (under j) (sends_more es s r j fs h)

acts-stored : (o : Mode) (b : Buf) (i : Iexp) (w : Wexp) (s r : List ℕ) → acts (stored_by o b i w) s r ≡ store o b (grow w s r) (reckon i s r)
acts-stored Puts b i w s r = acts-put b i w s r
acts-stored Adds b i w s r = acts-add_to b i w s r

pub loop_acts : (n : Items) (marked : Bool) (p : Context) (body : List Stmt) (s r : List ℕ) (d : ℕ) → length r ≡ depth p
    → reckon (index_tree (length r) n) s r ≡ Value (pos d)
    → acts_all (loop_to n marked p body) s r ≡ then_follow (turns 0 d (λ j. acts_all body s (r ++ j ∷ []))) []
loop_acts n marked p body s r d dep h =
    ap (λ l. then_follow l []) (acts-for (tree_at p n) marked (Seq body) s r)
    ∙ ap (λ l. then_follow (turns_below (reckon (tree_at p n) s r) l) []) (λ i j. acts-seq body s (r ++ j ∷ []) i)
    ∙ ap (λ v. then_follow (turns_below v (λ j. acts_all body s (r ++ j ∷ []))) []) (ap (λ l. reckon (index_tree l n) s r) (sym dep) ∙ h)

-- turns that each add a tensor
does_sums : (items : ℕ → List Action) (g : ℕ → Tensor) (ds : List ℕ) (f : Placing) (T : Area) (k : ℕ) (P : Memory → Type 0)
    → ((m : Memory) → P m → Words (part m T)) → (n i e : ℕ) → i + n ≡ e → ((j : ℕ) → HasShape ds (g j))
    → ((j : ℕ) (m : Memory) → j < e → P m → Does (items j) T k m (scatter (g j) f (part m T)) × ((o : Memory) → Leaves T k m (scatter (g j) f (part m T)) o
    → P o))
    → (m : Memory) → P m → (h : ℕ → Tensor) → ((j : ℕ) → h j ≡ g (i + j))
    → Does (turns i n items) T k m (scatter (total (zeros ds) (tabulate n h)) f (part m T))
does_sums items g ds f T k P words zero i e s shape step m now h a = subst (Does [] T k m) (sym (scatter_zeros ds f (part m T) (words m now)))
    (does_nothing T k m)
does_sums items g ds f T k P words (suc n) i e s shape step m now h a =
    let one = step i m (omega arith) now in
    let z : i + 0 ≡ i = omega arith in
    let first : h 0 ≡ g i = a 0 ∙ ap g z in
    let hs : (j : ℕ) → HasShape ds (h j) = λ j. subst (HasShape ds) (sym (a j)) (shape (i + j)) in
    let rest = total (zeros ds) (tabulate n (λ j. h (suc j))) in
    let law : scatter (total (zeros ds) (tabulate (suc n) h)) f (part m T) ≡ scatter rest f (scatter (g i) f (part m T)) =
    scatter_plus (h 0) rest ds f (part m T) (hs 0) (total_shape ds n (λ j. h (suc j)) (λ j. hs (suc j)))
    ∙ ap (λ u. scatter rest f (scatter u f (part m T))) first in
    subst (Does (turns i (suc n) items) T k m) (sym law)
    (does_tick (then_follow (items i) (turns (i + 1) n items)) T k m _
    (does_then (items i) (turns (i + 1) n items) T k m _ _ one.0
    (λ o p. subst (λ v. Does (turns (i + 1) n items) T k o (scatter rest f v)) p.there
    (does_sums items g ds f T k P words n (i + 1) e (omega arith) shape step o (one.1 o p) (λ j. h (suc j))
    (λ j. let e : i + suc j ≡ i + 1 + j = omega arith in a (suc j) ∙ ap g e)))))

calm_kept : (c T : Area) (k : ℕ) (m n : Memory) → Calm c T k → Kept k m n → part n c ≡ part m c
calm_kept (In j) T k m n h p = ap (λ v. get_or v j []) p.inputs
calm_kept (Out j) T k m n h p = absurd h
calm_kept (Part b q) T k m n h p = read_agree q b (region n) (region m) (λ i l u. p.below i (omega (arith, h.0)))

calm_new : (T : Area) (k n : ℕ) (m : Memory) → Target T k m → Calm (Part k n) T (k + n)
calm_new (In j) k n m t = absurd t
calm_new (Out j) k n m t = (omega arith, tt)
calm_new (Part a q) k n m t = (omega arith, inr t.0)

calm_let : (c T : Area) (k n : ℕ) → Calm c T k → Calm c (Part k n) (k + n)
calm_let (In j) T k n c = tt
calm_let (Out j) T k n c = c
calm_let (Part b q) T k n c = (omega (arith, c.0), inl c.0)

calm_more : (c T : Area) (k l : ℕ) → k ≤ l → Calm c T k → Calm c T l
calm_more (In j) T k l h c = tt
calm_more (Out j) T k l h c = c
calm_more (Part b q) T k l h c = (omega (arith, c.0), c.1)

module _ (s : List ℕ) (many len : ℕ) where
  -- where a term stands: its tuples go to places in the area T by f, and scratch is free from the k-th word on
  pub record Stands (p : Context) (T : Area) (es r : List ℕ) (f : Placing) (k : ℕ) : Type 0 where
    pub depth_is : length r ≡ depth p
    pub sends_is : sends es s r p.place.spot.around ≡ f
    pub below : LoopsBelow (length r) p.place.spot.around
    pub buffer : p.target ≡ buffer_of T
    pub offset : extent p.place.target.offset s ≡ base T
    pub extents : extents_at p.place.target.extents s ≡ es
    pub free : extent p.place.free s ≡ k

  -- the memory that its loops find
  pub record State (p : Context) (ar : List Area) (t : List Bound) (T : Area) (es : List ℕ) (k : ℕ) (m : Memory) : Type 0 where
    pub target : Target T k m
    pub long : length (part m T) ≡ word_count es
    pub word : Words (part m T)
    pub held : AllHeld s p.place.sites p.buffers ar t T k m
    pub shaped : AllShaped t
    pub words : AllWords t
    pub scratch_many : length m.scratch ≡ many
    pub scratch_long : length (region m) ≡ len
    pub free : k ≤ len

  -- what the term owes
  pub record Owed (e : Term) (p : Context) (t : List Bound) (r y : List ℕ) (k : ℕ) : Type 0 where
    pub owes : Owes s e p.place r y (extents_of t)
    pub shapes : ShapesFit e s (extents_of t)
    pub literals : LiteralsFit e
    pub room : Room s many len e (extents_of t) k

  -- the loops of e leave its tensor, scattered
  abbrev pub Right : Term → Type 0
  Right e =
      (p : Context) (ms : Marks) (ar : List Area) (t : List Bound) (T : Area) (es r y : List ℕ) (f : Placing) (k : ℕ) (m : Memory)
      → Stands p T es r f k → Owed e p t r y k → Injective (dims e s (extents_of t)) f → InRange (dims e s (extents_of t)) f (word_count es)
      → State p ar t T es k m
      → Clear p.mode (dims e s (extents_of t)) f (part m T) → Does (acts_all (loops_at e p ms) s r) T k m (scatter (den e s y t) f (part m T))

  pub held_by : (T T' : Area) (k k' : ℕ) (m n : Memory) → ((a : Area) → Calm a T k → Calm a T' k' × (part n a ≡ part m a))
      → (xs : List Site) (bs : List Buf) (ar : List Area) (t : List Bound) → AllHeld s xs bs ar t T k m → AllHeld s xs bs ar t T' k' n
  held_by T T' k k' m n g [] [] [] [] h = tt
  held_by T T' k k' m n g (x ∷ xs) (b ∷ bs) (a ∷ ar) (u ∷ t) h =
      let c = g a h.0.calm in (
        record {
          extents = h.0.extents;
          offset = h.0.offset;
          buffer = h.0.buffer;
          calm = c.0;
          words_are = c.1
              ∙ h.0.words_are;
        },
        held_by T T' k k' m n g xs bs ar t h.1,
      )
  held_by T T' k k' m n g [] [] [] (u ∷ t) h = absurd h
  held_by T T' k k' m n g [] [] (a ∷ ar) t h = absurd h
  held_by T T' k k' m n g [] (b ∷ bs) ar t h = absurd h
  held_by T T' k k' m n g (x ∷ xs) [] ar t h = absurd h
  held_by T T' k k' m n g (x ∷ xs) (b ∷ bs) [] t h = absurd h
  held_by T T' k k' m n g (x ∷ xs) (b ∷ bs) (a ∷ ar) [] h = absurd h

  pub state_after : (p : Context) (ar : List Area) (t : List Bound) (T : Area) (es : List ℕ) (k : ℕ) (m n : Memory) (ws : List ℕ) → State p ar t T es k m
      → length ws ≡ length (part m T) → Words ws → Leaves T k m ws n → State p ar t T es k n
  state_after p ar t T es k m n ws st h w l = record {
    target = target_after T k m n ws st.target l;
    long = ap length l.there ∙ h ∙ st.long;
    word = subst Words (sym l.there) w;
    held = held_by T T k k m n (λ a c. (c, calm_after a T k m n ws c l)) p.place.sites p.buffers ar t st.held;
    shaped = st.shaped;
    words = st.words;
    scratch_many = l.many ∙ st.scratch_many;
    scratch_long = l.long ∙ st.scratch_long;
    free = st.free;
  }

  -- the same at a spot with the same tensors
  pub same_state : (p q : Context) (ar : List Area) (t : List Bound) (T : Area) (es : List ℕ) (k : ℕ) (m : Memory) → p.place.sites ≡ q.place.sites
      → p.buffers ≡ q.buffers → State p ar t T es k m → State q ar t T es k m
  same_state p q ar t T es k m a b st = record {
    target = st.target;
    long = st.long;
    word = st.word;
    held = subst (λ xs. AllHeld s xs q.buffers ar t T k m) a (subst (λ bs. AllHeld s p.place.sites bs ar t T k m) b st.held);
    shaped = st.shaped;
    words = st.words;
    scratch_many = st.scratch_many;
    scratch_long = st.scratch_long;
    free = st.free;
  }

  mixes : (o : Mode) (f : Placing) (p x : ℕ) (ws : List ℕ) → f [] ≡ Some p → Clear o [] f ws → x < 2 ^ 64
      → stored o (get_or ws p 0) x ≡ (get_or ws p 0 + x) % 2 ^ 64
  mixes Adds f p x ws e h l = refl
  mixes Puts f p x ws e h l =
      let z : x ≡ get_or ws p 0 + x = omega (arith, h [] p tt e) in
      sym (mod-eq_of_lt l) ∙ ap (λ n. n % 2 ^ 64) z

  -- one word, stored
  pub store_right : (w : Wexp) (u : Tensor) (p : Context) (ar : List Area) (t : List Bound) (T : Area) (es r : List ℕ) (f : Placing) (k : ℕ) (m : Memory)
      → Stands p T es r f k → StorePlaced s p.place r → InRange [] f (word_count es) → State p ar t T es k m → Clear p.mode [] f (part m T)
      → HasWords u → Cell s w u r m → Does (acts_all (stored_at p w) s r) T k m (scatter u f (part m T))
  store_right w u p ar t T es r f k m std owes inside st clear words c =
      let q : ℕ = owes.0 in
      let at : f [] ≡ Some q = ap (λ g. g []) (sym std.sends_is) ∙ ap (λ es. sends es s r p.place.spot.around []) (sym std.extents) ∙ owes.1 in
      let l : q < length (part m T) = omega (arith, inside [] q tt at, st.long) in
      let small : c.word < 2 ^ 64 = subst HasWords c.means words in
      let one = does_store p.mode T k m c.tree q c.word st.target c.gives l in
      let at_place : reckon (tree_at p (store_form p.place)) s r ≡ Value (pos (base T + q)) =
      ap (λ n. reckon (index_tree n (store_form p.place)) s r) (sym std.depth_is) ∙ owes.2 ∙ ap (λ n. Value (pos (n + q))) std.offset in
      let acts_are : acts_all (stored_at p w) s r ≡ Store p.mode (buffer_of T) c.tree (pos (base T + q)) ∷ [] =
      ap (λ l. then_follow l []) (acts-stored p.mode p.target (tree_at p (store_form p.place)) w s r)
      ∙ ap (λ g. then_follow (store p.mode p.target g (reckon (tree_at p (store_form p.place)) s r)) []) c.grows
      ∙ ap (λ v. then_follow (store_at p.mode p.target c.tree v) []) at_place
      ∙ ap (λ v. Store p.mode v c.tree (pos (base T + q)) ∷ []) std.buffer in
      let leaves : set (part m T) q (stored p.mode (get_or (part m T) q 0) c.word) ≡ scatter u f (part m T) =
      ap (set (part m T) q) (mixes p.mode f q c.word (part m T) at clear small) ∙ ap (λ o. add_at o c.word (part m T)) (sym at)
      ∙ ap (λ u. scatter u f (part m T)) (sym c.means) in
      subst (λ zs. Does zs T k m (scatter u f (part m T))) (sym acts_are)
      (subst (Does (Store p.mode (buffer_of T) c.tree (pos (base T + q)) ∷ []) T k m) leaves one)

  leaf_right : (e : Term) (p : Context) (ar : List Area) (t : List Bound) (T : Area) (es r y : List ℕ) (f : Placing) (k : ℕ) (m : Memory)
      → Stands p T es r f k → LeafOwes s e p.place r y (extents_of t) → ShapesFit e s (extents_of t) → LiteralsFit e
      → InRange (dims e s (extents_of t)) f (word_count es) → State p ar t T es k m
      → Clear p.mode (dims e s (extents_of t)) f (part m T) → Does (acts_all (leaf e p) s r) T k m (scatter (den e s y t) f (part m T))
  leaf_right e p ar t T es r y f k m std owes sf lit inside st clear =
      store_right (word_at e p) (den e s y t) p ar t T es r f k m std owes.0 (subst (λ d. InRange d f (word_count es)) owes.2 inside) st
      (subst (λ d. Clear p.mode d f (part m T)) owes.2 clear) (den_words e s y t lit st.words)
      (cell s e p ar r y t T k m std.depth_is owes.1 sf owes.2 owes.3 st.held st.shaped st.words (omega (arith, st.free, st.scratch_long)))

  pub lit_right : (w : ℕ) → Right (Lit w)
  lit_right w p ms ar t T es r y f k m std ow inj inside st clear = leaf_right (Lit w) p ar t T es r y f k m std ow.owes ow.shapes ow.literals inside st clear

  pub word_of_right : (x : Items) → Right (WordOf x)
  word_of_right x p ms ar t T es r y f k m std ow inj inside st clear = leaf_right (WordOf x) p ar t T es r y f k m std ow.owes ow.shapes ow.literals inside st
      clear

  pub sub_right : (a b : Term) → Right (sub a b)
  sub_right a b p ms ar t T es r y f k m std ow inj inside st clear = leaf_right (sub a b) p ar t T es r y f k m std ow.owes ow.shapes ow.literals inside st
      clear

  pub mul_right : (a b : Term) → Right (mul a b)
  mul_right a b p ms ar t T es r y f k m std ow inj inside st clear = leaf_right (mul a b) p ar t T es r y f k m std ow.owes ow.shapes ow.literals inside st
      clear

  pub turn_depth : (n : Items) (p : Context) (r : List ℕ) (j : ℕ) → length r ≡ depth p → length (r ++ j ∷ []) ≡ depth (into_gen n p)
  turn_depth n p r j h = omega (arith, length-append r (j ∷ []), h, binders-bound p.place.spot.path n)

  pub sum_right : (n : Items) (e : Term) → Right e → Right (sum n e)
  sum_right n e ih p ms ar t T es r y f k m std ow inj inside st clear =
      subst (λ zs. Does zs T k m (scatter (den (sum n e) s y t) f (part m T)))
      (sym (loop_acts n false p (loops_at e (into_sum n p) (through_child 0 ms)) s r (extent n s) std.depth_is ow.owes.0))
      (does_last (turns 0 (extent n s) items) T k m _
      (does_sums items (λ j. den e s (j ∷ y) t) (dims e s (extents_of t)) f T k (State p ar t T es k) (λ m h. h.word) (extent n s) 0 (extent n s) (omega arith)
      (λ j. den_shape e s (j ∷ y) t ow.shapes st.shaped) step m st (λ j. den e s (j ∷ y) t)
      (λ j. let z : j ≡ 0 + j = omega arith in ap (λ i. den e s (i ∷ y) t) z)))
    where
      items : ℕ → List Action
      items j = acts_all (loops_at e (into_sum n p) (through_child 0 ms)) s (r ++ j ∷ [])

      step : (j : ℕ) (m : Memory) → j < extent n s → State p ar t T es k m
          → Does (items j) T k m (scatter (den e s (j ∷ y) t) f (part m T)) × ((a : Memory) → Leaves T k m (scatter (den e s (j ∷ y) t) f (part m T)) a
          → State p ar t T es k a)
      step j m l h =
          let more : length r ≤ length (r ++ j ∷ []) = omega (arith, length-append r (j ∷ [])) in (
            ih (into_sum n p) (through_child 0 ms) ar t T es (r ++ j ∷ []) (j ∷ y) f k m
                (record {
                  depth_is = turn_depth n p r j std.depth_is;
                  sends_is = sends_more es s r j p.place.spot.around std.below ∙ std.sends_is;
                  below = loops_more (length r) (length (r ++ j ∷ [])) p.place.spot.around more std.below;
                  buffer = std.buffer;
                  offset = std.offset;
                  extents = std.extents;
                  free = std.free;
                })
                (record { owes = ow.owes.1 j l; shapes = ow.shapes; literals = ow.literals; room = ow.room }) inj inside
                (same_state p (into_sum n p) ar t T es k m refl refl h) tt,
            λ a q. state_after p ar t T es k m a _ h (length-scatter (den e s (j ∷ y) t) f (part m T))
                (Words-scatter (den e s (j ∷ y) t) f (part m T) h.word) q,
          )

  pub gen_right : (n : Items) (e : Term) → Right e → Right (gen n e)
  gen_right n e ih p ms ar t T es r y f k m std ow inj inside st clear =
      subst (λ zs. Does zs T k m (scatter (den (gen n e) s y t) f (part m T)))
      (sym (loop_acts n (is_marked ms) p (loops_at e (into_gen n p) (through_child 0 ms)) s r d std.depth_is ow.owes.0))
      (does_last (turns 0 d items) T k m _
      (subst (Does (turns 0 d items) T k m) (sym rows_are) (does_turns items g f T k P d 0 d (omega arith) step m
      (st, clear_start p.mode d ds f (part m T) clear))))
    where
      d : ℕ
      d = extent n s

      ds : List ℕ
      ds = dims e s (extents_of t)

      g : ℕ → Tensor
      g j = den e s (j ∷ y) t

      items : ℕ → List Action
      items j = acts_all (loops_at e (into_gen n p) (through_child 0 ms)) s (r ++ j ∷ [])

      P : ℕ → Memory → Type 0
      P j m = State p ar t T es k m × ClearFrom p.mode d ds f j (part m T)

      rows_are : scatter (den (gen n e) s y t) f (part m T) ≡ scatter_turns 0 d g f (part m T)
      rows_are = scatter-rows d 0 g g f f (part m T) (λ j. let z : j ≡ 0 + j = omega arith in ap g z)
          (λ j ix. let z : j ≡ 0 + j = omega arith in ap (λ i. f (i ∷ ix)) z)

      step : (j : ℕ) (m : Memory) → j < d → P j m → Does (items j) T k m (scatter (g j) (under j f) (part m T)) × ((a : Memory)
          → Leaves T k m (scatter (g j) (under j f) (part m T)) a → P (j + 1) a)
      step j m l h =
          let long = length-append r (j ∷ []) in
          let more : length r ≤ length (r ++ j ∷ []) = omega (arith, long) in
          let here : depth p < length (r ++ j ∷ []) = omega (arith, long, std.depth_is) in
          let shape = den_shape e s (j ∷ y) t ow.shapes st.shaped in (
            ih (into_gen n p) (through_child 0 ms) ar t T es (r ++ j ∷ []) (j ∷ y) (under j f) k m
                (record {
                  depth_is = turn_depth n p r j std.depth_is;
                  sends_is = sends_fix es s r j (depth p) p.place.spot.around std.depth_is std.below ∙ ap (under j) std.sends_is;
                  below = (here, loops_more (length r) (length (r ++ j ∷ [])) p.place.spot.around more std.below);
                  buffer = std.buffer;
                  offset = std.offset;
                  extents = std.extents;
                  free = std.free;
                })
                (record { owes = ow.owes.1 j l; shapes = ow.shapes; literals = ow.literals; room = ow.room })
                (λ ix jx q w v c e. let same : j ∷ ix ≡ j ∷ jx = inj (j ∷ ix) (j ∷ jx) q (l, w) (l, v) c e in cc)
                (λ ix q w c. inside (j ∷ ix) q (l, w) c) (same_state p (into_gen n p) ar t T es k m refl refl h.0) (clear_row p.mode d ds f j (part m T) l h.1),
            λ a q. (
              state_after p ar t T es k m a _ h.0 (length-scatter (g j) (under j f) (part m T)) (Words-scatter (g j) (under j f) (part m T) h.0.word) q,
              subst (ClearFrom p.mode d ds f (j + 1)) (sym q.there) (clear_next p.mode d ds f j (part m T) (g j) inj shape l h.1),
            ),
          )

  pub guard_right : (c : Cond) (e : Term) → Right e → Right (guard c e)
  guard_right c e ih p ms ar t T es r y f k m std ow inj inside st clear =
      subst (λ zs. Does zs T k m (scatter (den (guard c e) s y t) f (part m T))) (sym acts_are)
      (does_last (if_holds (verdict (all_hold s y c.all)) items) T k m _ (go (all_hold s y c.all) refl))
    where
      items : List Action
      items = acts_all (loops_at e (into_guard c p) (through_child 0 ms)) s r

      acts_are : acts_all (loops_at (guard c e) p ms) s r ≡ then_follow (if_holds (verdict (all_hold s y c.all)) items) []
      acts_are =
          ap (λ l. then_follow l []) (acts-if (tests_of (depth p) c.all) (Seq (loops_at e (into_guard c p) (through_child 0 ms))) s r)
          ∙ ap (λ l. then_follow (if_holds (tested (tests_of (depth p) c.all) s r) l) []) (acts-seq (loops_at e (into_guard c p) (through_child 0 ms)) s r)
          ∙ ap (λ v. then_follow (if_holds v items) []) (ap (λ n. tested (tests_of n c.all) s r) (sym std.depth_is) ∙ tests-hold s r y c.all ow.owes.0)

      go : (b : Bool) → all_hold s y c.all ≡ b → Does (if_holds (verdict b) items) T k m
          (scatter (if b then den e s y t else zeros (dims e s (extents_of t))) f (part m T))
      go true h = does_tick items T k m _
          (ih (into_guard c p) (through_child 0 ms) ar t T es r y f k m
          (record {
            depth_is = std.depth_is ∙ sym (binders-holds p.place.spot.path c);
            sends_is = std.sends_is;
            below = std.below;
            buffer = std.buffer;
            offset = std.offset;
            extents = std.extents;
            free = std.free;
          })
          (record { owes = ow.owes.1 h; shapes = ow.shapes; literals = ow.literals; room = ow.room }) inj inside
          (same_state p (into_guard c p) ar t T es k m refl refl st) clear)
      go false h = does_tick [] T k m _ (subst (Does [] T k m) (sym (scatter_zeros (dims e s (extents_of t)) f (part m T) st.word)) (does_nothing T k m))

  adding_right : (a b : Term) → Right a → Right b → (p : Context) (ms : Marks) (ar : List Area) (t : List Bound) (T : Area) (es r y : List ℕ) (f : Placing)
      (k : ℕ) (m : Memory)
      → Stands p T es r f k → Owes s a p.place r y (extents_of t) × Owes s b p.place r y (extents_of t) → ShapesFit (add a b) s (extents_of t)
      → LiteralsFit (add a b) → Room s many len (add a b) (extents_of t) k
      → Injective (dims a s (extents_of t)) f → InRange (dims a s (extents_of t)) f (word_count es) → State p ar t T es k m
      → Does (acts_all (loops_at a (adding p) (through_child 0 ms) ++ loops_at b (adding p) (through_child 1 ms)) s r) T k m
      (scatter (den (add a b) s y t) f (part m T))
  adding_right a b ia ib p ms ar t T es r y f k m std owes sf lit room inj inside st =
      let ds = extents_of t in
      let la = loops_at a (adding p) (through_child 0 ms) in
      let lb = loops_at b (adding p) (through_child 1 ms) in
      let ha = den_shape a s y t sf.1 st.shaped in
      let hb = subst (λ d. HasShape d (den b s y t)) sf.0 (den_shape b s y t sf.2 st.shaped) in
      let stand : Stands (adding p) T es r f k = record {
        depth_is = std.depth_is;
        sends_is = std.sends_is;
        below = std.below;
        buffer = std.buffer;
        offset = std.offset;
        extents = std.extents;
        free = std.free;
      } in
      subst (Does (acts_all (la ++ lb) s r) T k m) (sym (scatter_plus (den a s y t) (den b s y t) (dims a s ds) f (part m T) ha hb))
      (subst (λ zs. Does zs T k m (scatter (den b s y t) f (scatter (den a s y t) f (part m T)))) (sym (acts_all-append la lb s r))
      (does_then (acts_all la s r) (acts_all lb s r) T k m (scatter (den a s y t) f (part m T)) _
      (ia (adding p) (through_child 0 ms) ar t T es r y f k m stand (record { owes = owes.0; shapes = sf.1; literals = lit.0; room = room.0 }) inj inside
      (same_state p (adding p) ar t T es k m refl refl st) tt)
      (λ c l.
      let sc = state_after p ar t T es k m c _ st (length-scatter (den a s y t) f (part m T)) (Words-scatter (den a s y t) f (part m T) st.word) l in
      subst (λ w. Does (acts_all lb s r) T k c (scatter (den b s y t) f w)) l.there
      (ib (adding p) (through_child 1 ms) ar t T es r y f k c stand (record { owes = owes.1; shapes = sf.2; literals = lit.1; room = room.1 })
      (subst (λ d. Injective d f) (sym sf.0) inj) (subst (λ d. InRange d f (word_count es)) (sym sf.0) inside)
      (same_state p (adding p) ar t T es k c refl refl sc) tt))))

  pub add_right : (a b : Term) → Right a → Right b → Right (add a b)
  add_right a b ia ib p ms ar t T es r y f k m std ow inj inside st clear = go (adds_words a b (shapes p.place)) ow.owes
    where
      go : (c : Bool) → either c (LeafOwes s (add a b) p.place r y (extents_of t)) (Owes s a p.place r y (extents_of t) × Owes s b p.place r y (extents_of t))
          → Does (acts_all (if c then leaf (add a b) p else (loops_at a (adding p) (through_child 0 ms) ++ loops_at b (adding p) (through_child 1 ms))) s r) T k
          m (scatter (den (add a b) s y t) f (part m T))
      go true owes = leaf_right (add a b) p ar t T es r y f k m std owes ow.shapes ow.literals inside st clear
      go false owes = adding_right a b ia ib p ms ar t T es r y f k m std owes ow.shapes ow.literals ow.room inj inside st

  pub let_right : (a b : Term) → Right a → Right b → Right (let_in a b)
  let_right a b ia ib p ms ar t T es r y f k m std ow inj inside st clear =
      subst (λ zs. Does zs T k m result) (sym acts_are)
      (does_before (zeroed scratch (pos k) 0 n) (then_follow defs bodies) T k k' n m zs result more fills
      (λ c l. does_before defs bodies T k k' n c (flat u) result more (def c l)
      (λ d q. does_fewer bodies T k k' d result more (body c d l q))))
    where
      ds : List (List ℕ)
      ds = extents_of t

      n : ℕ
      n = word_count (dims a s ds)

      k' : ℕ
      k' = k + n

      more : k ≤ k + n
      more = omega arith

      A : Area
      A = Part k n

      u : Tensor
      u = den a s y t

      t' : List Bound
      t' = (dims a s ds, u) ∷ t

      la : List Stmt
      la = loops_at a (into_definition a p) (through_child 0 ms)

      lb : List Stmt
      lb = loops_at b (into_body a p) (through_child 1 ms)

      lo : LetOwes s a p.place r ds
      lo = ow.owes.0

      zs : List ℕ
      zs = replicate n 0

      result : List ℕ
      result = scatter (den b s y t') f (part m T)

      defs : List Action
      defs = acts_all la s r

      bodies : List Action
      bodies = acts_all lb s r

      shape : HasShape (dims a s ds) u
      shape = den_shape a s y t ow.shapes.0 st.shaped

      words : HasWords u
      words = den_words a s y t ow.literals.0 st.words

      acts_are : acts_all (loops_at (let_in a b) p ms) s r ≡ then_follow (zeroed scratch (pos k) 0 n) (then_follow defs bodies)
      acts_are =
          ap (λ l. then_follow l (acts_all (la ++ lb) s r)) (acts-zero scratch (tree_at p p.place.free) (tree_at p (length_form (shape_at a p.place))) s r)
          ∙ ap (λ v. then_follow (fill scratch v (reckon (tree_at p (length_form (shape_at a p.place))) s r)) (acts_all (la ++ lb) s r))
          (ap (λ l. reckon (index_tree l p.place.free) s r) (sym std.depth_is) ∙ lo.0 ∙ ap (λ q. Value (pos q)) std.free)
          ∙ ap (λ v. then_follow (fill scratch (Value (pos k)) v) (acts_all (la ++ lb) s r))
          (ap (λ l. reckon (index_tree l (length_form (shape_at a p.place))) s r) (sym std.depth_is) ∙ lo.1)
          ∙ ap (then_follow (zeroed scratch (pos k) 0 n)) (acts_all-append la lb s r)

      tar : Target A k' m
      tar = (omega arith, omega (arith, ow.room.0, st.scratch_many), omega (arith, ow.room.1, st.scratch_long))

      fills : Does (zeroed scratch (pos k) 0 n) A k' m zs
      fills = let z : length (part m A) ≡ n = length-read n k (region m) in does_zero n 0 A k' m tar (omega arith) (omega (arith, lo.4, std.free))

      free_is : extent (into_body a p).place.free s ≡ k'
      free_is = lo.3 ∙ ap (λ q. q + n) std.free

      first_state : (c : Memory) → Leaves A k' m zs c → State (into_definition a p) ar t A (dims a s ds) k' c
      first_state c l = record {
        target = target_after A k' m c zs tar l;
        long = ap length l.there ∙ length-replicate {A = ℕ} n 0;
        word = subst Words (sym l.there) (λ q. subst (λ v. v < 2 ^ 64) (sym (zero_at n q)) (omega arith));
        held = held_by T A k k' m c (λ x h. let h' = calm_let x T k n h in (h', calm_after x A k' m c zs h' l)) p.place.sites p.buffers ar t st.held;
        shaped = st.shaped;
        words = st.words;
        scratch_many = l.many ∙ st.scratch_many;
        scratch_long = l.long ∙ st.scratch_long;
        free = ow.room.1;
      }

      def : (c : Memory) → Leaves A k' m zs c → Does defs A k' c (flat u)
      def c l =
          subst (Does defs A k' c) (ap (scatter u (placed 0 (dims a s ds))) l.there ∙ flat_from_zeros u (dims a s ds) shape words)
          (ia (into_definition a p) (through_child 0 ms) ar t A (dims a s ds) r y (placed 0 (dims a s ds)) k' c
          (record { depth_is = std.depth_is; sends_is = refl; below = tt; buffer = refl; offset = std.free; extents = lo.2; free = free_is })
          (record { owes = ow.owes.1; shapes = ow.shapes.0; literals = ow.literals.0; room = ow.room.2 })
          (λ ix jx q v w g h. let e : Some (0 + place (dims a s ds) ix) ≡ Some (0 + place (dims a s ds) jx) = sym (placed-is 0 (dims a s ds) ix v) ∙ g ∙ sym h
          ∙ placed-is 0 (dims a s ds) jx w in
          let e' : 0 + place (dims a s ds) ix ≡ 0 + place (dims a s ds) jx = cc in place_inj (dims a s ds) ix jx v w (omega arith))
          (λ ix q v g. let e : Some (0 + place (dims a s ds) ix) ≡ Some q = sym (placed-is 0 (dims a s ds) ix v) ∙ g in
          let e' : 0 + place (dims a s ds) ix ≡ q = cc in omega (arith, place_lt (dims a s ds) ix v))
          (first_state c l) (λ ix q v g. ap (λ ws. get_or ws q 0) l.there ∙ zero_at n q))

      same_second : (c d : Memory) → Leaves A k' m zs c → Leaves A k' c (flat u) d → Kept k m d
      same_second c d l q = Kept-trans k m c d (leaves_kept k k n k' m c zs (omega arith) more l) (leaves_kept k k n k' c d (flat u) (omega arith) more q)

      second_state : (c d : Memory) → Leaves A k' m zs c → Leaves A k' c (flat u) d → State (into_body a p) (A ∷ ar) t' T es k' d
      second_state c d l q =
          let kept' = same_second c d l q in
          let w : part d T ≡ part m T = part_kept T k m d st.target kept' in
          record {
            target = target_more T k k' d more (target_kept T k m d st.target kept');
            long = ap length w ∙ st.long;
            word = subst Words (sym w) st.word;
            held = (
              record { extents = lo.2; offset = std.free; buffer = refl; calm = calm_new T k n m st.target; words_are = q.there },
              held_by T T k k' m d (λ x h. (calm_more x T k k' more h, calm_kept x T k m d h kept')) p.place.sites p.buffers ar t st.held,
            );
            shaped = (shape, st.shaped);
            words = (words, st.words);
            scratch_many = kept'.many ∙ st.scratch_many;
            scratch_long = kept'.long ∙ st.scratch_long;
            free = ow.room.1;
          }

      body : (c d : Memory) → Leaves A k' m zs c → Leaves A k' c (flat u) d → Does bodies T k' d result
      body c d l q =
          let w : part d T ≡ part m T = part_kept T k m d st.target (same_second c d l q) in
          subst (λ v. Does bodies T k' d (scatter (den b s y t') f v)) w
          (ib (into_body a p) (through_child 1 ms) (A ∷ ar) t' T es r y f k' d
          (record {
            depth_is = std.depth_is;
            sends_is = std.sends_is;
            below = std.below;
            buffer = std.buffer;
            offset = std.offset;
            extents = std.extents;
            free = free_is;
          })
          (record { owes = ow.owes.2; shapes = ow.shapes.1; literals = ow.literals.1; room = ow.room.3 }) inj inside (second_state c d l q)
          (subst (Clear p.mode (dims b s (extents_of t')) f) (sym w) clear))
