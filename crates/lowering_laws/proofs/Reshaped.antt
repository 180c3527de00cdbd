-- The loops of reshape operators: those of a part, through one more change of places.
use Rattle.std.proofs.Common.{◌≡◌, ℕ, ◌+◌, ◌-◌, ◌*◌, List, [], ◌∷◌, ◌++◌, length, get_or, refl, sym, ap, ◌∙◌, subst, arith}
use Rattle.affine_index.specs.declared.form.Items.{Items}
use Rattle.term_tree.specs.declared.term.Term.{Term}
use Rattle.term_tree.specs.Syntax.{concat, flatten, split, transpose, trunc_l, trunc_r, pad_l, pad_r}
use Rattle.term_tree.specs.Tensors.{Tensor, zeros}
use Rattle.term_tree.specs.Shaped.{HasShape, word_count}
use Rattle.term_tree.specs.Meaning.{Bound, extent, extents_of, head_of, tail_of, dims, den}
use Rattle.shape_rules.specs.Fits.{HasFirst, HasTwo}
use Rattle.shape_rules.proofs.DenShape.{den_shape}
use Rattle.loop_lang.specs.declared.stmt.Stmt.{Stmt}
use Rattle.loop_lang.specs.Actions.{acts_all}
use Rattle.loop_lang.specs.Memory.{Memory}
use Rattle.loop_lang.proofs.Following.{acts_all-append}
use Rattle.final_rules.specs.declared.spot.Around.{Around}
use Rattle.final_rules.specs.declared.spot.Around.TheVariants.{Swapped, Joined, Tiled, Later, Without, Before}
use Rattle.final_rules.specs.Places.{shape_at, first_of, rest_of}
use Rattle.lowering_laws.specs.Scatter.{Placing, scatter}
use Rattle.lowering_laws.proofs.Algebra.{Within, length-scatter, Words-scatter, scatter_other}
use Rattle.lowering_laws.proofs.Does.{Area, part, Does, does_then}
use Rattle.lowering_laws.proofs.Clear.{Clear, Injective, InRange}
use Rattle.lowering_laws.specs.Marks.{Marks, through_child}
use Rattle.lowering_laws.specs.Contexts.{Context, onto_right, under_frame}
use Rattle.lowering_laws.specs.Lowered.{loops_at}
use Rattle.reindexer.specs.Sending.{kept, swapped, flattened, spread}
use Rattle.lowering_laws.specs.Sending.{shifted, dropped, sends}
use Rattle.lowering_laws.proofs.Scattered.{scatter_concat, scatter_pad_r, scatter_pad_l, scatter_first, scatter_later, scatter_flatten, scatter_split}
use Rattle.lowering_laws.proofs.Transposed.{scatter_transpose}
use Rattle.lowering_laws.proofs.Goods.{chunks, clear_through, widen, shift_in, shifted_inj, apart_rows, Good, good_kept, good_swapped, good_shifted, good_wide}
use Rattle.lowering_laws.proofs.Goods.{good_dropped, good_flat, good_spread, chunks_hold}
use Rattle.lowering_laws.proofs.Right.{Stands, State, Owed, Right, LoopsBelow, state_after, same_state}

first_is : (d : List ℕ) → HasFirst d → d ≡ head_of d ∷ tail_of d
first_is [] h = absurd h
first_is (n ∷ ns) h = refl

two_is : (d : List ℕ) → HasTwo d → d ≡ head_of d ∷ head_of (tail_of d) ∷ tail_of (tail_of d)
two_is [] h = absurd h
two_is (n ∷ []) h = absurd h
two_is (n ∷ m ∷ ns) h = refl

module _ (s : List ℕ) (many len : ℕ) where
  -- the part at q, whose tuples of ds go by g where those of cs go by f
  reshaped : (e : Term) → Right s many len e → (q : Context) (ms : Marks) (ar : List Area) (t : List Bound) (T : Area) (es r y : List ℕ) (g f : Placing)
      (cs ds : List ℕ) (u : Tensor) (k : ℕ) (m : Memory)
      → Stands s many len q T es r g k → Owed s many len e q t r y k → dims e s (extents_of t) ≡ ds → Good cs f ds g → Injective cs f
      → InRange cs f (word_count es) → State s many len q ar t T es k m
      → Clear q.mode cs f (part m T) → (HasShape ds (den e s y t) → scatter u f (part m T) ≡ scatter (den e s y t) g (part m T))
      → Does (acts_all (loops_at e q ms) s r) T k m (scatter u f (part m T))
  reshaped e ih q ms ar t T es r y g f cs ds u k m std ow shape good inj inside st clear law =
      subst (Does (acts_all (loops_at e q ms) s r) T k m) (sym (law (subst (λ d. HasShape d (den e s y t)) shape (den_shape e s y t ow.shapes st.shaped))))
      (ih q ms ar t T es r y g k m std ow
      (subst (λ v. Injective v g) (sym shape) (good.apart inj))
      (λ ix p w a. let i = good.back ix p (subst (λ v. Within v ix) shape w) a in inside i.0 p i.1 i.2) st
      (clear_through q.mode cs (dims e s (extents_of t)) f g (part m T) (part m T)
      (λ ix p w a. let i = good.back ix p (subst (λ v. Within v ix) shape w) a in (i.0, i.1, i.2, refl)) clear))

  -- under one more change of places
  under_std : (p : Context) (x : Around) (T : Area) (es r : List ℕ) (f g : Placing) (k : ℕ) → sends es s r (x ∷ p.place.spot.around) ≡ g
      → LoopsBelow (length r) (x ∷ p.place.spot.around) → Stands s many len p T es r f k → Stands s many len (under_frame x p) T es r g k
  under_std p x T es r f g k e b std = record {
    depth_is = std.depth_is;
    sends_is = e;
    below = b;
    buffer = std.buffer;
    offset = std.offset;
    extents = std.extents;
    free = std.free;
  }

  pub pad_r_right : (a : Items) (e : Term) → Right s many len e → Right s many len (pad_r a e)
  pad_r_right a e ih p ms ar t T es r y f k m std ow inj inside st clear =
      let d = dims e s (extents_of t) in
      let u = den e s y t in
      reshaped e ih p (through_child 0 ms) ar t T es r y f f ((head_of d + extent a s) ∷ tail_of d) (head_of d ∷ tail_of d) (den (pad_r a e) s y t) k m std
      (record { owes = ow.owes; shapes = ow.shapes.1; literals = ow.literals; room = ow.room }) (first_is d ow.shapes.0)
      (good_wide (head_of d) (extent a s) (tail_of d) f) inj inside st clear
      (λ h. scatter_pad_r (extent a s) (head_of d) (tail_of d) u f (part m T) st.word h)

  pub pad_l_right : (a : Items) (e : Term) → Right s many len e → Right s many len (pad_l a e)
  pad_l_right a e ih p ms ar t T es r y f k m std ow inj inside st clear =
      let d = dims e s (extents_of t) in
      let n = extent a s in
      let c : head_of d + n ≡ n + head_of d = omega arith in
      reshaped e ih (under_frame (Later a) p) (through_child 0 ms) ar t T es r y (shifted n f) f ((n + head_of d) ∷ tail_of d) (head_of d ∷ tail_of d)
      (den (pad_l a e) s y t) k m
      (under_std p (Later a) T es r f (shifted n f) k (ap (shifted n) std.sends_is) std.below std)
      (record { owes = ow.owes; shapes = ow.shapes.1; literals = ow.literals; room = ow.room }) (first_is d ow.shapes.0)
      (good_shifted n (head_of d) (tail_of d) f)
      (subst (λ v. Injective (v ∷ tail_of d) f) c inj) (subst (λ v. InRange (v ∷ tail_of d) f (word_count es)) c inside)
      (same_state s many len p (under_frame (Later a) p) ar t T es k m refl refl st) (subst (λ v. Clear p.mode (v ∷ tail_of d) f (part m T)) c clear)
      (λ h. scatter_pad_l n (head_of d) (tail_of d) (den e s y t) f (part m T) st.word h)

  pub trunc_l_right : (a : Items) (e : Term) → Right s many len e → Right s many len (trunc_l a e)
  trunc_l_right a e ih p ms ar t T es r y f k m std ow inj inside st clear =
      let d = dims e s (extents_of t) in
      let n = extent a s in
      reshaped e ih (under_frame (Without a) p) (through_child 0 ms) ar t T es r y (dropped n f) f ((head_of d - n) ∷ tail_of d) (head_of d ∷ tail_of d)
      (den (trunc_l a e) s y t) k m
      (under_std p (Without a) T es r f (dropped n f) k (ap (dropped n) std.sends_is) std.below std)
      (record { owes = ow.owes; shapes = ow.shapes.1; literals = ow.literals; room = ow.room }) (first_is d ow.shapes.0)
      (good_dropped n (head_of d) (tail_of d) f)
      inj inside (same_state s many len p (under_frame (Without a) p) ar t T es k m refl refl st) clear
      (λ h. scatter_later n (head_of d) (tail_of d) (den e s y t) f (part m T) h)

  pub trunc_r_right : (a : Items) (e : Term) → Right s many len e → Right s many len (trunc_r a e)
  trunc_r_right a e ih p ms ar t T es r y f k m std ow inj inside st clear =
      let d = dims e s (extents_of t) in
      let n = extent a s in
      let x = Before (first_of (shape_at (trunc_r a e) p.place)) in
      reshaped e ih (under_frame x p) (through_child 0 ms) ar t T es r y (kept (head_of d - n) f) f ((head_of d - n) ∷ tail_of d) (head_of d ∷ tail_of d)
      (den (trunc_r a e) s y t) k m
      (under_std p x T es r f (kept (head_of d - n) f) k (ap (λ v. kept v (sends es s r p.place.spot.around)) ow.owes.0
      ∙ ap (kept (head_of d - n)) std.sends_is) std.below std)
      (record { owes = ow.owes.1; shapes = ow.shapes.1; literals = ow.literals; room = ow.room }) (first_is d ow.shapes.0)
      (good_kept (head_of d - n) (head_of d) (tail_of d) f)
      inj inside (same_state s many len p (under_frame x p) ar t T es k m refl refl st) clear
      (λ h. scatter_first n (head_of d) (tail_of d) (den e s y t) f (part m T) h)

  pub flatten_right : (e : Term) → Right s many len e → Right s many len (flatten e)
  flatten_right e ih p ms ar t T es r y f k m std ow inj inside st clear =
      let d = dims e s (extents_of t) in
      let n = head_of d in
      let q = head_of (tail_of d) in
      let ds = tail_of (tail_of d) in
      let x = Joined (first_of (rest_of (shape_at e p.place))) in
      reshaped e ih (under_frame x p) (through_child 0 ms) ar t T es r y (flattened q f) f ((n * q) ∷ ds) (n ∷ q ∷ ds) (den (flatten e) s y t) k m
      (under_std p x T es r f (flattened q f) k (ap (λ v. flattened v (sends es s r p.place.spot.around)) ow.owes.0
      ∙ ap (flattened q) std.sends_is) std.below std)
      (record { owes = ow.owes.1; shapes = ow.shapes.1; literals = ow.literals; room = ow.room }) (two_is d ow.shapes.0) (good_flat n q ds f)
      inj inside (same_state s many len p (under_frame x p) ar t T es k m refl refl st) clear
      (λ h. scatter_flatten n q ds (den e s y t) f (part m T) h)

  pub split_right : (c : ℕ) (e : Term) → Right s many len e → Right s many len (split c e)
  split_right c e ih p ms ar t T es r y f k m std ow inj inside st clear =
      let d = dims e s (extents_of t) in
      let n = head_of d in
      reshaped e ih (under_frame (Tiled c) p) (through_child 0 ms) ar t T es r y (spread c f) f (chunks n c ∷ c ∷ tail_of d) (n ∷ tail_of d)
      (den (split c e) s y t) k m
      (under_std p (Tiled c) T es r f (spread c f) k (ap (spread c) std.sends_is) std.below std)
      (record { owes = ow.owes.1; shapes = ow.shapes.1; literals = ow.literals; room = ow.room }) (first_is d ow.shapes.0)
      (good_spread n c (tail_of d) f ow.owes.0)
      inj inside (same_state s many len p (under_frame (Tiled c) p) ar t T es k m refl refl st) clear
      (λ h. scatter_split n (chunks n c) c (tail_of d) (den e s y t) f (part m T) st.word h (chunks_hold n c ow.owes.0))

  pub transpose_right : (e : Term) → Right s many len e → Right s many len (transpose e)
  transpose_right e ih p ms ar t T es r y f k m std ow inj inside st clear =
      let d = dims e s (extents_of t) in
      let n = head_of d in
      let q = head_of (tail_of d) in
      let ds = tail_of (tail_of d) in
      reshaped e ih (under_frame Swapped p) (through_child 0 ms) ar t T es r y (swapped f) f (q ∷ n ∷ ds) (n ∷ q ∷ ds) (den (transpose e) s y t) k m
      (under_std p Swapped T es r f (swapped f) k (ap swapped std.sends_is) std.below std)
      (record { owes = ow.owes; shapes = ow.shapes.1; literals = ow.literals; room = ow.room }) (two_is d ow.shapes.0) (good_swapped n q ds f)
      inj inside (same_state s many len p (under_frame Swapped p) ar t T es k m refl refl st) clear
      (λ h. scatter_transpose (zeros ds) n q ds (den e s y t) f (part m T) h)

  pub concat_right : (a b : Term) → Right s many len a → Right s many len b → Right s many len (concat a b)
  concat_right a b ia ib p ms ar t T es r y f k m std ow inj inside st clear =
      subst (Does (acts_all (la ++ lb) s r) T k m) (sym law)
      (subst (λ zs. Does zs T k m (scatter tb g (scatter ta f (part m T)))) (sym (acts_all-append la lb s r))
      (does_then (acts_all la s r) (acts_all lb s r) T k m (scatter ta f (part m T)) _
      (ia p (through_child 0 ms) ar t T es r y f k m std (record { owes = ow.owes.1; shapes = ow.shapes.1; literals = ow.literals.0; room = ow.room.0 })
      (λ ix jx v w c. inj ix jx v (wide ix w) (wide jx c)) (λ ix v w. inside ix v (wide ix w)) st
      (clear_through p.mode ((n + q) ∷ ts) da f f (part m T) (part m T) (λ ix v w e. (ix, wide ix w, e, refl)) clear))
      (λ c h.
      let sc = state_after s many len p ar t T es k m c _ st (length-scatter ta f (part m T)) (Words-scatter ta f (part m T) st.word) h in
      let w : part c T ≡ scatter ta f (part m T) = h.there in
      subst (λ ws. Does (acts_all lb s r) T k c (scatter tb g ws)) w
      (ib (onto_right a p) (through_child 1 ms) ar t T es r y g k c
      (under_std p (Later (first_of (shape_at a p.place))) T es r f g k (ap (λ v. shifted v (sends es s r p.place.spot.around)) ow.owes.0
      ∙ ap (shifted n) std.sends_is) std.below std)
      (record { owes = ow.owes.2; shapes = ow.shapes.2; literals = ow.literals.1; room = ow.room.1 })
      (subst (λ v. Injective v g) (sym db_is) (shifted_inj n q ts f inj))
      (λ ix v z e. let i = shift_in n q ts ix v f (subst (λ z. Within z ix) db_is z) e in inside ((n + i.0) ∷ i.1) v i.3 i.4)
      (same_state s many len p (onto_right a p) ar t T es k c refl refl sc)
      (clear_through p.mode ((n + q) ∷ ts) db f g (part m T) (part c T)
      (λ ix v z e.
      let i = shift_in n q ts ix v f (subst (λ z. Within z ix) db_is z) e in (
        (n + i.0) ∷ i.1,
        i.3,
        i.4,
        ap (λ ws. get_or ws v 0) w ∙ scatter_other ta da f (part m T) v ha
            (λ jx x c. apart_rows n q ts f i.0 v i.1 jx inj i.3 i.4 (subst (λ z. Within z jx) da_is x) c),
      ))
      clear)))))
    where
      da : List ℕ
      da = dims a s (extents_of t)

      db : List ℕ
      db = dims b s (extents_of t)

      n : ℕ
      n = head_of da

      q : ℕ
      q = head_of db

      ts : List ℕ
      ts = tail_of da

      ta : Tensor
      ta = den a s y t

      tb : Tensor
      tb = den b s y t

      g : Placing
      g = shifted n f

      la : List Stmt
      la = loops_at a p (through_child 0 ms)

      lb : List Stmt
      lb = loops_at b (onto_right a p) (through_child 1 ms)

      da_is : da ≡ n ∷ ts
      da_is = first_is da ow.shapes.0.0

      db_is : db ≡ q ∷ ts
      db_is = first_is db ow.shapes.0.1 ∙ ap (λ v. q ∷ v) ow.shapes.0.2

      ha : HasShape da ta
      ha = den_shape a s y t ow.shapes.1 st.shaped

      ha' : HasShape (n ∷ ts) ta
      ha' = subst (λ d. HasShape d ta) da_is ha

      hb' : HasShape (q ∷ ts) tb
      hb' = subst (λ d. HasShape d tb) db_is (den_shape b s y t ow.shapes.2 st.shaped)

      wide : (ix : List ℕ) → Within da ix → Within ((n + q) ∷ ts) ix
      wide ix w = widen n q ts ix (subst (λ z. Within z ix) da_is w)

      law : scatter (den (concat a b) s y t) f (part m T) ≡ scatter tb g (scatter ta f (part m T))
      law = scatter_concat n q ts ta tb f (part m T) ha' hb'
