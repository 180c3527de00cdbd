-- The loops of a read that is stored: one for each of its extents, and a full read inside.
use Rattle.std.proofs.Common.{◌≡◌, ℕ, zero, suc, ◌+◌, ◌<◌, ◌≤◌, false, List, [], ◌∷◌, ◌++◌, length, get_or, Option, Some, None, pos, refl, sym, ap, ◌∙◌}
use Rattle.std.proofs.Common.{subst, arith, length-append, append_assoc}
use Rattle.std.proofs.lemmas.List.{append-nil}
use Rattle.affine_index.specs.Form.{var_form}
use Rattle.affine_index.specs.Put.{moved, shifted}
use Rattle.affine_index.specs.Value.{items_value}
use Rattle.affine_index.specs.declared.form.Items.{Items}
use Rattle.affine_index.proofs.ArithmeticLaws.{normal-ordered}
use Rattle.affine_index.proofs.GivenLaws.{var-normal}
use Rattle.affine_index.proofs.PutOrdered.{put_all-ordered}
use Rattle.affine_index.proofs.PutValue.{value-shifted}
use Rattle.affine_index.proofs.Values.{value-of_atom, value-Var}
use Rattle.affine_index.specs.declared.form.Atom.TheVariants.{Var}
use Rattle.term_tree.specs.declared.term.Term.{Term, TVar}
use Rattle.term_tree.specs.Syntax.{index}
use Rattle.term_tree.specs.Meaning.{Bound, no_bound, extent, extents_of, dims, den}
use Rattle.term_tree.specs.Modules.{extents_at}
use Rattle.term_tree.specs.Shape.{Extents}
use Rattle.term_tree.specs.Shaped.{HasShape, HasWords, word_count}
use Rattle.term_tree.specs.Tensors.{Tensor, Word, End, Row, rows_of, from_rows, tabulate}
use Rattle.shape_rules.specs.Fits.{LiteralsFit, ShapesFit}
use Rattle.shape_rules.proofs.DenShape.{den_shape}
use Rattle.shape_rules.proofs.DenWords.{den_words}
use Rattle.loop_lang.specs.Actions.{Action, turns, acts_all}
use Rattle.loop_lang.specs.Memory.{Memory}
use Rattle.final_rules.specs.declared.read.Read.{Read}
use Rattle.final_rules.specs.Form.{read_under, one_deeper, each_shifted}
use Rattle.final_rules.specs.Owed.{Values}
use Rattle.final_rules.specs.Places.{shape_at}
use Rattle.lowering_laws.specs.Scatter.{Placing, under, scatter}
use Rattle.lowering_laws.proofs.Algebra.{length-scatter, Words-scatter, scatter_turns, scatter-rows}
use Rattle.lowering_laws.proofs.RowOrder.{rows_many, row_has, At}
use Rattle.lowering_laws.proofs.Does.{Area, part, Leaves, Does, does_last, does_turns}
use Rattle.lowering_laws.proofs.Clear.{Clear, Injective, InRange, ClearFrom, clear_start, clear_row, clear_next}
use Rattle.lowering_laws.specs.Contexts.{Context, depth, into_gen}
use Rattle.lowering_laws.specs.Lowered.{loaded, full_read, full_read_if}
use Rattle.lowering_laws.specs.Owes.{AllOrdered, VarsThere, FullReadOwes, FullReadOwesIf}
use Rattle.lowering_laws.proofs.Scattered.{rows_again}
use Rattle.lowering_laws.proofs.Words.{load_cell, part_at, var_there}
use Rattle.lowering_laws.proofs.Right.{Stands, State, Right, store_right, state_after, same_state, loop_acts, loops_more, sends_fix, turn_depth}

deeper_ordered : (xs : List Items) → AllOrdered xs → AllOrdered (each_shifted xs ++ var_form 0 ∷ [])
deeper_ordered [] h = (normal-ordered (var_form 0) (var-normal 0), tt)
deeper_ordered (x ∷ xs) h = (
  put_all-ordered (moved 0 1) (λ v. normal-ordered (moved 0 1 v) (var-normal _)) x h.0,
  deeper_ordered xs h.1,
)

row_words : (t : Tensor) (i : ℕ) → HasWords t → HasWords (get_or (rows_of t) i End)
row_words (Word w) i h = tt
row_words End i h = tt
row_words (Row a rest) zero h = h.0
row_words (Row a rest) (suc i) h = row_words rest i h.1

rows_tabulated : (ts : List Tensor) (n : ℕ) → length ts ≡ n → tabulate n (λ i. get_or ts i End) ≡ ts
rows_tabulated [] zero e = refl
rows_tabulated [] (suc n) e = absurd (omega (arith, e))
rows_tabulated (t ∷ ts) zero e = absurd (omega (arith, e))
rows_tabulated (t ∷ ts) (suc n) e = ap (λ xs. t ∷ xs) (rows_tabulated ts n (omega (arith, e)))

-- the tensor is the part of v at the indices of the read
abbrev Reads : List ℕ → Read → List ℕ → Tensor → Tensor → Type 0
Reads s d y v u = (ix js : List ℕ) (w : ℕ) → Values s d.indices y ix → At v (ix ++ js) w → At u js w

-- the values of indices with one more, in a turn
deeper_values : (s : List ℕ) (xs : List Items) (j : ℕ) (y ix : List ℕ) → AllOrdered xs → Values s (each_shifted xs ++ var_form 0 ∷ []) (j ∷ y) ix
    → (kx : List ℕ) × (ix ≡ kx ++ j ∷ []) × Values s xs y kx
deeper_values s [] j y [] o v = absurd v
deeper_values s [] j y (i ∷ []) o v =
    let e : pos j ≡ pos i = sym (value-of_atom s (j ∷ y) (Var 0) ∙ value-Var s (j ∷ y) 0) ∙ v.0 in
    let same : i ≡ j = cc in
    ([], ap (λ k. k ∷ []) same, tt)
deeper_values s [] j y (i ∷ k ∷ ix) o v = absurd v.1
deeper_values s (x ∷ xs) j y [] o v = absurd v
deeper_values s (x ∷ xs) j y (i ∷ ix) o v =
    let rest = deeper_values s xs j y ix o.1 v.1 in
    let e : items_value s (j ∷ y) (shifted 0 1 x) ≡ items_value s y x = value-shifted s (j ∷ y) 0 1 x (omega arith) o.0 in
    (i ∷ rest.0, ap (λ k. i ∷ k) rest.1, (sym e ∙ v.0, rest.2))

-- so a row is the part at one index more
reads_row : (s : List ℕ) (d : Read) (j : ℕ) (y : List ℕ) (v u : Tensor) → AllOrdered d.indices → Reads s d y v u
    → Reads s (one_deeper d) (j ∷ y) v (get_or (rows_of u) j End)
reads_row s d j y v u o h ix js w vs a =
    let sp = deeper_values s d.indices j y ix o vs in
    (h sp.0 (j ∷ js) w sp.2 (subst (λ z. At v z w) (ap (λ z. z ++ js) sp.1 ∙ append_assoc sp.0 (j ∷ []) js) a)).1

module _ (s : List ℕ) (many len : ℕ) where
  -- a read of these extents leaves the part that it is
  abbrev FullRight : Extents → Type 0
  FullRight ns =
      (d : Read) (p : Context) (ar : List Area) (t : List Bound) (T : Area) (es r y : List ℕ) (f : Placing) (k : ℕ) (m : Memory) (u : Tensor)
      → Stands s many len p T es r f k → FullReadOwes s ns d p.place r y → AllOrdered d.indices → d.var < length (extents_of t)
      → Injective (extents_at ns s) f → InRange (extents_at ns s) f (word_count es) → State s many len p ar t T es k m
      → Clear p.mode (extents_at ns s) f (part m T)
      → HasShape (extents_at ns s) u → HasWords u → Reads s d y (get_or t d.var no_bound).1 u
      → Does (acts_all (full_read ns d p) s r) T k m (scatter u f (part m T))

  word_right : FullRight []
  word_right d p ar t T es r y f k m u std owes ord there inj inside st clear shape words reads =
      store_right s many len (loaded d p) u p ar t T es r f k m std owes.0 inside st clear words
      (load_cell s d p ar r y t T k m u std.depth_is owes.1 there st.held st.shaped st.words (omega (arith, st.free, st.scratch_long))
      (λ ix w vs a. reads ix [] w vs (subst (λ z. At (get_or t d.var no_bound).1 z w) (sym (append-nil ix)) a)))

  rows_right : (n : Items) (ns : Extents) → FullRight ns → FullRight (n ∷ ns)
  rows_right n ns ih d p ar t T es r y f k m u std owes ord there inj inside st clear shape words reads =
      subst (λ zs. Does zs T k m (scatter u f (part m T))) (sym (loop_acts n false p (full_read ns (one_deeper d) (into_gen n p)) s r e std.depth_is owes.0))
      (does_last (turns 0 e items) T k m _
      (subst (Does (turns 0 e items) T k m) (sym rows_are) (does_turns items g f T k P e 0 e (omega arith) step m
      (st, clear_start p.mode e ds f (part m T) clear))))
    where
      e : ℕ
      e = extent n s

      ds : List ℕ
      ds = extents_at ns s

      g : ℕ → Tensor
      g j = get_or (rows_of u) j End

      items : ℕ → List Action
      items j = acts_all (full_read ns (one_deeper d) (into_gen n p)) s (r ++ j ∷ [])

      P : ℕ → Memory → Type 0
      P j m = State s many len p ar t T es k m × ClearFrom p.mode e ds f j (part m T)

      again : u ≡ from_rows (tabulate e g)
      again = rows_again (HasShape ds) e u shape ∙ ap from_rows (sym (rows_tabulated (rows_of u) e (rows_many (HasShape ds) e u shape)))

      rows_are : scatter u f (part m T) ≡ scatter_turns 0 e g f (part m T)
      rows_are = ap (λ v. scatter v f (part m T)) again
          ∙ scatter-rows e 0 g g f f (part m T) (λ j. let z : j ≡ 0 + j = omega arith in ap g z)
          (λ j ix. let z : j ≡ 0 + j = omega arith in ap (λ i. f (i ∷ ix)) z)

      step : (j : ℕ) (m : Memory) → j < e → P j m → Does (items j) T k m (scatter (g j) (under j f) (part m T)) × ((a : Memory)
          → Leaves T k m (scatter (g j) (under j f) (part m T)) a → P (j + 1) a)
      step j m l h =
          let long = length-append r (j ∷ []) in
          let more : length r ≤ length (r ++ j ∷ []) = omega (arith, long) in
          let here : depth p < length (r ++ j ∷ []) = omega (arith, long, std.depth_is) in
          let row : HasShape ds (g j) = row_has (HasShape ds) e u j shape l in (
            ih (one_deeper d) (into_gen n p) ar t T es (r ++ j ∷ []) (j ∷ y) (under j f) k m (g j)
                (record {
                  depth_is = turn_depth s many len n p r j std.depth_is;
                  sends_is = sends_fix es s r j (depth p) p.place.spot.around std.depth_is std.below ∙ ap (under j) std.sends_is;
                  below = (here, loops_more (length r) (length (r ++ j ∷ [])) p.place.spot.around more std.below);
                  buffer = std.buffer;
                  offset = std.offset;
                  extents = std.extents;
                  free = std.free;
                })
                (owes.1 j l) (deeper_ordered d.indices ord) there
                (λ ix jx q w v c e. let same : j ∷ ix ≡ j ∷ jx = inj (j ∷ ix) (j ∷ jx) q (l, w) (l, v) c e in cc)
                (λ ix q w c. inside (j ∷ ix) q (l, w) c) (same_state s many len p (into_gen n p) ar t T es k m refl refl h.0)
                (clear_row p.mode e ds f j (part m T) l h.1)
                row (row_words u j words) (reads_row s d j y (get_or t d.var no_bound).1 u ord reads),
            λ a q. (
              state_after s many len p ar t T es k m a _ h.0 (length-scatter (g j) (under j f) (part m T))
                  (Words-scatter (g j) (under j f) (part m T) h.0.word) q,
              subst (ClearFrom p.mode e ds f (j + 1)) (sym q.there) (clear_next p.mode e ds f j (part m T) (g j) inj row l h.1),
            ),
          )

  full_right : (ns : Extents) → FullRight ns
  full_right [] = word_right
  full_right (n ∷ ns) = rows_right n ns (full_right ns)

  -- a term that is a read, in its own extents
  read_right : (e : Term) (o : Option Read) → read_under e [] ≡ o
      → (p : Context) (ar : List Area) (t : List Bound) (T : Area) (es r y : List ℕ) (f : Placing) (k : ℕ) (m : Memory)
      → Stands s many len p T es r f k → extents_at (shape_at e p.place) s ≡ dims e s (extents_of t) → VarsThere e (length (extents_of t))
      → FullReadOwesIf s (shape_at e p.place) o p.place r y
      → ShapesFit e s (extents_of t) → LiteralsFit e → Injective (dims e s (extents_of t)) f → InRange (dims e s (extents_of t)) f (word_count es)
      → State s many len p ar t T es k m
      → Clear p.mode (dims e s (extents_of t)) f (part m T) → Does (acts_all (full_read_if (shape_at e p.place) o p) s r) T k m
      (scatter (den e s y t) f (part m T))
  read_right e None o p ar t T es r y f k m std same there owes sf lit inj inside st clear = absurd owes
  read_right e (Some d) o p ar t T es r y f k m std same there owes sf lit inj inside st clear =
      full_right (shape_at e p.place) d p ar t T es r y f k m (den e s y t) std owes.1 owes.0 (var_there s e [] d (length (extents_of t)) o there)
      (subst (λ ds. Injective ds f) (sym same) inj) (subst (λ ds. InRange ds f (word_count es)) (sym same) inside) st
      (subst (λ ds. Clear p.mode ds f (part m T)) (sym same) clear)
      (subst (λ ds. HasShape ds (den e s y t)) (sym same) (den_shape e s y t sf st.shaped)) (den_words e s y t lit st.words)
      (λ ix js w vs a. let q = part_at s e [] d y t w ix js o vs a in none_before y q.0 js (den e s y t) w q.1 q.2)
    where
      none_before : (y jx js : List ℕ) (u : Tensor) (w : ℕ) → Values s [] y jx → At u (jx ++ js) w → At u js w
      none_before y [] js u w v a = a
      none_before y (j ∷ jx) js u w v a = absurd v

  pub t_var_right : (q : ℕ) → Right s many len (TVar q)
  t_var_right q p ms ar t T es r y f k m std ow inj inside st clear =
      read_right (TVar q) (read_under (TVar q) []) refl p ar t T es r y f k m std ow.owes.0 ow.owes.1 ow.owes.2 ow.shapes ow.literals inj inside st clear

  pub index_right : (e : Term) (x : Items) → Right s many len (index e x)
  index_right e x p ms ar t T es r y f k m std ow inj inside st clear =
      read_right (index e x) (read_under (index e x) []) refl p ar t T es r y f k m std ow.owes.0 ow.owes.1 ow.owes.2 ow.shapes ow.literals inj inside st clear
